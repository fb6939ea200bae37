-- The bits of a codeword, at most two of s1..s67 wrong and s0 either, are unpacked to what its information says, and the
-- wrong bits are told. Assumes nothing.
use mathlib.Core.Path.{◌≡◌, refl, sym, ap, ◌∙◌, subst}
use mathlib.Core.List.{List}
use mathlib.Core.Logic.{inl}
use Prim.Native.Nat.{ℕ, ◌≤◌}
use lib.ListN.{length, drop}
use lib.Seq.{take_at}
use Rattle.std.specs.Prelude.{Option}
use Rattle.ground.specs.declared.Refusal.{Refusal}
use Rattle.ground.specs.Bits.{Bits}
use Rattle.ground.specs.Digits.{digits_of}
use Rattle.ground.proofs.Bits.{are-bits}
use Rattle.bch.specs.Code.{places, distance, parity, encode}
use Rattle.bch.specs.Promise.{mended_at}
use Rattle.bch.proofs.Codeword.{encode-codeword}
use Rattle.tps.specs.Codes.{word_of}
use Rattle.tps.specs.Word.{SYMBOLS, codes_in}
use Rattle.tps.specs.Packing.{Unpacked, unpacked_by, read_as, UnpacksBy, Unpacks}
use Rattle.tps.proofs.Unpacking.{unpack_accepted}
use Rattle.tps.proofs.Determined.{unpack_determined}

-- the bits b are those of a codeword with the information s, at most two of s1..s67 wrong and s0 either
pub record Sent (s b : List ℕ) : Type 0 where
  pub information : Bits s × (length s ≡ 53)
  pub received : Bits b × (length b ≡ SYMBOLS)
  pub near : distance (encode s) (drop 1 b) ≤ 2

-- a call answers what the information says
pub sent-read : (s b : List ℕ) (r : Unpacked) → Sent s b → Unpacks b r → r ≡ unpacked_by (word_of (codes_in s)) (mended_at (places 0 (encode s) (drop 1 b)))
sent-read s b r h u =
    unpack_determined b r (read_as (encode s) (drop 1 b)) u
    (subst (λ (k : Option Refusal). UnpacksBy k b (read_as (encode s) (drop 1 b)))
    (sym (unpack_accepted b h.received.1 (are-bits b h.received.0)))
    (inl record {
      word = encode s;
      codeword = encode-codeword s h.information.0 h.information.1;
      near = h.near;
      says = refl;
    }))
    ∙ ap (λ (l : List ℕ). unpacked_by (word_of (codes_in l)) (mended_at (places 0 (encode s) (drop 1 b))))
    (take_at s (digits_of 14 (parity s)) 53 h.information.1)
