-- A packed word with at most two of s1..s67 wrong, and s0 either, is unpacked to itself, its frame number modulo 4, and
-- the wrong bits are told. Assumes nothing.
use mathlib.Core.Path.{◌≡◌, sym, ap, ◌∙◌, subst}
use mathlib.Core.List.{List}
use Prim.Native.Nat.{ℕ, ◌%◌, ◌<◌, ◌≤◌}
use native.Mathlib.Omega.{arith}
use lib.ListN.{length, take, drop}
use Rattle.std.specs.Prelude.{Result, Ok}
use Rattle.ground.specs.declared.Refusal.{Refusal}
use Rattle.ground.specs.Bits.{Bits}
use Rattle.ground.proofs.Digits.{small_digits}
use Rattle.bch.specs.Code.{places, distance, encode}
use Rattle.bch.specs.Promise.{mended_at}
use Rattle.tps.specs.declared.word.TpsWord.{TpsWord}
use Rattle.tps.specs.Codes.{constellation_code, rate_code, guard_code, codes_of, word_of}
use Rattle.tps.specs.Word.{fields_of, information_of, word_bits, codes_in, modulo4}
use Rattle.tps.specs.Packing.{Unpacked, mended_word, pack_leaves, unpacked_by, Unpacks}
use Rattle.tps.proofs.Codes.{constellation_small, rate_small, guard_small, word_of_codes}
use Rattle.tps.proofs.Fields.{fields_bits}
use Rattle.tps.proofs.Packing.{information-length, pack_writes}
use Rattle.tps.proofs.SentRead.{sent-read}

module _ (w : TpsWord) (h : w.cell_id < 256) where
  -- the information of a word says its codes, the frame number modulo 4
  codes_back : codes_in (information_of w) ≡ codes_of (modulo4 w)
  codes_back =
      simp (
        small_digits 2 (w.frame_number % 4) (omega arith),
        small_digits 2 (constellation_code w.constellation) (omega (arith, constellation_small w.constellation)),
        small_digits 3 (rate_code w.code_rate_hp) (omega (arith, rate_small w.code_rate_hp)),
        small_digits 2 (guard_code w.guard) (omega (arith, guard_small w.guard)),
        small_digits 8 w.cell_id h,
      )

  -- and so it says the word
  pub information-says : word_of (codes_in (information_of w)) ≡ Ok (modulo4 w)
  information-says = ap word_of codes_back ∙ word_of_codes (modulo4 w)

  module _ (b : List ℕ) (hb : Bits b) (hl : length b ≡ 68) where
    -- the word with the bits of s1..s67 at which b differs from the bits s
    abbrev mended_from : List ℕ → Unpacked
    mended_from s = mended_word (modulo4 w) (mended_at (places 0 (drop 1 s) (drop 1 b)))

    -- of a word's bits s0..s67, at most two of s1..s67 wrong and s0 either, unpacking answers the word, its frame
    -- number modulo 4, and the places of the wrong bits
    pub unpack_packed : (r : Unpacked) → distance (drop 1 (word_bits w)) (drop 1 b) ≤ 2 → Unpacks b r → r ≡ mended_from (word_bits w)
    unpack_packed r n k =
        sent-read (information_of w) b r
        (record { information = (fields_bits (fields_of (codes_of w)), information-length w); received = (hb, hl); near = n }) k
        ∙ ap (λ (x : Result TpsWord Refusal). unpacked_by x (mended_at (places 0 (encode (information_of w)) (drop 1 b)))) information-says

    -- the same of what packing leaves in an output with room for it
    pub unpack_written : (o a : List ℕ) (r : Unpacked) → 68 ≤ length o → a ≡ pack_leaves w o → distance (drop 1 (take 68 a)) (drop 1 b) ≤ 2
        → Unpacks b r → r ≡ mended_from (take 68 a)
    unpack_written o a r room e n k =
        let s : take 68 a ≡ word_bits w = ap (take 68) e ∙ pack_writes w o room in
        unpack_packed r (subst (λ (l : List ℕ). distance (drop 1 l) (drop 1 b) ≤ 2) s n) k ∙ ap mended_from (sym s)
