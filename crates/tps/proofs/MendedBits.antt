-- Document 02, E1: what an accepted call tells of mended bits. They are those at which the bits s1..s67 differ from a
-- codeword within distance two of them, so that they are at most two. Assumes nothing.
use mathlib.Core.Path.{◌≡◌, sym, ap, subst}
use mathlib.Core.Logic.{inl, inr}
use mathlib.Core.List.{List}
use Prim.Native.Nat.{ℕ, ◌≤◌}
use Rattle.std.specs.Prelude.{Option, Some, None, Result, Ok, Err}
use Rattle.ground.specs.declared.Refusal.{Refusal}
use Rattle.ground.specs.Answer.{value_or}
use lib.ListN.{take, drop}
use Rattle.bch.specs.Code.{Codeword, places, distance}
use Rattle.bch.specs.Promise.{mended_at}
use Rattle.bch.specs.declared.Mended.{Mended}
use Rattle.tps.specs.declared.word.TpsWord.{TpsWord}
use Rattle.tps.specs.Codes.{word_of}
use Rattle.tps.specs.Word.{codes_in}
use Rattle.tps.specs.Packing.{Unpacked, mended_word, unpack_no, unpacked_by, UnpacksBy, Unpacks}

-- the bits s1..s67 were changed to a codeword within distance two of them
pub record MendedTo (bits : List ℕ) (m : Mended) : Type 0 where
  pub word : List ℕ
  pub codeword : Codeword word
  pub near : distance word bits ≤ 2
  pub told : m ≡ mended_at (places 0 word bits)

module _ (w : TpsWord) (m : Mended) where
  said-mended : (x : Result TpsWord Refusal) (n : Mended) → mended_word w m ≡ unpacked_by x n → m ≡ n
  said-mended (Ok v) n e = ap (λ (u : Unpacked). (value_or (record { word = w; mended = m }) u).mended) e
  said-mended (Err k) n e = cc

  mended-by : (number : Option Refusal) (b : List ℕ) → UnpacksBy number b (mended_word w m) → MendedTo (drop 1 b) m
  mended-by None b (inl h) =
      record { word = h.word; codeword = h.codeword; near = h.near; told = said-mended (word_of (codes_in (take 53 h.word))) _ h.says }
  mended-by None b (inr h) = let e = h.1 in cc
  mended-by (Some k) b h = cc

  pub unpacked_mended_lem : (b : List ℕ) → Unpacks b (mended_word w m) → MendedTo (drop 1 b) m
  unpacked_mended_lem b u = mended-by (unpack_no b) b u

  -- their count is the distance, and so at most two
  pub mended_at_most_two : (b : List ℕ) → Unpacks b (mended_word w m) → m.count ≤ 2
  mended_at_most_two b u =
      let h = unpacked_mended_lem b u in subst (λ (n : Mended). n.count ≤ 2) (sym h.told) h.near
