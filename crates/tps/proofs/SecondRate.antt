-- Document 02, E2: unpacking ignores s33..s35. Codewords whose informations differ there alone, each with at most two
-- of s1..s67 wrong and s0 either, are read as the same word, or are both refused as reserved. Assumes nothing.
use mathlib.Core.Path.{◌≡◌, refl, sym, ap, ◌∙◌}
use mathlib.Core.List.{List, [], ◌∷◌}
use Prim.Native.Nat.{ℕ, zero, suc, ◌+◌, ◌-◌, ◌≤◌}
use native.Mathlib.Omega.{arith}
use lib.ListN.{take, drop}
use lib.Seq.{take-take, drop-drop}
use Rattle.std.specs.Prelude.{Option, Some, Result, Ok, Err}
use Rattle.ground.specs.declared.Refusal.{Refusal}
use Rattle.ground.specs.Refusal.{ACCEPTED}
use Rattle.ground.specs.Digits.{value_of}
use Rattle.bch.specs.Code.{places, encode}
use Rattle.bch.specs.Promise.{mended_at}
use Rattle.bch.specs.declared.Mended.{Mended}
use Rattle.tps.specs.declared.inner.Codes.{Codes}
use Rattle.tps.specs.declared.word.TpsWord.{TpsWord}
use Rattle.tps.specs.Codes.{word_of}
use Rattle.tps.specs.Word.{said, codes_in}
use Rattle.tps.specs.Packing.{Unpacked, unpacked_by, Unpacks}
use Rattle.tps.proofs.SentRead.{Sent, sent-read}

-- ---- what two informations that differ in s33..s35 alone say

-- a part that ends within the first n items is a part of these
front-part : (n k size : ℕ) (s : List ℕ) → k + size ≤ n → take size (drop k s) ≡ take size (drop k (take n s))
front-part n zero size s h = sym (take-take size n s (omega arith))
front-part zero (suc k) size s h = absurd (omega arith)
front-part (suc n) (suc k) size [] h = refl
front-part (suc n) (suc k) size (x ∷ s) h = front-part n k size s (omega arith)

-- s1..s32 and s36..s53 are the same
pub record ButSecondRate (s t : List ℕ) : Type 0 where
  pub before : take 32 s ≡ take 32 t
  pub behind : drop 35 s ≡ drop 35 t

module _ (s t : List ℕ) (e : ButSecondRate s t) where
  said-before : (first last : ℕ) → (first - 1) + (suc last - first) ≤ 32 → said first last s ≡ said first last t
  said-before first last h =
      ap (value_of 0)
      (front-part 32 (first - 1) (suc last - first) s h
      ∙ ap (λ (l : List ℕ). take (suc last - first) (drop (first - 1) l)) e.before
      ∙ sym (front-part 32 (first - 1) (suc last - first) t h))

  -- from the k-th item behind s35 on
  said-behind : (k size : ℕ) → value_of 0 (take size (drop (35 + k) s)) ≡ value_of 0 (take size (drop (35 + k) t))
  said-behind k size =
      ap (λ (l : List ℕ). value_of 0 (take size l)) (sym (drop-drop k 35 s) ∙ ap (drop k) e.behind ∙ drop-drop k 35 t)

  pub same_codes : codes_in s ≡ codes_in t
  same_codes =
      simp (said-before 23 24 (omega arith), said-before 25 26 (omega arith), said-before 30 32 (omega arith), said-behind 0 2, said-behind 4 8) refl

-- ---- and how codewords with them are read

-- the refusal and the word of an answer, whatever was mended
abbrev pub word_said : Unpacked → Option Refusal × List TpsWord
word_said (Ok u) = (ACCEPTED, u.word ∷ [])
word_said (Err refusal) = (Some refusal, [])

by_codes : (x : Result TpsWord Refusal) (m n : Mended) → word_said (unpacked_by x m) ≡ word_said (unpacked_by x n)
by_codes (Ok w) m n = refl
by_codes (Err k) m n = refl

pub second_rate_ignored : (s t a b : List ℕ) (r q : Unpacked) → ButSecondRate s t → Sent s a → Sent t b → Unpacks a r → Unpacks b q → word_said r ≡ word_said q
second_rate_ignored s t a b r q e hs ht u w =
    ap word_said (sent-read s a r hs u)
    ∙ ap (λ (k : Codes). word_said (unpacked_by (word_of k) (mended_at (places 0 (encode s) (drop 1 a))))) (same_codes s t e)
    ∙ by_codes (word_of (codes_in t)) (mended_at (places 0 (encode s) (drop 1 a))) (mended_at (places 0 (encode t) (drop 1 b)))
    ∙ sym (ap word_said (sent-read t b q ht w))
