-- Unpacking: s0 and the bits s1..s67 where the tests pass, and the answer by the information that the decoder gave.
-- Assumes nothing.
use mathlib.Core.Path.{◌≡◌, refl, sym, ap, ap₂, ◌∙◌, subst}
use mathlib.Core.Logic.{◌⊎◌, inl, inr}
use mathlib.Core.Bool.{true, ◌&&◌}
use mathlib.Core.List.{List, [], ◌∷◌, ◌++◌, append-nil}
use Prim.Native.Nat.{ℕ, ◌-◌, ◌<◌, ◌≤◌}
use native.Mathlib.Omega.{arith}
use lib.ListN.{length, get_or, take, drop, replicate, length-drop}
use lib.Seq.{take_all, length-take-le}
use borrow.Author.Tests.{eq-eqb, lt-ltb}
use Rattle.std.specs.Prelude.{Option, Some, None, Ok, Err}
use Rattle.ground.specs.declared.Refusal.{Refusal}
use Rattle.ground.specs.Refusal.{ACCEPTED, RESERVED}
use Rattle.ground.specs.Bits.{Bits, are_bits}
use Rattle.ground.proofs.Bits.{bits-drop, bits-take, bits_of_lem, are-bits}
use Rattle.bch.specs.Code.{places}
use Rattle.bch.specs.Promise.{mended_at, mended_in, Decoded, Corrected, Answers, Decodes}
use Rattle.bch.specs.declared.Mended.{Mended}
use Rattle.bch.proofs.Answer as bch
use Rattle.tps.specs.Codes.{word_of}
use Rattle.tps.specs.Word.{said, codes_in}
use Rattle.tps.specs.Packing.{Unpacked, number_of, unpack_no, unpacked_by, Received, UnpacksBy, Unpacks}
use Rattle.tps.proofs.Codes.{word_number}
use Rattle.tps.proofs.Fields.{part-below}

-- ---- s0, and the bits s1..s67

behind : (x : ℕ) (xs : List ℕ) → take (length (x ∷ xs) - 1) xs ≡ xs
behind x xs = take_all (length (x ∷ xs) - 1) xs (omega arith)

pub all-bits : (b : List ℕ) → length b ≡ 68 → get_or b 0 0 ≤ 1 → are_bits (take (length b - 1) (drop 1 b)) ≡ true → are_bits b ≡ true
all-bits [] l f h = absurd (omega (arith, l))
all-bits (x ∷ xs) l f h = ap₂ ◌&&◌ (lt-ltb x 2 (omega (arith, f))) (sym (ap are_bits (behind x xs)) ∙ h)

-- ---- the refusal

module _ (b : List ℕ) where
  by_number_lem : (n : Option Refusal) (r : Unpacked) → unpack_no b ≡ n → UnpacksBy n b r → Unpacks b r
  by_number_lem n r e h = subst (λ (k : Option Refusal). UnpacksBy k b r) (sym e) h

  module _ (hl : length b ≡ 68) where
    pub unpack_accepted : are_bits b ≡ true → unpack_no b ≡ ACCEPTED
    unpack_accepted h = simp (eq-eqb (length b) 68 hl, h) refl

pub refused_is : (r : Unpacked) (k : Refusal) → number_of r ≡ Some k → r ≡ Err k
refused_is (Ok u) k e = cc
refused_is (Err n) k e = cc

-- ---- what the decoder gave

module _ (b : List ℕ) (hl : length b ≡ 68) (hb : are_bits b ≡ true) where
  pub rest-length : length (drop 1 b) ≡ 67
  rest-length = length-drop 1 b ∙ omega arith

  pub rest-bits : Bits (drop 1 b)
  rest-bits = bits-drop 1 b (bits_of_lem b hb)

  rest : take (length b - 1) (drop 1 b) ≡ drop 1 b
  rest = take_all (length b - 1) (drop 1 b) (omega (arith, rest-length))

  module _ (r : Decoded) (a : List ℕ) (d : Decodes (take (length b - 1) (drop 1 b)) (replicate 53 0) r a) where
    given : Answers None (drop 1 b) (replicate 53 0) r a
    given =
        subst (λ (n : Option Refusal). Answers n (drop 1 b) (replicate 53 0) r a)
        (bch.accepted 67 53 (drop 1 b) (replicate 53 0) rest-length (are-bits (drop 1 b) rest-bits) (omega arith))
        (subst (λ (w : List ℕ). Decodes w (replicate 53 0) r a) rest d)

    module _ (m : Mended) (e : r ≡ Ok m) where
      corrected-by : Answers None (drop 1 b) (replicate 53 0) r a → Corrected (drop 1 b) (replicate 53 0) r a
      corrected-by (inl h) = h
      corrected-by (inr h) = let f = h.1.answers in cc

      corrected : Corrected (drop 1 b) (replicate 53 0) r a
      corrected = corrected-by given

      size : length (take 53 corrected.word) ≡ 53
      size = length-take-le 53 corrected.word (omega (arith, corrected.codeword.size))

      information : a ≡ take 53 corrected.word
      information =
          corrected.leaves
          ∙ ap (λ (k : ℕ). take 53 corrected.word ++ drop k (replicate 53 0)) size
          ∙ append-nil (take 53 corrected.word)

      pub information-bits : Bits a × (length a ≡ 53)
      information-bits = (
        subst (λ (l : List ℕ). Bits l) (sym information) (bits-take 53 corrected.word corrected.codeword.bits),
        ap length information ∙ size,
      )

      mended : m ≡ mended_at (places 0 corrected.word (drop 1 b))
      mended = ap mended_in (sym e ∙ corrected.answers)

      pub unpack_word : (u : Unpacked) → u ≡ unpacked_by (word_of (codes_in a)) m → Unpacks b u
      unpack_word u f =
          by_number_lem b ACCEPTED u (unpack_accepted b hl hb)
          (inl record {
            word = corrected.word;
            codeword = corrected.codeword;
            near = corrected.near;
            says = f ∙ ap₂ (λ (s : List ℕ) (m : Mended). unpacked_by (word_of (codes_in s)) m) information mended;
          })

-- ---- RESERVED exactly where document 01 says

module _ {b : List ℕ} {r : Unpacked} (h : Received b r) where
  pub received-number : let s : List ℕ = take 53 h.word in
      ((number_of r ≡ ACCEPTED) × (said 25 26 s < 3) × (said 30 32 s < 5))
      ⊎ ((number_of r ≡ RESERVED) × ((3 ≤ said 25 26 s) ⊎ (5 ≤ said 30 32 s)))
  received-number =
      let s : List ℕ = take 53 h.word in
      let l : length s ≡ 53 = length-take-le 53 h.word (omega (arith, h.codeword.size)) in
      rw h.says (word_number (codes_in s) _ (part-below s 35 2 (bits-take 53 h.word h.codeword.bits) (omega arith)))
