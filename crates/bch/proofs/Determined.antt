-- Two results that meet the decoder's promise are equal, and so are two that meet the encoder's: the codeword within
-- distance two is the only one. So an encoding with at most two bits wrong is decoded to its information, and the
-- answer as a function meets the promise. Assumes nothing.
use mathlib.Core.Path.{◌≡◌, refl, sym, ap, ◌∙◌, subst}
use mathlib.Core.Logic.{inl, inr}
use mathlib.Core.Bool.{Bool, true, false, not}
use mathlib.Core.List.{List, [], ◌∷◌}
use Prim.Native.Nat.{ℕ, ◌≤◌}
use lib.Dec.{eqb, ltb}
use lib.ListN.{length, take}
use lib.Seq.{take_at}
use borrow.Author.Tests.{eqb-true}
use Rattle.std.specs.Prelude.{Option, Some, None}
use Rattle.ground.specs.declared.Refusal.{Refusal}
use Rattle.ground.specs.Refusal.{ACCEPTED, LENGTH, NOT_A_BIT, OUTPUT_SHORT, NO_WORD, ◌gives◌, first_of}
use Rattle.ground.specs.Answer.{kept, written}
use Rattle.ground.specs.Bits.{Bits, are_bits}
use Rattle.ground.specs.Digits.{digits_of}
use Rattle.ground.proofs.Answers.{OneResult, one-result}
use Rattle.ground.proofs.Bits.{bits_of_lem, are-bits}
use Rattle.bch.specs.Code.{parity, encode, Codeword, places, distance, Lone}
use Rattle.bch.specs.NearCodeword.{Near, near_of, is_none, information_in, places_to}
use Rattle.bch.specs.Promise.{encode_answer, encode_leaves, Decoded, decoded, Corrected, Refuses, Answers, Decodes, decode_answer, decode_leaves}
use Rattle.bch.proofs.Distance.{unique}
use Rattle.bch.proofs.Codeword.{encode-codeword}
use Rattle.bch.proofs.NearCodeword.{near-found, near_none}
use Rattle.bch.proofs.Answer.{accepted}

refused-same : (k₀ : Option Refusal) (o a b : List ℕ) (r q : Decoded) → Refuses k₀ o r a → Refuses k₀ o q b → (r ≡ q) × (a ≡ b)
refused-same k₀ o a b r q h k = (h.answers ∙ sym k.answers, h.leaves ∙ sym k.leaves)

module _ (w o a b : List ℕ) (r q : Decoded) (hb : Bits w) (hl : length w ≡ 67) where
  corrected-same : Corrected w o r a → Corrected w o q b → (r ≡ q) × (a ≡ b)
  corrected-same h k =
      let e = unique h.word k.word w h.codeword k.codeword hb hl h.near k.near in (
        h.answers ∙ ap (λ (c : List ℕ). decoded ACCEPTED (places 0 c w)) e ∙ sym k.answers,
        h.leaves ∙ ap (λ (c : List ℕ). written (take 53 c) o) e ∙ sym k.leaves,
      )

  answers-same : Answers ACCEPTED w o r a → Answers ACCEPTED w o q b → (r ≡ q) × (a ≡ b)
  answers-same (inl h) (inl k) = corrected-same h k
  answers-same (inl h) (inr k) = absurd (k.0 h.word h.codeword h.near)
  answers-same (inr h) (inl k) = absurd (h.0 k.word k.codeword k.near)
  answers-same (inr h) (inr k) = refused-same NO_WORD o a b r q h.1 k.1

-- the refusal of a call by the outcomes of its tests
abbrev number_by : Bool → Bool → Bool → Option Refusal
number_by x y z = first_of (not x gives LENGTH ∷ not y gives NOT_A_BIT ∷ z gives OUTPUT_SHORT ∷ [])

determined_by_tests : (w o a b : List ℕ) (r q : Decoded) (x y z : Bool) → eqb (length w) 67 ≡ x → are_bits w ≡ y
    → Answers (number_by x y z) w o r a → Answers (number_by x y z) w o q b → (r ≡ q) × (a ≡ b)
determined_by_tests w o a b r q true true true ex ey h k = refused-same OUTPUT_SHORT o a b r q h k
determined_by_tests w o a b r q true true false ex ey h k = answers-same w o a b r q (bits_of_lem w ey) (eqb-true (length w) 67 ex) h k
determined_by_tests w o a b r q true false z ex ey h k = refused-same NOT_A_BIT o a b r q h k
determined_by_tests w o a b r q false y z ex ey h k = refused-same LENGTH o a b r q h k

-- of 67 bits w and an output that holds o: two answers with what they leave, each as the decoder promises, are equal
pub decode_determined : (w o a b : List ℕ) (r q : Decoded) → Decodes w o r a → Decodes w o q b → (r ≡ q) × (a ≡ b)
decode_determined w o a b r q h k = determined_by_tests w o a b r q (eqb (length w) 67) (are_bits w) (ltb (length o) 53) refl refl h k

pub encode_determined : (info o : List ℕ) → OneResult (encode_answer info o) (encode_leaves info o)
encode_determined info o = one-result (encode_answer info o) (encode_leaves info o)

-- ---- what the promise says of 67 bits with room for the information

module _ (w o a : List ℕ) (r : Decoded) (hb : Bits w) (hl : length w ≡ 67) (room : 53 ≤ length o) (h : Decodes w o r a) where
  answered : Answers ACCEPTED w o r a
  answered = subst (λ (k : Option Refusal). Answers k w o r a) (accepted 67 53 w o hl (are-bits w hb) room) h

  near-answered : (c : List ℕ) → Codeword c → distance c w ≤ 2 → Answers ACCEPTED w o r a → (r ≡ decoded ACCEPTED (places 0 c w)) × (a ≡ written (take 53 c) o)
  near-answered c hc hd (inl k) =
      let e = unique k.word c w k.codeword hc hb hl k.near hd in (
        k.answers ∙ ap (λ (x : List ℕ). decoded ACCEPTED (places 0 x w)) e,
        k.leaves ∙ ap (λ (x : List ℕ). written (take 53 x) o) e,
      )
  near-answered c hc hd (inr k) = absurd (k.0 c hc hd)

  -- an encoding with at most two bits wrong is decoded to its information
  pub corrects : (info : List ℕ) → Bits info → length info ≡ 53 → distance (encode info) w ≤ 2 → (r ≡ decoded ACCEPTED (places 0 (encode info) w)) × (a ≡ written info o)
  corrects info hi li hd =
      let t = near-answered (encode info) (encode-codeword info hi li) hd answered in
      (t.0, t.1 ∙ ap (λ (x : List ℕ). written x o) (take_at info (digits_of 14 (parity info)) 53 li))

  lone_answered : Lone w → Answers ACCEPTED w o r a → (r ≡ decoded NO_WORD []) × (a ≡ o)
  lone_answered n (inl k) = absurd (n k.word k.codeword k.near)
  lone_answered n (inr k) = (k.1.answers, k.1.leaves)

  -- and where no codeword is within distance two, NO WORD
  pub refuses : Lone w → (r ≡ decoded NO_WORD []) × (a ≡ o)
  refuses n = lone_answered n answered

-- ---- the decoder as a function

abbrev near_no : Near → Option Refusal
near_no n = first_of (is_none n gives NO_WORD ∷ [])

module _ (w o : List ℕ) where
  near-answers : Bits w → length w ≡ 67 → (n : Near) → near_of w ≡ n
      → Answers ACCEPTED w o (decoded (near_no n) (places_to n w)) (kept (near_no n) (written (information_in n) o) o)
  near-answers hb hl (Some c) e =
      let t = near-found w c e in inl record { word = c; codeword = t.0; near = t.1; answers = refl; leaves = refl }
  near-answers hb hl None e = inr (near_none w hb hl e, record { answers = refl; leaves = refl })

  decodes-by : (x y z : Bool) → eqb (length w) 67 ≡ x → are_bits w ≡ y
      → (let all : Option Refusal = first_of (not x gives LENGTH ∷ not y gives NOT_A_BIT ∷ z gives OUTPUT_SHORT ∷ is_none (near_of w) gives NO_WORD ∷ []) in
      Answers (number_by x y z) w o (decoded all (places_to (near_of w) w)) (kept all (written (information_in (near_of w)) o) o))
  decodes-by true true true ex ey = record { answers = refl; leaves = refl }
  decodes-by true true false ex ey = near-answers (bits_of_lem w ey) (eqb-true (length w) 67 ex) (near_of w) refl
  decodes-by true false z ex ey = record { answers = refl; leaves = refl }
  decodes-by false y z ex ey = record { answers = refl; leaves = refl }

  -- the function's answer meets the promise, for every input
  pub decode_answers : Decodes w o (decode_answer w o) (decode_leaves w o)
  decode_answers = decodes-by (eqb (length w) 67) (are_bits w) (ltb (length o) 53) refl refl

  -- and what meets the promise is the function's answer
  pub decode_is : (r : Decoded) (a : List ℕ) → Decodes w o r a → (r ≡ decode_answer w o) × (a ≡ decode_leaves w o)
  decode_is r a h = decode_determined w o a (decode_leaves w o) r (decode_answer w o) h decode_answers
