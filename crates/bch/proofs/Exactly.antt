-- The encoder and the decoder are refused LENGTH, NOT A BIT and OUTPUT SHORT, and the decoder NO WORD, each exactly
-- where document 01 says so. Assumes nothing.
use mathlib.Core.Path.{◌≡◌, refl, ap, ◌∙◌}
use mathlib.Core.Logic.{◌↔◌}
use mathlib.Core.Bool.{true, not, false≢true}
use mathlib.Core.List.{List, [], ◌∷◌}
use Prim.Native.Nat.{ℕ, ◌<◌, ◌≤◌}
use lib.Dec.{T, eqb}
use lib.ListN.{length}
use Rattle.std.specs.Prelude.{Option, Some, None, Result}
use Rattle.ground.specs.Refusal.{LENGTH, NOT_A_BIT, OUTPUT_SHORT, NO_WORD, Test, ◌gives◌, first_of, code}
use Rattle.ground.specs.Answer.{number_of, short}
use Rattle.ground.specs.Bits.{Bits, are_bits}
use Rattle.ground.specs.declared.Refusal.{Refusal}
use Rattle.ground.proofs.Answers.{counted-says-number, answer-says-number}
use Rattle.ground.proofs.Exactly.{Decides, lacks, less_decides, equal_decides, bits_decide, not_decides, by_test, given-here, given-behind, said_exactly}
use Rattle.bch.specs.Code.{Lone}
use Rattle.bch.specs.NearCodeword.{Near, near_of, is_none, places_to}
use Rattle.bch.specs.Promise.{encode_no, encode_answer, Decoded, decoded_number, mended_at, decoded, Decodes, decode_no}
use Rattle.bch.proofs.NearCodeword.{near_none, lone_none}
use Rattle.bch.proofs.Determined.{decode_is}

-- ---- the tests of the lent slices, before others

module _ (size needs : ℕ) (w o : List ℕ) (others : List Test) where
  abbrev room_tests : List Test
  room_tests = short needs o gives OUTPUT_SHORT ∷ others

  abbrev bit_tests : List Test
  bit_tests = not (are_bits w) gives NOT_A_BIT ∷ room_tests

  abbrev lent_tests : List Test
  lent_tests = not (eqb (length w) size) gives LENGTH ∷ bit_tests

  size_decides : Decides (not (eqb (length w) size)) (length w ≡ size → ⊥) (length w ≡ size)
  size_decides = not_decides (equal_decides (length w) size)

  length-given : T (lacks LENGTH others) → (first_of lent_tests ≡ LENGTH) ↔ (length w ≡ size → ⊥)
  length-given l = given-here LENGTH bit_tests size_decides l

  not-a-bit-given : T (lacks NOT_A_BIT others) → (first_of lent_tests ≡ NOT_A_BIT) ↔ ((length w ≡ size) × (Bits w → ⊥))
  not-a-bit-given l =
      given-behind LENGTH NOT_A_BIT bit_tests size_decides tt (λ h. given-here NOT_A_BIT room_tests (not_decides (bits_decide w)) l)

  -- the bits are right: what the tests behind give
  bits_right : {R : Type 0} (n : Option Refusal) → T (not (eqb (code n) (code LENGTH))) → T (not (eqb (code n) (code NOT_A_BIT))) → (length w ≡ size → Bits w → (first_of room_tests ≡ n) ↔ R)
      → (first_of lent_tests ≡ n) ↔ ((length w ≡ size) × (Bits w × R))
  bits_right n x y f = given-behind LENGTH n bit_tests size_decides x (λ h. given-behind NOT_A_BIT n room_tests (not_decides (bits_decide w)) y (f h))

  output-short-given : T (lacks OUTPUT_SHORT others) → (first_of lent_tests ≡ OUTPUT_SHORT) ↔ ((length w ≡ size) × (Bits w × (length o < needs)))
  output-short-given l = bits_right OUTPUT_SHORT tt tt (λ h b. given-here OUTPUT_SHORT others (less_decides (length o) needs) l)

none_of : (n : Near) → is_none n ≡ true → n ≡ None
none_of (Some c) e = absurd (false≢true e)
none_of None e = refl

lone_decides : (w : List ℕ) → length w ≡ 67 → Bits w → Decides (is_none (near_of w)) (Lone w) (Lone w → ⊥)
lone_decides w hl hb =
    by_test (is_none (near_of w)) (λ e. near_none w hb hl (none_of (near_of w) e)) (λ n. ap is_none (lone_none w n))

no-word-given : (w o : List ℕ) → (decode_no w o ≡ NO_WORD) ↔ ((length w ≡ 67) × (Bits w × ((53 ≤ length o) × Lone w)))
no-word-given w o =
    let lone : List Test = is_none (near_of w) gives NO_WORD ∷ [] in
    bits_right 67 53 w o lone NO_WORD tt tt
    (λ hl hb. given-behind OUTPUT_SHORT NO_WORD lone (less_decides (length o) 53) tt (λ ho. given-here NO_WORD [] (lone_decides w hl hb) tt))

-- ---- the calls

module _ (info o : List ℕ) (r : Result ℕ Refusal) (h : r ≡ encode_answer info o) where
  encode-number : number_of r ≡ encode_no info o
  encode-number = ap number_of h ∙ counted-says-number (encode_no info o) 67

  pub encode_length_exactly : (number_of r ≡ LENGTH) ↔ (length info ≡ 53 → ⊥)
  encode_length_exactly = said_exactly encode-number (length-given 53 67 info o [] tt)

  pub encode_not_a_bit_exactly : (number_of r ≡ NOT_A_BIT) ↔ ((length info ≡ 53) × (Bits info → ⊥))
  encode_not_a_bit_exactly = said_exactly encode-number (not-a-bit-given 53 67 info o [] tt)

  pub encode_output_short_exactly : (number_of r ≡ OUTPUT_SHORT) ↔ ((length info ≡ 53) × (Bits info × (length o < 67)))
  encode_output_short_exactly = said_exactly encode-number (output-short-given 53 67 info o [] tt)

pub decoded-says-number : (refusal : Option Refusal) (ps : List ℕ) → decoded_number (decoded refusal ps) ≡ refusal
decoded-says-number refusal ps = answer-says-number refusal (mended_at ps)

module _ (w o a : List ℕ) (r : Decoded) (h : Decodes w o r a) where
  decode_number : decoded_number r ≡ decode_no w o
  decode_number = ap decoded_number (decode_is w o r a h).0 ∙ decoded-says-number (decode_no w o) (places_to (near_of w) w)

  pub decode_length_exactly : (decoded_number r ≡ LENGTH) ↔ (length w ≡ 67 → ⊥)
  decode_length_exactly = said_exactly decode_number (length-given 67 53 w o (is_none (near_of w) gives NO_WORD ∷ []) tt)

  pub decode_not_a_bit_exactly : (decoded_number r ≡ NOT_A_BIT) ↔ ((length w ≡ 67) × (Bits w → ⊥))
  decode_not_a_bit_exactly = said_exactly decode_number (not-a-bit-given 67 53 w o (is_none (near_of w) gives NO_WORD ∷ []) tt)

  pub decode_output_short_exactly : (decoded_number r ≡ OUTPUT_SHORT) ↔ ((length w ≡ 67) × (Bits w × (length o < 53)))
  decode_output_short_exactly = said_exactly decode_number (output-short-given 67 53 w o (is_none (near_of w) gives NO_WORD ∷ []) tt)

  pub decode_no_word_exactly : (decoded_number r ≡ NO_WORD) ↔ ((length w ≡ 67) × (Bits w × ((53 ≤ length o) × Lone w)))
  decode_no_word_exactly = said_exactly decode_number (no-word-given w o)
