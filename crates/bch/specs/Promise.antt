-- Document 01, 'TPS' and 'Refusal numbers': what the encoder and the decoder answer, and what they leave in the lent
-- output.
use Rattle.std.specs.Prelude.{◌≡◌, not, List, [], ◌∷◌, ◌⊎◌, ℕ, ◌≤◌, eqb, length, take, get_or}
use Rattle.std.specs.Prelude.{Option, Some, None, Result}
use Rattle.ground.specs.Refusal.{ACCEPTED, LENGTH, NOT_A_BIT, OUTPUT_SHORT, NO_WORD, ◌gives◌, first_of}
use Rattle.ground.specs.Answer.{answer_by, number_of, value_or, counted, kept, written, short}
use Rattle.ground.specs.Bits.{are_bits}
use Rattle.ground.specs.declared.Refusal.{Refusal}
use Rattle.bch.specs.Code.{Codeword, places, distance, encode, Lone}
use Rattle.bch.specs.NearCodeword.{near_of, is_none, information_in, places_to}
use Rattle.bch.specs.declared.Mended.{Mended}

-- the refusal of a call that takes `size` bits and writes `needs`, by the slices that it is lent
abbrev pub lent_no : ℕ → ℕ → List ℕ → List ℕ → Option Refusal
lent_no size needs bits out =
    first_of
    (not (eqb (length bits) size) gives LENGTH
    ∷ not (are_bits bits) gives NOT_A_BIT
    ∷ short needs out gives OUTPUT_SHORT
    ∷ [])

-- ---- the encoder

abbrev pub encode_no : List ℕ → List ℕ → Option Refusal
encode_no info out = lent_no 53 67 info out

-- what it answers, and what it leaves
abbrev pub encode_answer : List ℕ → List ℕ → Result ℕ Refusal
encode_answer info out = counted (encode_no info out) 67

abbrev pub encode_leaves : List ℕ → List ℕ → List ℕ
encode_leaves info out = kept (encode_no info out) (written (encode info) out) out

-- ---- the decoder

-- a place that stands for none
abbrev pub NO_PLACE : ℕ
NO_PLACE = 255

-- document 02, E1: how many places were changed, and which, of a list of at most two
abbrev pub mended_at : List ℕ → Mended
mended_at ps = record { count = length ps; first = get_or ps 0 NO_PLACE; second = get_or ps 1 NO_PLACE }

-- the places that it tells, rising
abbrev pub places_in : Mended → List ℕ
places_in m = take m.count (m.first ∷ m.second ∷ [])

-- the bits that were changed where the information was written, or the refusal
abbrev pub Decoded : Type 0
Decoded = Result Mended Refusal

-- the refusal and the changed places, for each case of an answer
abbrev pub decoded_number : Decoded → Option Refusal
decoded_number r = number_of r

abbrev pub mended_in : Decoded → Mended
mended_in r = value_or (mended_at []) r

-- the answer of a call: the changed places where it is accepted, else the refusal
abbrev pub decoded : Option Refusal → List ℕ → Decoded
decoded refusal ps = answer_by refusal (mended_at ps)

-- there is a codeword within distance two of the bits w: its 53 information bits are written, and the places told at
-- which it differs from w
pub record Corrected (w before : List ℕ) (answer : Decoded) (after : List ℕ) : Type 0 where
  pub word : List ℕ
  pub codeword : Codeword word
  pub near : distance word w ≤ 2
  pub answers : answer ≡ decoded ACCEPTED (places 0 word w)
  pub leaves : after ≡ written (take 53 word) before

-- a call is refused with the refusal no
pub record Refuses (no : Option Refusal) (before : List ℕ) (answer : Decoded) (after : List ℕ) : Type 0 where
  pub answers : answer ≡ decoded no []
  pub leaves : after ≡ before

-- the answer to 67 bits, with room for 53: that of a codeword within distance two, or NO WORD and there is none
abbrev pub Answers : Option Refusal → List ℕ → List ℕ → Decoded → List ℕ → Type 0
Answers None w before answer after = Corrected w before answer after ⊎ (Lone w × Refuses NO_WORD before answer after)
Answers (Some r) w before answer after = Refuses (Some r) before answer after

-- the promise: of the bits w, what stood in the lent output, the answer, and what is left in the output
abbrev pub Decodes : List ℕ → List ℕ → Decoded → List ℕ → Type 0
Decodes w before answer after = Answers (lent_no 67 53 w before) w before answer after

-- ---- the decoder as a function: its answer is the one that meets the promise

abbrev pub decode_no : List ℕ → List ℕ → Option Refusal
decode_no w out =
    first_of
    (not (eqb (length w) 67) gives LENGTH
    ∷ not (are_bits w) gives NOT_A_BIT
    ∷ short 53 out gives OUTPUT_SHORT
    ∷ is_none (near_of w) gives NO_WORD
    ∷ [])

-- what it answers, and what it leaves
abbrev pub decode_answer : List ℕ → List ℕ → Decoded
decode_answer w out = decoded (decode_no w out) (places_to (near_of w) w)

abbrev pub decode_leaves : List ℕ → List ℕ → List ℕ
decode_leaves w out = kept (decode_no w out) (written (information_in (near_of w)) out) out
