-- Document 01, 'TPS' and 'Refusal numbers', and document 02, E1: what packing and unpacking a word answer, and what
-- packing leaves in the lent output.
use Rattle.std.specs.Prelude.{◌≡◌, not, List, [], ◌∷◌, ◌⊎◌, ℕ, ◌≤◌, eqb, length, take, drop}
use Rattle.std.specs.Prelude.{Option, None, Some, Result, Ok, Err}
use Rattle.ground.specs.declared.Refusal.{Refusal}
use Rattle.ground.specs.declared.Refusal.TheVariants.{NoWord}
use Rattle.ground.specs.Refusal.{ACCEPTED, LENGTH, NOT_A_BIT, NO_WORD, ◌gives◌, first_of}
use Rattle.ground.specs.Answer.{answer_by, kept, fill_no, fill_answer, fill_leaves}
use Rattle.ground.specs.Bits.{are_bits}
use Rattle.bch.specs.Code.{Codeword, places, distance, Lone}
use Rattle.bch.specs.NearCodeword.{Near, near_of}
use Rattle.bch.specs.Promise.{mended_at}
use Rattle.bch.specs.declared.Mended.{Mended}
use Rattle.tps.specs.declared.word.TpsWord.{TpsWord}
use Rattle.tps.specs.declared.word.MendedWord.{MendedWord}
use Rattle.tps.specs.Codes.{word_of}
use Rattle.tps.specs.Word.{SYMBOLS, word_bits, codes_in}

-- ---- packing

abbrev pub pack_no : List ℕ → Option Refusal
pack_no out = fill_no SYMBOLS out

abbrev pub pack_answer : List ℕ → Result ℕ Refusal
pack_answer out = fill_answer SYMBOLS out

abbrev pub pack_leaves : TpsWord → List ℕ → List ℕ
pack_leaves w out = fill_leaves SYMBOLS (word_bits w) out

-- ---- unpacking

-- an answer to unpacking: a word and the bits that were changed to read it, or the refusal
abbrev pub Unpacked : Type 0
Unpacked = Result MendedWord Refusal

abbrev pub mended_word : TpsWord → Mended → Unpacked
mended_word w m = Ok (record { word = w; mended = m })

-- the refusal, and the word with its mended bits, for each case of an answer: no two answers say the same
abbrev pub unpacked_says : Unpacked → Option Refusal × List (TpsWord × Mended)
unpacked_says (Ok u) = (ACCEPTED, (u.word, u.mended) ∷ [])
unpacked_says (Err refusal) = (Some refusal, [])

abbrev pub number_of : Unpacked → Option Refusal
number_of a = (unpacked_says a).0

-- the refusal of a call by its length and its items, s0 among them
abbrev pub unpack_no : List ℕ → Option Refusal
unpack_no bits =
    first_of
    (not (eqb (length bits) SYMBOLS) gives LENGTH
    ∷ not (are_bits bits) gives NOT_A_BIT
    ∷ [])

-- the answer by what codes say, with the mended bits
abbrev pub unpacked_by : Result TpsWord Refusal → Mended → Unpacked
unpacked_by (Ok w) m = mended_word w m
unpacked_by (Err reserved) m = Err reserved

-- the answer to the bits s1..s67 that are read as a codeword: what its information says, and the places, from 0 for s1
-- to 66 for s67, at which they differ
abbrev pub read_as : List ℕ → List ℕ → Unpacked
read_as word bits = unpacked_by (word_of (codes_in (take 53 word))) (mended_at (places 0 word bits))

-- there is a codeword within distance two of the bits s1..s67: they are read as it
pub record Received (bits : List ℕ) (answer : Unpacked) : Type 0 where
  pub word : List ℕ
  pub codeword : Codeword word
  pub near : distance word bits ≤ 2
  pub says : answer ≡ read_as word bits

-- the answer to 68 bits, of which s0 is ignored: that of a codeword within distance two, or NO WORD and there is none
abbrev pub UnpacksBy : Option Refusal → List ℕ → Unpacked → Type 0
UnpacksBy None bits answer = Received (drop 1 bits) answer ⊎ (Lone (drop 1 bits) × (number_of answer ≡ NO_WORD))
UnpacksBy (Some refusal) bits answer = number_of answer ≡ Some refusal

-- the promise of unpacking
abbrev pub Unpacks : List ℕ → Unpacked → Type 0
Unpacks bits answer = UnpacksBy (unpack_no bits) bits answer

-- ---- the one answer that meets it, as a function

-- the answer to s1..s67 by the codeword within distance two of them, or that there is none
abbrev pub near_answer : Near → List ℕ → Unpacked
near_answer (Some c) bits = read_as c bits
near_answer None bits = Err NoWord

-- the refusal of a call where there is one, else an answer
abbrev pub refused_or : Option Refusal → Unpacked → Unpacked
refused_or None answer = answer
refused_or (Some refusal) answer = Err refusal

-- the answer to the bits s0..s67
unfoldable pub unpack_answer : List ℕ → Unpacked
unpack_answer bits = refused_or (unpack_no bits) (near_answer (near_of (drop 1 bits)) (drop 1 bits))
