-- Document 01, 'Report program' and 'Refusal numbers', over the C interface: the answer to a line as numbers, and the
-- answer of a feed, 0 for accepted; a refused call has the reader as it went in.
use Rattle.std.specs.Prelude.{◌≡◌, Bool, ◌&&◌, cond, List, ℕ, eqb, length, Option, Result, Ok, Err}
use Rattle.ground.specs.declared.Refusal.{Refusal}
use Rattle.ground.specs.declared.Refusal.TheVariants.{Reserved}
use Rattle.ground.specs.Answer.{counted, kept, written}
use Rattle.tps.specs.declared.word.MendedWord.{MendedWord}
use Rattle.tps.specs.Packing.{unpacked_by}
use Rattle.report.specs.declared.Fed.{Fed}
use Rattle.report.specs.Text.{in_numbers, line_text}
use Rattle.report.specs.Calls.{line_room}
use Rattle.saltkernel.specs.Numbers.{Says}
use Rattle.saltkernel.specs.Words.{word_in, is_reserved, codes_no, mended_of}
use Rattle.saltkernel.specs.declared.words.SaltUnpacked.{SaltUnpacked}
use Rattle.saltkernel.specs.declared.reports.SaltReaderFed.{SaltReaderFed}

-- ---- a line

-- an answer of C's: the word of its codes, with its mended bits, where the number is 0, else the refusal
abbrev pub answer_in : SaltUnpacked → Result MendedWord ℕ
answer_in a = cond (eqb a.number 0) (in_numbers (unpacked_by (word_in a.word) (mended_of a))) (Err a.number)

-- its word has a code that stands for nothing
abbrev pub reserved_in : SaltUnpacked → Bool
reserved_in a = eqb a.number 0 && is_reserved (word_in a.word)

-- the answer, or RESERVED
abbrev pub answer_read : SaltUnpacked → Result (Result MendedWord ℕ) Refusal
answer_read a = cond (reserved_in a) (Err Reserved) (Ok (answer_in a))

abbrev pub line_no : SaltUnpacked → List ℕ → Option Refusal
line_no a out = codes_no line_room (reserved_in a) out

abbrev pub line_answer : ℕ → SaltUnpacked → List ℕ → Result ℕ Refusal
line_answer n a out = counted (line_no a out) (length (line_text n (answer_in a)))

abbrev pub line_leaves : ℕ → SaltUnpacked → List ℕ → List ℕ
line_leaves n a out = kept (line_no a out) (written (line_text n (answer_in a)) out) out

-- ---- a part of the input

-- the numbers and the reader are what the answer says
pub record SaysReaderFed (r : SaltReaderFed) (a : Fed) : Type 0 where
  pub says_answer : Says r.answer a.answer
  pub says_reader : r.reader ≡ a.reader
