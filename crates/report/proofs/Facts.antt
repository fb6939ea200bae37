-- Document 01's examples: an empty input, and the sample. Assumes nothing.
use Rattle.std.proofs.Common.{Some, None, Err, ◌≡◌, ℕ, ◌≤◌, true, List, [], ◌∷◌, ◌++◌, map, length, replicate, refl, ap, arith}
use Rattle.ground.specs.declared.Refusal.TheVariants.{BadLine, NoWord}
use Rattle.ground.specs.Bits.{are_bits}
use Rattle.ground.specs.Digits.{digits_of}
use Rattle.bch.specs.Polynomial.{division_step}
use Rattle.bch.specs.Code.{Codeword, distance}
use Rattle.bch.specs.NearCodeword.{Near, near_of}
use Rattle.bch.specs.Promise.{mended_at}
use Rattle.bch.proofs.Facts.{three, three_lone}
use Rattle.bch.proofs.NearCodeword.{near_is, lone_none}
use Rattle.ground.proofs.Bits.{bits_of_lem}
use Rattle.tps.specs.Packing.{Unpacked}
use Rattle.ground.specs.declared.ConstellationOrder.TheVariants.{Qpsk}
use Rattle.tps.specs.declared.word.PunctureRate.TheVariants.{R1_2}
use Rattle.tps.specs.declared.word.GuardInterval.TheVariants.{G1_32}
use Rattle.tps.specs.Packing.{mended_word, near_answer, unpack_answer}
use Rattle.report.specs.Characters.{characters}
use Rattle.report.specs.Reading.{is_digit, digit_value, read_answer}
use Rattle.report.specs.Text.{decimal, hexadecimal, cell_text, points_text, rate_text, guard_text, mended_text, line_text, heading, closing}
use Rattle.report.specs.Lines.{answers}
use Rattle.report.specs.Report.{numbered, all_refusals, report}

pub empty_input : report [] ≡ characters "line frame points rate guard cell mended\nread 0 refused 0\n"
unfolding report heading closing decimal
empty_input = refl

-- ---- the lines of the sample

abbrev word_1 : List ℕ
word_1 = characters "00000000000000000"

abbrev word_2 : List ℕ
word_2 = characters "00000000000000001"

abbrev word_3 : List ℕ
word_3 = characters "00000000000000089"

abbrev word_4 : List ℕ
word_4 = characters "8000000000000000"

abbrev word_5 : List ℕ
word_5 = characters "00000000000004376"

-- the codewords with no bit and with only s53 of the information set
zeros : List ℕ
zeros = replicate 67 0

generator : List ℕ
generator = replicate 52 0 ++ digits_of 15 0x4377

zeros-codeword : Codeword zeros
unfolding zeros division_step
zeros-codeword = record { size = refl; bits = bits_of_lem (replicate 67 0) refl; divided = refl }

generator-codeword : Codeword generator
unfolding generator division_step
generator-codeword = record { size = refl; bits = bits_of_lem (replicate 52 0 ++ digits_of 15 0x4377) refl; divided = refl }

-- the word that each accepted line of the sample says, with the places that were mended
abbrev plain : List ℕ → Unpacked
plain ps = mended_word (record { frame_number = 0; constellation = Qpsk; code_rate_hp = R1_2; guard = G1_32; cell_id = 0 }) (mended_at ps)

-- s67 alone
abbrev last : List ℕ
last = 66 ∷ []

near-answer : (w c : List ℕ) → are_bits w ≡ true → length w ≡ 67 → Codeword c → distance c w ≤ 2 → near_answer (near_of w) w ≡ near_answer (Some c) w
near-answer w c b l h d = ap (λ (n : Near). near_answer n w) (near_is w (bits_of_lem w b) l c h d)

line_1 : read_answer word_1 ≡ plain []
unfolding read_answer is_digit digit_value unpack_answer zeros
line_1 = near-answer (replicate 67 0) zeros refl refl zeros-codeword (omega arith)

line_2 : read_answer word_2 ≡ plain last
unfolding read_answer is_digit digit_value unpack_answer zeros
line_2 = near-answer (replicate 66 0 ++ (1 ∷ [])) zeros refl refl zeros-codeword (omega arith)

-- small fact 6: the bits with only the degrees 7, 3 and 0 set are NO WORD
three-none : near_of three ≡ None
three-none = lone_none three three_lone

line_3 : read_answer word_3 ≡ Err NoWord
unfolding read_answer is_digit digit_value unpack_answer
line_3 = ap (λ (n : Near). near_answer n three) three-none

line_4 : read_answer word_4 ≡ Err BadLine
unfolding read_answer
line_4 = refl

line_5 : read_answer word_5 ≡ plain last
unfolding read_answer is_digit digit_value unpack_answer generator
line_5 = near-answer (replicate 52 0 ++ digits_of 15 0x4376) generator refl refl generator-codeword (omega arith)

abbrev pub sample : List ℕ
sample = characters "00000000000000000\n00000000000000001\n00000000000000089\n8000000000000000\n00000000000004376\n"

five-answers :
    (l₁ l₂ l₃ l₄ l₅ : List ℕ) (a₁ a₂ a₃ a₄ a₅ : Unpacked)
    → read_answer l₁ ≡ a₁ → read_answer l₂ ≡ a₂ → read_answer l₃ ≡ a₃ → read_answer l₄ ≡ a₄ → read_answer l₅ ≡ a₅
    → map read_answer (l₁ ∷ l₂ ∷ l₃ ∷ l₄ ∷ l₅ ∷ []) ≡ a₁ ∷ a₂ ∷ a₃ ∷ a₄ ∷ a₅ ∷ []
five-answers l₁ l₂ l₃ l₄ l₅ a₁ a₂ a₃ a₄ a₅ e₁ e₂ e₃ e₄ e₅ = rw (e₁, e₂, e₃, e₄, e₅) refl

sample-answers : answers sample ≡ plain [] ∷ plain last ∷ Err NoWord ∷ Err BadLine ∷ plain last ∷ []
sample-answers =
    five-answers word_1 word_2 word_3 word_4 word_5 (plain []) (plain last) (Err NoWord) (Err BadLine) (plain last) line_1 line_2 line_3 line_4 line_5

pub sample-report :
    report sample
    ≡ characters
    "line frame points rate guard cell mended\n1 0 4 1/2 1/32 00 0\n2 0 4 1/2 1/32 00 1\n3 refused 4\n4 refused 9\n5 0 4 1/2 1/32 00 1\nread 5 refused 2\n"
unfolding report decimal hexadecimal cell_text points_text rate_text guard_text mended_text line_text heading closing
sample-report = ap (λ (a : List Unpacked). heading ++ (numbered 1 a ++ closing (length a) (all_refusals a))) sample-answers
