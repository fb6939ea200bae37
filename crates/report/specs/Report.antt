-- Document 01, 'Report program': what is printed for a whole input.
use Rattle.std.specs.Prelude.{ℕ, suc, ◌+◌, List, [], ◌∷◌, ◌++◌, length}
use Rattle.tps.specs.Packing.{Unpacked}
use Rattle.report.specs.Lines.{answers}
use Rattle.report.specs.Reading.{refusals}
use Rattle.report.specs.Text.{heading, in_numbers, line_text, closing}

-- the lines of answers, numbered from n on
abbrev pub numbered : ℕ → List Unpacked → List ℕ
numbered n [] = []
numbered n (a ∷ r) = line_text n (in_numbers a) ++ numbered (suc n) r

abbrev pub all_refusals : List Unpacked → ℕ
all_refusals [] = 0
all_refusals (a ∷ r) = refusals a + all_refusals r

-- the heading, a line for each line from 1 on, and the closing line
unfoldable pub report : List ℕ → List ℕ
report s = heading ++ (numbered 1 (answers s) ++ closing (length (answers s)) (all_refusals (answers s)))
