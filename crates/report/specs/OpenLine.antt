-- Document 01, 'Report program': the line that is open in an input that comes in parts of any size. Its first 17
-- characters are held, and its characters are counted up to 18. That the lines that end in the parts are answered as
-- those of the whole input is the theorem `parts-answers`.
use Rattle.std.specs.Prelude.{ℕ, ◌+◌, cond, List, [], ◌∷◌, ◌++◌, replicate, ◌==◌}
use Rattle.std.specs.Prelude.{nat_lt, slice_set, Err}
use Rattle.ground.specs.declared.Refusal.TheVariants.{BadLine}
use Rattle.tps.specs.Packing.{Unpacked}
use Rattle.report.specs.declared.inner.OpenLine.{OpenLine}
use Rattle.report.specs.Characters.{newline}
use Rattle.report.specs.Reading.{read_answer}

abbrev pub open_line : List ℕ → ℕ → OpenLine
open_line held count = record { held = held; count = count }

-- the first line, before its first character
abbrev pub empty_line : OpenLine
empty_line = open_line (replicate 17 0) 0

-- the line behind this one's newline
abbrev pub emptied : OpenLine → OpenLine
emptied l = open_line l.held 0

-- the line with one character more, which is held where there is room
unfoldable pub grown : OpenLine → ℕ → OpenLine
grown l c = cond (nat_lt l.count 17) (open_line (slice_set l.held l.count c) (l.count + 1)) (open_line l.held 18)

-- the answer to the line, where it ends here
unfoldable pub open_answer : OpenLine → Unpacked
open_answer l = cond (l.count == 17) (read_answer l.held) (Err BadLine)

-- ---- a part of the input

-- the answers to the lines that end in it
abbrev pub answers_in : OpenLine → List ℕ → List Unpacked
answers_in l [] = []
answers_in l (c ∷ part) =
    cond (c == newline) (open_answer l ∷ answers_in (emptied l) part) (answers_in (grown l c) part)

-- the line that is open behind it
abbrev pub line_after : OpenLine → List ℕ → OpenLine
line_after l [] = l
line_after l (c ∷ part) = line_after (cond (c == newline) (emptied l) (grown l c)) part

-- ---- the whole input

-- its end: an open line ends there
abbrev pub last_answers : OpenLine → List Unpacked
last_answers l = cond (l.count == 0) [] (open_answer l ∷ [])

-- the answers to the lines that end in the parts, in turn, and at the end of the input
abbrev pub answers_over : OpenLine → List (List ℕ) → List Unpacked
answers_over l [] = last_answers l
answers_over l (part ∷ parts) = answers_in l part ++ answers_over (line_after l part) parts

-- the parts, one behind the other
abbrev pub joined : List (List ℕ) → List ℕ
joined [] = []
joined (p ∷ ps) = p ++ joined ps
