-- Document 01, 'Report program': a line ends at a newline or the end of input; an empty line counts, no line follows a
-- final newline. A line may have any length, and every character but the newline stands for itself.
use Rattle.std.specs.Prelude.{ℕ, cond, List, [], ◌∷◌, ◌++◌, map, ◌==◌}
use Rattle.tps.specs.Packing.{Unpacked}
use Rattle.report.specs.Characters.{newline}
use Rattle.report.specs.Reading.{read_answer}

-- characters in front of the lines of what follows them: the first of those lines is the rest of the same line
abbrev pub before : List ℕ → List (List ℕ) → List (List ℕ)
before l [] = l ∷ []
before l (m ∷ ms) = (l ++ m) ∷ ms

-- the lines of an input, without their newlines
abbrev pub lines : List ℕ → List (List ℕ)
lines [] = []
lines (c ∷ s) = cond (c == newline) ([] ∷ lines s) (before (c ∷ []) (lines s))

-- the answers to an input's lines, in turn
abbrev pub answers : List ℕ → List Unpacked
answers s = map read_answer (lines s)
