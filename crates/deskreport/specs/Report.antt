-- Document 02, E3: what is printed for a whole input.
use Rattle.std.specs.Prelude.{ℕ, List, ◌++◌}
use Rattle.report.specs.Lines.{answers}
use Rattle.report.specs.Telling.{rest_text}
use Rattle.deskreport.specs.Text.{heading}
use Rattle.deskreport.specs.Telling.{start, teller}

-- the heading, the texts of the lines from 1 on, and the closing line; counts are of 64 bits
abbrev pub report : List ℕ → List ℕ
report s = heading ++ rest_text teller start (answers s)
