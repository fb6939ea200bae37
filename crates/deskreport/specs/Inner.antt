-- What the private helpers promise. No promise of `inner` cites this file.
use Rattle.std.specs.Prelude.{ℕ, List, ◌∷◌}
use Rattle.report.specs.Characters.{space}
use Rattle.deskreport.specs.Text.{id_text}

-- the column of a cell id, with its space
abbrev pub id_column : ℕ → List ℕ
id_column id = space ∷ id_text id
