-- Document 01, 'Forms that must change': lent slices of cells are f32, re and im in turn. 'Pilot grid' and 'Receive
-- session': cells of +0.0.
use Rattle.std.specs.Prelude.{List, [], ◌∷◌, ℕ, ◌+◌, ◌*◌, Float, get_or, set}
use Rattle.std.specs.Float.{nan, binary32}
use Rattle.std.specs.Float.Ieee.{of_bits}
use Rattle.ground.specs.declared.Cell.{Cell}

-- +0.0, and a cell of it
unfoldable pub plus_zero : Float
plus_zero = of_bits binary32 0

abbrev pub zero_cell : Cell
zero_cell = record { re = plus_zero; im = plus_zero }

-- the cell at place b (where a list is too short a part is NaN, which no call reaches)
abbrev pub cell_at : List Float → ℕ → Cell
cell_at s b = record { re = get_or s (2 * b) nan; im = get_or s (2 * b + 1) nan }

-- s with the cell at place b set
abbrev pub set_cell : List Float → ℕ → Cell → List Float
set_cell s b c = set (set s (2 * b) c.re) (2 * b + 1) c.im

-- cells in a row
unfoldable pub flat : List Cell → List Float
flat [] = []
flat (c ∷ l) = c.re ∷ c.im ∷ flat l
