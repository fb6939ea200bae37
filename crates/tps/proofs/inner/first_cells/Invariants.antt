-- `tps::inner::first_cells` meets its contract: the cells are filled from the front. Assumes nothing.
use mathlib.Core.Path.{◌≡◌}
use Rattle.ground.proofs.Front.{front}
use Rattle.tps.specs.Receive.{first_cells}
use Rattle.tps.proofs.inner.first_cells.Given as goal

abbrev pub invariant-loop-k : goal.invariant-loop-k
invariant-loop-k l = l.cell-items ≡ front (first_cells 17 l.cells) l.k l.initial.cell-items
