-- `tps::lent::correlate` meets its contract: a turn of the loop is a clause of the definition. Assumes nothing.
use mathlib.Core.Path.{◌≡◌}
use Rattle.tps.specs.Receive.{first_cells, correlation}
use Rattle.tps.proofs.lent.correlate.Given as goal

abbrev pub invariant-loop-k : goal.invariant-loop-k
invariant-loop-k l = l.sum ≡ correlation l.k (first_cells 17 l.cells) (first_cells 17 l.prev)
