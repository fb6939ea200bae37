-- `grid::inner::gather` meets its contract: after k turns the cells at the first k bins stand at the front. Assumes nothing.
use mathlib.Core.Path.{◌≡◌}
use Prim.Native.Nat.{◌*◌}
use Rattle.ground.proofs.Front.{front}
use Rattle.grid.specs.Symbol.{cells_at}
use Rattle.grid.proofs.inner.gather.Given as goal

abbrev pub invariant-loop-k : goal.invariant-loop-k
invariant-loop-k l = l.out ≡ front (cells_at l.symbol l.bins) (2 * l.k) l.initial.out
