-- `tps::inner::floats_of` meets its contract: the floats are filled from the front. Assumes nothing.
use mathlib.Core.Path.{◌≡◌}
use Prim.Native.Nat.{◌*◌}
use Rattle.ground.proofs.Front.{front}
use Rattle.ground.specs.Cells.{flat}
use Rattle.tps.proofs.inner.floats_of.Given as goal

abbrev pub invariant-loop-k : goal.invariant-loop-k
invariant-loop-k l = l.floats ≡ front (flat l.cells) (2 * l.k) l.initial.floats
