-- `ground::inner::copy` meets its contract: the slice is filled from its front with the bytes copied. Assumes nothing.
use mathlib.Core.Path.{◌≡◌}
use Rattle.ground.proofs.Front.{front}
use Rattle.ground.proofs.inner.copy.Given as goal

abbrev pub invariant-loop-i : goal.invariant-loop-i
invariant-loop-i l = l.to ≡ front l.from l.i l.initial.to
