-- `dispersal::inner::whiten_into` meets its contract: the slice is filled from its front with the whitened bytes. Assumes nothing.
use mathlib.Core.Path.{◌≡◌}
use Rattle.ground.proofs.Front.{front}
use Rattle.dispersal.specs.Inner.{xored}
use Rattle.dispersal.proofs.inner.whiten_into.Given as goal

abbrev pub invariant-loop-i : goal.invariant-loop-i
invariant-loop-i l = l.out ≡ front (xored l.bytes l.outputs) l.i l.initial.out
