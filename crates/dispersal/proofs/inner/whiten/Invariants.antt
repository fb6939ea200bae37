-- `dispersal::inner::whiten` meets its contract: the bytes are whitened from their front on. Assumes nothing.
use mathlib.Core.Path.{◌≡◌}
use Rattle.ground.proofs.Front.{front}
use Rattle.dispersal.specs.Inner.{xored}
use Rattle.dispersal.proofs.inner.whiten.Given as goal

abbrev pub invariant-loop-i : goal.invariant-loop-i
invariant-loop-i l = l.bytes ≡ front (xored l.initial.bytes l.outputs) l.i l.initial.bytes
