-- `tps::inner::held_bits` meets its contract: the bits are held from the front. Assumes nothing.
use mathlib.Core.Path.{◌≡◌}
use Rattle.ground.proofs.Front.{front}
use Rattle.tps.specs.Receive.{held_bits}
use Rattle.tps.proofs.inner.held_bits.Given as goal

abbrev pub invariant-loop-i : goal.invariant-loop-i
invariant-loop-i l = l.held ≡ front (held_bits l.n l.bit-items) l.i l.initial.held
