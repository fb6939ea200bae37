-- `dispersal::inner::go_on_with_outputs` meets its contract: the stream is filled on from its first 120 bytes. Assumes nothing.
use mathlib.Core.Path.{◌≡◌}
use lib.ListN.{length}
use Rattle.ground.proofs.Front.{front}
use Rattle.dispersal.specs.Register.{start}
use Rattle.dispersal.specs.Inner.{stream}
use Rattle.dispersal.proofs.inner.go_on_with_outputs.Given as goal

abbrev pub invariant-loop-i : goal.invariant-loop-i
invariant-loop-i l = l.outputs ≡ front (stream (length l.initial.outputs) start) l.i l.initial.outputs
