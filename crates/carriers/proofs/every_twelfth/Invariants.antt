-- `carriers::every_twelfth` meets its contract: after k turns the first k carriers stand at the front. Assumes nothing.
use mathlib.Core.Path.{◌≡◌}
use lib.ListN.{length}
use Rattle.ground.proofs.Front.{front}
use Rattle.carriers.specs.Carriers.{every_twelfth}
use Rattle.carriers.proofs.every_twelfth.Given as goal

abbrev pub invariant-loop-k : goal.invariant-loop-k
invariant-loop-k l = l.out ≡ front (every_twelfth l.start (length l.initial.out)) l.k l.initial.out
