-- `bch::slow::next_change` meets its contract: the places that the loop has passed make no codeword. Assumes nothing.
use Rattle.bch.specs.Search.{PastChanges}
use Rattle.bch.proofs.slow.next_change.Given as goal

abbrev pub invariant-loop-place : goal.invariant-loop-place
invariant-loop-place l = PastChanges l.code.bits.now l.from l.place
