-- `bch::slow::changes` meets its contract: what is tried and makes a codeword is answered, and where nothing does, no
-- codeword is within distance two. Assumes nothing.
use Rattle.bch.proofs.TriedChanges.{PastPairs}
use Rattle.bch.proofs.slow.changes.Given as goal

abbrev pub invariant-loop-first : goal.invariant-loop-first
invariant-loop-first l = PastPairs l.code.bits.now l.first
