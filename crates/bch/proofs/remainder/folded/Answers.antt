-- `bch::remainder::folded` meets its contract: the terms so far are folded down into the sum. Assumes nothing.
use Rattle.bch.proofs.Parity.{folded-next}
use Rattle.bch.proofs.remainder.folded.Goals as goal

pub loop-degree-preserved : goal.loop-degree-preserved
loop-degree-preserved c =
    let a = c.args in
    let l = c.loop-degree in
    folded-next a.terms a.low a.high l.sum l.degree c.requires c.loop-degree-test.true l.invariant
