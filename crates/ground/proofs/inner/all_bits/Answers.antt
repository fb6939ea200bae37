-- `ground::inner::all_bits` meets its contract: the OR of the items seen, and the items left, are bits where all are. Assumes nothing.
use native.Mathlib.Omega.{arith}
use Rattle.ground.proofs.Bits.{seen_next, seen_end}
use Rattle.ground.proofs.inner.all_bits.Goals as goal

pub loop-bit-preserved : goal.loop-bit-preserved
loop-bit-preserved c =
    let l = c.loop-bit in
    (omega arith, seen_next c.args.bits.now l.bit-index l.seen c.loop-bit-test.true l.invariant.1)

pub returns : goal.returns
returns c =
    let l = c.loop-bit in seen_end c.args.bits.now l.bit-index l.seen c.loop-bit-test.false l.invariant.1
