-- `dispersal::inner::whiten` meets its contract: the bytes are whitened from their front on. Assumes nothing.
use native.Mathlib.Omega.{arith}
use Rattle.dispersal.proofs.Whitening.{xored-next, xored_end}
use Rattle.dispersal.proofs.inner.whiten.Goals as goal

pub loop-i-preserved : goal.loop-i-preserved
loop-i-preserved c =
    let l = c.loop-i in
    let a = c.args in
    xored-next a.outputs.now a.bytes.now l.bytes l.i (omega arith) (omega arith) l.invariant

pub returns : goal.returns
returns c = let l = c.loop-i in let a = c.args in xored_end a.outputs.now a.bytes.now l.bytes l.i (omega arith) l.invariant
