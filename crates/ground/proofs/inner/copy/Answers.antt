-- `ground::inner::copy` meets its contract: the slice is filled from its front with the bytes copied. Assumes nothing.
use mathlib.Core.Path.{refl}
use native.Mathlib.Omega.{arith}
use Rattle.ground.proofs.Front.{front-next, front-full}
use Rattle.ground.proofs.inner.copy.Goals as goal

pub loop-i-preserved : goal.loop-i-preserved
loop-i-preserved c =
    let l = c.loop-i in
    let a = c.args in
    front-next a.from.now a.to.now l.to l.i 0 _ (omega arith) (omega arith) l.invariant refl

pub returns : goal.returns
returns c =
    let l = c.loop-i in
    let a = c.args in
    front-full a.from.now a.to.now l.to l.i (omega arith) (omega arith) l.invariant
