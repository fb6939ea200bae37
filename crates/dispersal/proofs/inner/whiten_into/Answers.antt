-- `dispersal::inner::whiten_into` meets its contract: the slice is filled from its front with the whitened bytes. Assumes nothing.
use mathlib.Core.Path.{◌≡◌, sym}
use native.Mathlib.Omega.{arith}
use lib.ListN.{length}
use Rattle.ground.proofs.Front.{front-next, front-full}
use Rattle.dispersal.specs.Inner.{xored}
use Rattle.dispersal.proofs.Whitening.{xored-length, xored-at}
use Rattle.dispersal.proofs.inner.whiten_into.Goals as goal

pub loop-i-preserved : goal.loop-i-preserved
loop-i-preserved c =
    let l = c.loop-i in
    let a = c.args in
    let b = a.bytes.now in
    let m = a.outputs.now in
    let z : length (xored b m) ≡ length b = xored-length b m in
    front-next (xored b m) a.out.now l.out l.i 0 _ (omega arith) (omega arith) l.invariant (sym (xored-at b m l.i (omega arith) (omega arith)))

pub returns : goal.returns
returns c =
    let l = c.loop-i in
    let a = c.args in
    let b = a.bytes.now in
    let m = a.outputs.now in
    let z : length (xored b m) ≡ length b = xored-length b m in
    front-full (xored b m) a.out.now l.out l.i (omega arith) (omega arith) l.invariant
