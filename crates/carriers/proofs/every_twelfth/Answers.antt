-- `carriers::every_twelfth` meets its contract: after k turns the first k carriers stand at the front. Assumes nothing.
use mathlib.Core.Path.{◌≡◌, sym}
use native.Mathlib.Omega.{arith}
use lib.ListN.{length}
use Rattle.ground.proofs.Front.{front-next, front-full}
use Rattle.carriers.specs.Carriers.{every_twelfth}
use Rattle.carriers.proofs.Spaced.{spaced-length, spaced-at}
use Rattle.carriers.proofs.every_twelfth.Goals as goal

pub loop-k-preserved : goal.loop-k-preserved
loop-k-preserved c =
    let at = c.loop-k in
    let a = c.args in
    let n = length a.out.now in
    let l = every_twelfth a.start n in
    let long : length l ≡ n = spaced-length n a.start in
    front-next l a.out.now at.out at.k 0 _ (omega arith) (omega arith) at.invariant (sym (spaced-at n a.start at.k (omega arith)))

pub returns : goal.returns
returns c =
    let at = c.loop-k in
    let a = c.args in
    let n = length a.out.now in
    let l = every_twelfth a.start n in
    let long : length l ≡ n = spaced-length n a.start in
    front-full l a.out.now at.out at.k (omega arith) (sym long) at.invariant
