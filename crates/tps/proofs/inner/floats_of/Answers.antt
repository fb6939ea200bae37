-- `tps::inner::floats_of` meets its contract: the floats are filled from the front. Assumes nothing.
use mathlib.Core.Path.{◌≡◌, ◌∙◌}
use Prim.Native.Nat.{◌*◌}
use native.Mathlib.Omega.{arith}
use lib.ListN.{length}
use Rattle.ground.proofs.Front.{front-full}
use Rattle.ground.specs.Cells.{flat}
use Rattle.ground.proofs.Cells.{cell_next, flat-length}
use Rattle.tps.specs.Receive.{no_cell}
use borrow.Author.Rules.{rules}
use Rattle.tps.proofs.inner.floats_of.Goals as goal

pub loop-k-preserved : goal.loop-k-preserved
loop-k-preserved c =
    let l = c.loop-k in
    let s = c.args.cells.now in
    let z : length s ≡ 17 = c.told-cells in
    c.put_cell.ensures ∙ cell_next s _ l.floats l.k no_cell _ (omega arith) (omega arith) l.invariant (search rules)

pub returns : goal.returns
returns c =
    let l = c.loop-k in
    let s = c.args.cells.now in
    let z : length s ≡ 17 = c.told-cells in
    let f : length (flat s) ≡ 2 * length s = flat-length s in
    front-full (flat s) _ l.floats (2 * l.k) (omega arith) (omega arith) l.invariant
