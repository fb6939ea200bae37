-- `grid::inner::gather` meets its contract: after k turns the cells at the first k bins stand at the front. Assumes nothing.
use mathlib.Core.Path.{◌≡◌, sym, ap, ◌∙◌}
use mathlib.Core.List.{map}
use Prim.Native.Nat.{◌*◌}
use native.Mathlib.Omega.{arith}
use lib.ListN.{length, length-map, get_or-map}
use Rattle.ground.proofs.Front.{front-whole}
use Rattle.ground.specs.Cells.{cell_at, flat}
use Rattle.ground.proofs.Cells.{cell_next, flat-length}
use Rattle.grid.specs.Symbol.{cells_at}
use Rattle.grid.proofs.inner.gather.Goals as goal

pub loop-k-preserved : goal.loop-k-preserved
unfolding cells_at
loop-k-preserved c =
    let a = c.args in
    let at = c.loop-k in
    let bins = a.bins.now in
    let s = a.symbol.now in
    let n : length (map (cell_at s) bins) ≡ length bins = length-map bins (cell_at s) in
    let cell = c.cell_at.ensures ∙ ap (cell_at s) c.from.ensures ∙ sym (get_or-map (cell_at s) bins at.k 0) in
    c.put_cell.ensures
    ∙ cell_next (map (cell_at s) bins) a.out.now at.out at.k (cell_at s 0) _ (omega arith) (omega arith) at.invariant cell

pub returns : goal.returns
unfolding cells_at
returns c =
    let a = c.args in
    let at = c.loop-k in
    let cells = map (cell_at a.symbol.now) a.bins.now in
    let n : length cells ≡ length a.bins.now = length-map a.bins.now (cell_at a.symbol.now) in
    let w : length (flat cells) ≡ 2 * length cells = flat-length cells in
    front-whole (flat cells) a.out.now at.out (2 * at.k) (omega arith) at.invariant
