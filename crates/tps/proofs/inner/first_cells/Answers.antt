-- `tps::inner::first_cells` meets its contract: the cells are filled from the front. Assumes nothing.
use mathlib.Core.Path.{◌≡◌, sym, ◌∙◌}
use native.Mathlib.Omega.{arith}
use lib.ListN.{length}
use Rattle.ground.proofs.Front.{front-next, front-full}
use Rattle.tps.specs.Receive.{first_cells, no_cell}
use Rattle.tps.proofs.FirstCells.{cells-length, cells_at_lem}
use Rattle.tps.proofs.inner.first_cells.Goals as goal

pub loop-k-preserved : goal.loop-k-preserved
loop-k-preserved c =
    let s = c.args.cells.now in
    let l = c.loop-k in
    let n : length (first_cells 17 s) ≡ 17 = cells-length 17 s in
    front-next (first_cells 17 s) _ l.cell-items l.k no_cell c.cell_at.result (omega arith) (omega arith) l.invariant
    (c.cell_at.ensures ∙ sym (cells_at_lem 17 s l.k no_cell (omega arith)))

pub returns : goal.returns
returns c =
    let s = c.args.cells.now in
    let n : length (first_cells 17 s) ≡ 17 = cells-length 17 s in
    front-full (first_cells 17 s) _ c.loop-k.cell-items c.loop-k.k (omega arith) (omega arith) c.loop-k.invariant
