-- `tps::lent::correlate` meets its contract: a turn of the loop is a clause of the definition. Assumes nothing.
use mathlib.Core.Path.{◌≡◌, sym, ap, ◌∙◌}
use Prim.Native.Nat.{ℕ}
use native.Mathlib.Numerals.{add-one}
use native.Mathlib.Omega.{arith}
use Rattle.ground.specs.Cells.{plus_zero}
use Rattle.tps.specs.Receive.{first_cells, no_cell, product, correlation}
use Rattle.tps.proofs.FirstCells.{cells_at_lem}
use borrow.Author.Rules.{rules}
use Rattle.tps.proofs.lent.correlate.Goals as goal

pub loop-k-init : goal.loop-k-init
unfolding correlation plus_zero
loop-k-init c = search rules

pub loop-k-preserved : goal.loop-k-preserved
unfolding correlation product
loop-k-preserved c =
    let l = c.loop-k in
    let z = c.args in
    let a = c.cell_at-a in
    let b = c.cell_at-b in
    rw (add-one l.k, l.invariant, a.ensures ∙ sym (cells_at_lem 17 z.cells.now l.k no_cell (omega arith)), b.ensures ∙ sym (cells_at_lem 17 z.prev.now l.k no_cell (omega arith)))

pub returns : goal.returns
returns c =
    let z = c.args in
    let e : c.loop-k.k ≡ 17 = omega arith in
    c.loop-k.invariant ∙ ap (λ (k : ℕ). correlation k (first_cells 17 z.cells.now) (first_cells 17 z.prev.now)) e
