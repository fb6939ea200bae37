-- `grid::lay_data` meets its contract: a turn is the next clause of the definition. Assumes nothing.
use mathlib.Core.Path.{◌≡◌, ap, ◌∙◌}
use Prim.Native.Nat.{ℕ}
use native.Mathlib.Omega.{arith}
use lib.ListN.{length}
use borrow.Author.Rules.{rules}
use Rattle.carriers.specs.Mode.{mode2k}
use Rattle.carriers.proofs.Facts.{facts2k}
use Rattle.grid.specs.Symbol.{placed}
use Rattle.grid.proofs.Placed.{placed-length}
use Rattle.grid.proofs.Lent.{lent_row, row_laid}
use Rattle.grid.proofs.Turns.{placed-next}
use Rattle.grid.proofs.lay_data.Goals as goal

pub loop-k-init : goal.loop-k-init
unfolding placed
loop-k-init c = search rules

pub put_cell-requires : goal.put_cell-requires
put_cell-requires c =
    let at = c.loop-k in
    let lent = lent_row mode2k facts2k _ (omega arith) _ c.data_row-bin-items.ensures in
    omega (arith, lent.0 at.k (omega (arith, lent.1)), c.from.ensures, ap length at.invariant, placed-length c.data_row-bin-items.result.now c.args.cells.now c.args.symbol.now at.k)

pub loop-k-preserved : goal.loop-k-preserved
loop-k-preserved c =
    let a = c.args in
    let at = c.loop-k in
    c.put_cell.ensures ∙ placed-next _ a.cells.now at.k a.symbol.now at.symbol _ _ at.invariant c.from.ensures c.cell_at.ensures

pub returns : goal.returns
returns c =
    let a = c.args in
    let at = c.loop-k in
    let row = c.data_row-bin-items.result.now in
    let lent = lent_row mode2k facts2k _ (omega arith) _ c.data_row-bin-items.ensures in
    let end : at.k ≡ length row = omega (arith, lent.1) in
    row_laid mode2k facts2k _ _ _ _ _ c.data_row-bin-items.ensures
    (at.invariant ∙ ap (λ (k : ℕ). placed row a.cells.now k a.symbol.now) end)
