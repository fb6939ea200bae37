-- `grid::set_pilots` meets its contract: a turn is the next clause of the definition. Assumes nothing.
use mathlib.Core.Path.{sym, ◌∙◌}
use mathlib.Core.List.{map}
use native.Mathlib.Omega.{arith}
use borrow.Author.Rules.{rules}
use Rattle.ground.proofs.Mapped.{map_at}
use Rattle.carriers.specs.Mode.{mode2k}
use Rattle.carriers.specs.Pilots.{code_bin, code_cells}
use Rattle.grid.specs.Symbol.{placed}
use Rattle.grid.proofs.Turns.{placed-next, code_cell_at}
use Rattle.grid.proofs.set_pilots.Goals as goal

pub loop-code-init : goal.loop-code-init
unfolding placed
loop-code-init c = search rules

pub loop-code-preserved : goal.loop-code-preserved
loop-code-preserved c =
    let a = c.args in
    let at = c.loop-code in
    let codes = a.codes.now in
    c.put_cell.ensures
    ∙ placed-next (map (code_bin mode2k) codes) (code_cells mode2k codes) at.code-index a.symbol.now at.symbol _ _ at.invariant
    (c.from-bin.ensures ∙ sym (map_at (code_bin mode2k) codes at.code-index 0 0 (omega arith)))
    (c.boost-value.ensures ∙ sym (code_cell_at mode2k codes at.code-index (omega arith)))
