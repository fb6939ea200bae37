-- `session::halves::cells_before` meets its contract: none stand, or the latest one's place is read. Assumes nothing.
use mathlib.Core.Path.{sym, ap, ◌∙◌}
use lib.Ieee.{of_bits}
use Rattle.ground.specs.Cells.{plus_zero}
use Rattle.carriers.specs.Mode.{mode2k}
use Rattle.tps.specs.Receive.{first_cells}
use Rattle.session.specs.Journal.{prev_in}
use Rattle.session.proofs.Places.{part-rest, prev_later}
use Rattle.session.proofs.halves.cells_before.Goals as goal

pub returns-then-n-eq0 : goal.returns-then-n-eq0
unfolding prev_in of_bits plus_zero
returns-then-n-eq0 c = rw c.if-n-eq0.true

pub returns : goal.returns
returns c =
    let a = c.args in
    c.first_cells.ensures ∙ ap (first_cells mode2k.tps_count) (part-rest a.frame.now _) ∙ sym (prev_later mode2k a.n a.frame.now c.if-n-eq0.false)
