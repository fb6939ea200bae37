-- `tps::lent::feed_symbol` meets its contract: where a bit is answered, there are cells enough, which are the next
-- previous ones. Assumes nothing.
use mathlib.Core.Path.{sym, ap, ◌∙◌}
use Rattle.ground.specs.Cells.{flat}
use Rattle.carriers.specs.Mode.{mode2k}
use Rattle.tps.proofs.Receiving.{next_accepted, lent_bit}
use Rattle.tps.proofs.lent.feed_symbol.Goals as goal

pub returns : goal.returns
returns c =
    let a = c.args in
    let next = next_accepted mode2k a.count.now a.cells.now a.prev.now c.in_ok-bit.bit (sym c.in_ok-bit.ensures) in
    lent_bit mode2k a.prev.now a.bits.now a.count.now a.cells.now next.0 next.1 c.in_ok-bit.bit c.floats_of.result c.held_bits.result next.2
    (c.floats_of.ensures ∙ ap flat c.first_cells.ensures) c.held_bits.ensures
