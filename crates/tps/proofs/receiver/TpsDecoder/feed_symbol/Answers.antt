-- `tps::receiver::TpsDecoder::feed_symbol` meets its contract: the bit is that of the floats of the previous cells.
-- Assumes nothing.
use mathlib.Core.Path.{◌≡◌, sym, ap, ap₂, ◌∙◌}
use mathlib.Core.List.{List}
use lib.ListN.{length}
use Rattle.ground.specs.declared.Cell.{Cell}
use Rattle.carriers.specs.Mode.{mode2k}
use Rattle.tps.specs.Receive.{first_cells, bit_of}
use Rattle.tps.proofs.Receiving.{feed-bit, next_accepted, prev_back}
use borrow.Author.Rules.{rules}
use Rattle.tps.proofs.receiver.TpsDecoder.feed_symbol.Goals as goal

pub returns : goal.returns
returns c =
    let d = c.args.self in
    let s = c.args.cells.now in
    let z : length d.prev ≡ 17 = search rules in
    let cells = c.first_cells-prev in
    let next = next_accepted mode2k d.count s c.floats_of.result c.in-Ok.bit (sym c.next_bit-answer.ensures ∙ c.in-Ok.is) in
    let back = ap (first_cells 17) c.floats_of.ensures ∙ prev_back mode2k d z in
    feed-bit mode2k d s next.0 next.1 cells.result c.in-Ok.bit c.held_bits-bits.result cells.ensures
    (next.2 ∙ ap₂ (λ (x y : List Cell). bit_of mode2k d.count x y) (sym cells.ensures) back) c.held_bits-bits.ensures
