-- `gray::point_of` meets its contract: the items are bits, of which each axis has its own. Assumes nothing.
use native.Mathlib.Omega.{arith}
use mathlib.Core.Path.{sym, ◌∙◌}
use Rattle.ground.proofs.Bits.{bits_of_lem}
use Rattle.gray.proofs.Levels.{axis_range}
use Rattle.gray.proofs.point_of.Goals as goal

pub axis_index-i-requires : goal.axis_index-i-requires
axis_index-i-requires c =
    let o = c.args.order in
    let bits = c.args.bits.now in (
      omega arith,
      omega (arith, axis_range o),
      omega arith,
      bits_of_lem bits (sym c.all_bits.ensures ∙ c.if-not-all_bits.false),
    )

pub axis_index-q-requires : goal.axis_index-q-requires
axis_index-q-requires c =
    let o = c.args.order in
    let bits = c.args.bits.now in (
      omega arith,
      omega (arith, axis_range o),
      omega arith,
      bits_of_lem bits (sym c.all_bits.ensures ∙ c.if-not-all_bits.false),
    )
