-- `tps::word::field` meets its contract: the bits of a part are bits, and their number is packed. Assumes nothing.
use native.Mathlib.Omega.{arith}
use Prim.Native.Nat.{◌-◌}
use lib.ListN.{drop, length-drop}
use lib.Seq.{length-take-le}
use Rattle.ground.proofs.Bits.{bits-take, bits-drop}
use Rattle.tps.proofs.Fields.{field_below}
use Rattle.tps.proofs.word.field.Goals as goal

pub packed-requires : goal.packed-requires
packed-requires c =
    let z = c in
    let s = z.args.information.now in
    let from = z.args.from in
    let n = z.args.to - from in
    (bits-take n (drop from s) (bits-drop from s z.requires.0), omega (arith, length-take-le n (drop from s) (omega (arith, length-drop from s))))

pub overflow_cast-result : goal.overflow_cast-result
overflow_cast-result c =
    let z = c in
    let p = z.requires in
    record { fits = field_below z.args.information.now z.args.from z.args.to c.packed.result p.0 p.1 p.2 p.3 p.4 c.packed.ensures }
