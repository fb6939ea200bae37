-- `bch::put_information` meets its contract: a copy, with the named places flipped. Assumes nothing.
use mathlib.Core.Path.{sym, ◌∙◌}
use native.Mathlib.Omega.{arith}
use lib.Seq.{length-take-le}
use Rattle.ground.proofs.Bits.{bits_of_lem}
use Rattle.bch.proofs.Information.{copied_bits, flipped_bits, one_written, two-written}
use Rattle.bch.proofs.put_information.Goals as goal

pub slice_bounds-copy_from_slice-end : goal.slice_bounds-copy_from_slice-end
slice_bounds-copy_from_slice-end c = let a = c.args.code in sym (length-take-le 53 a.bits.now (omega (arith, a.size)))

pub copy_from_slice-requires : goal.copy_from_slice-requires
copy_from_slice-requires c = let a = c.args.code in c.requires ∙ sym (length-take-le 53 a.bits.now (omega (arith, a.size)))

pub flip_at-requires : goal.flip_at-requires
flip_at-requires c =
    let a = c.args.code in
    let y = c.copy_from_slice in
    copied_bits a.bits.now y.new.self a.size y.ensures.after (bits_of_lem a.bits.now a.right)

pub flip_at-requires-in-Two : goal.flip_at-requires-in-Two
flip_at-requires-in-Two c =
    let a = c.args.code in
    let y = c.copy_from_slice in
    copied_bits a.bits.now y.new.self a.size y.ensures.after (bits_of_lem a.bits.now a.right)

pub flip_at-requires-in-Two-2 : goal.flip_at-requires-in-Two-2
flip_at-requires-in-Two-2 c =
    let a = c.args.code in
    let y = c.copy_from_slice in
    let x = c.flip_at-in-Two in
    flipped_bits a.bits.now y.new.self a.size y.ensures.after x.new.bits c.in-Two.i (bits_of_lem a.bits.now a.right) x.ensures

pub returns-in-One : goal.returns-in-One
returns-in-One c =
    let a = c.args.code in
    let y = c.copy_from_slice in
    one_written a.bits.now y.new.self a.size y.ensures.after c.args.found c.flip_at.new.bits c.in-One.i c.in-One.is c.flip_at.ensures

pub returns-in-Two : goal.returns-in-Two
returns-in-Two c =
    let a = c.args.code in
    let y = c.copy_from_slice in
    two-written a.bits.now y.new.self a.size y.ensures.after c.args.found
    c.flip_at-in-Two-2.new.bits c.flip_at-in-Two.new.bits c.in-Two.i c.in-Two.j c.in-Two.is
    c.flip_at-in-Two.ensures c.flip_at-in-Two-2.ensures
