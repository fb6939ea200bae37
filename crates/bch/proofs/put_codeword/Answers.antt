-- `bch::put_codeword` meets its contract: the information is copied, and the digits of its parity stand behind it.
-- Assumes nothing.
use mathlib.Core.Path.{sym, ap, ◌∙◌}
use native.Mathlib.Omega.{arith}
use lib.Seq.{length-take-le}
use Rattle.ground.proofs.Bits.{bits_of_lem}
use Rattle.bch.specs.Code.{parity}
use Rattle.bch.proofs.Parity.{information_digits}
use Rattle.bch.proofs.Codeword.{codeword-written}
use Rattle.bch.proofs.put_codeword.Goals as goal

pub packed-requires : goal.packed-requires
packed-requires c = let a = c.args.info in (bits_of_lem a.bits.now a.right, omega (arith, a.size))

pub parity_of-parity-requires : goal.parity_of-parity-requires
parity_of-parity-requires c =
    let a = c.args.info in
    (information_digits a.bits.now c.packed.result (bits_of_lem a.bits.now a.right) a.size c.packed.ensures).0

pub slice_bounds-copy_from_slice-end-2 : goal.slice_bounds-copy_from_slice-end-2
slice_bounds-copy_from_slice-end-2 c = sym (length-take-le 53 c.args.out.now (omega (arith, c.requires)))

pub copy_from_slice-requires : goal.copy_from_slice-requires
copy_from_slice-requires c = length-take-le 53 c.args.out.now (omega (arith, c.requires)) ∙ sym c.args.info.size

pub returns : goal.returns
returns c =
    let a = c.args.info in
    let y = c.copy_from_slice in
    let i = information_digits a.bits.now c.packed.result (bits_of_lem a.bits.now a.right) a.size c.packed.ensures in
    let q = c.parity_of-parity in
    codeword-written a.bits.now c.args.out.now y.new.self c.put_digits.new.out q.result
    a.size c.requires y.ensures.after (q.ensures ∙ ap parity i.1) c.put_digits.ensures
