-- `bch::remainder::remainder` meets its contract: the last 14 bits, plus the parity of the first 53. Assumes nothing.
use mathlib.Core.Path.{◌≡◌, sym, ap, ap₂, ◌∙◌, subst}
use mathlib.Core.List.{List}
use Prim.Native.Nat.{ℕ, ◌-◌, ◌≤◌}
use native.Mathlib.Omega.{arith}
use lib.Bits.{bit_xor}
use lib.ListN.{length, take, drop, length-drop}
use lib.Seq.{take_all, length-take-le}
use Rattle.ground.specs.Bits.{Bits}
use Rattle.ground.specs.Digits.{value_of}
use Rattle.ground.proofs.Bits.{bits_of_lem, bits-take, bits-drop}
use Rattle.bch.specs.Code.{parity}
use Rattle.bch.proofs.Generator.{remainder_split}
use Rattle.bch.proofs.Parity.{information_digits}
use Rattle.bch.proofs.remainder.remainder.Goals as goal

pub slice_bounds-packed-end : goal.slice_bounds-packed-end
slice_bounds-packed-end c = let a = c.args.code in sym (length-take-le 53 a.bits.now (omega (arith, a.size)))

pub packed-information-requires : goal.packed-information-requires
packed-information-requires c =
    let a = c.args.code in
    (bits-take 53 a.bits.now (bits_of_lem a.bits.now a.right), omega (arith, length-take-le 53 a.bits.now (omega (arith, a.size))))

pub packed-parity-requires : goal.packed-parity-requires
packed-parity-requires c =
    let a = c.args.code in
    let w = a.bits.now in
    let l : length (drop 53 w) ≡ length w - 53 = length-drop 53 w in
    subst (λ (p : List ℕ). Bits p × (length p ≤ 64)) (sym (take_all (length w - 53) (drop 53 w) (omega arith)))
    (bits-drop 53 w (bits_of_lem w a.right), omega (arith, a.size))

pub parity_of-requires : goal.parity_of-requires
parity_of-requires c =
    let a = c.args.code in
    let w = a.bits.now in
    (information_digits (take 53 w) c.packed-information.result (bits-take 53 w (bits_of_lem w a.right))
    (length-take-le 53 w (omega (arith, a.size))) c.packed-information.ensures).0

pub returns : goal.returns
returns c =
    let a = c.args.code in
    let w = a.bits.now in
    let i = information_digits (take 53 w) c.packed-information.result (bits-take 53 w (bits_of_lem w a.right))
    (length-take-le 53 w (omega (arith, a.size))) c.packed-information.ensures in
    let l : length (drop 53 w) ≡ length w - 53 = length-drop 53 w in
    ap₂ bit_xor (c.packed-parity.ensures ∙ ap (value_of 0) (take_all (length w - 53) (drop 53 w) (omega arith)))
    (c.parity_of.ensures ∙ ap parity i.1)
    ∙ sym (remainder_split w (bits_of_lem w a.right) a.size)
