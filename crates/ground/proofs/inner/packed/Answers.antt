-- `ground::inner::packed` meets its contract: the number so far, and the bits left, make the whole number. Assumes nothing.
use native.Mathlib.Omega.{arith}
use mathlib.Core.Path.{refl}
use Prim.Native.Nat.{◌≤◌, ◌^◌}
use lib.Pow.{pow_mono}
use Rattle.ground.proofs.Bits.{bits_at}
use Rattle.ground.proofs.Digits.{number-next, number_end}
use borrow.Author.Rules.{rules}
use Rattle.ground.proofs.inner.packed.Goals as goal

pub loop-bit-init : goal.loop-bit-init
loop-bit-init c = (search rules, omega arith, refl)

pub overflow_mul-number : goal.overflow_mul-number
overflow_mul-number c =
    let l = c.loop-bit in
    let z = c in
    let t = c.loop-bit-test.true in
    let h = z.requires.1 in
    let cap : 2 ^ l.bit-index ≤ 2 ^ 63 = pow_mono {i = l.bit-index} {j = 63} (omega arith) in
    omega arith

pub overflow_add-number : goal.overflow_add-number
overflow_add-number c =
    let l = c.loop-bit in
    let z = c in
    let t = c.loop-bit-test.true in
    let h = z.requires.1 in
    let cap : 2 ^ l.bit-index ≤ 2 ^ 63 = pow_mono {i = l.bit-index} {j = 63} (omega arith) in
    rw c.from.ensures (omega (arith, bits_at z.args.bits.now l.bit-index z.requires.0))

pub loop-bit-preserved : goal.loop-bit-preserved
loop-bit-preserved c =
    let l = c.loop-bit in
    let z = c in
    let n = number-next z.args.bits.now l.bit-index l.number z.requires.0 c.loop-bit-test.true l.invariant.1 l.invariant.2 in
    (omega arith, rw c.from.ensures n.0, rw c.from.ensures n.1)

pub returns : goal.returns
returns c =
    let l = c.loop-bit in number_end c.args.bits.now l.bit-index l.number c.loop-bit-test.false l.invariant.2
