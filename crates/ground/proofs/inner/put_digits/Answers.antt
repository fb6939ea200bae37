-- `ground::inner::put_digits` meets its contract: the output is filled from its front. Assumes nothing.
use native.Mathlib.Omega.{arith}
use mathlib.Core.Path.{◌≡◌, refl, sym, ap, ◌∙◌}
use Prim.Native.Nat.{◌+◌, ◌-◌, ◌/◌, ◌%◌, ◌^◌}
use lib.ListN.{length}
use Rattle.ground.specs.Digits.{digits_of}
use Rattle.ground.proofs.Front.{front-next, front_length, front-full}
use Rattle.ground.proofs.Digits.{digits_at, digits_length}
use borrow.Author.Rules.{rules}
use Rattle.ground.proofs.inner.put_digits.Goals as goal

pub loop-i-init : goal.loop-i-init
loop-i-init c = (search rules, refl, refl)

pub loop-i-preserved : goal.loop-i-preserved
loop-i-preserved c =
    let l = c.loop-i in
    let z = c in
    let v = z.args.number in
    let o = z.args.out.now in
    let n = length o in
    let e = digits_of n v in
    let le : length e ≡ n = digits_length n v in
    let t = c.loop-i-test.true in
    let lo : length l.out ≡ n = l.invariant.1 in
    let d = front-next e o l.out l.i 0 (v / 2 ^ (n - 1 - l.i) % 2) (omega arith) (omega arith) l.invariant.2 (sym (digits_at n v l.i (omega arith))) in
    (omega arith, ap length d ∙ front_length e o (l.i + 1) (omega arith) (omega arith), d)

pub returns : goal.returns
returns c =
    let l = c.loop-i in
    let z = c in
    let n = length z.args.out.now in
    let e = digits_of n z.args.number in
    let le : length e ≡ n = digits_length n z.args.number in
    let lo : length l.out ≡ n = l.invariant.1 in
    front-full e z.args.out.now l.out l.i (omega (arith, c.loop-i-test.false)) (omega arith) l.invariant.2
