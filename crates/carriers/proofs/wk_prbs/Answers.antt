-- `carriers::wk_prbs` meets its contract: before each turn the register has made as many steps as bits are written. Assumes nothing.
use mathlib.Core.Path.{◌≡◌, sym, ap, ◌∙◌}
use Prim.Native.Nat.{ℕ, ◌/◌, ◌%◌}
use native.Mathlib.Nat.{zero-add}
use native.Mathlib.Omega.{arith}
use lib.ListN.{length, get_or}
use Rattle.ground.proofs.Front.{front-next, front-full}
use Rattle.carriers.specs.Sequence.{register, wk, wk_from}
use Rattle.carriers.proofs.Sequence.{wk-length, wk-at, register_turn}
use borrow.Author.Rules.{rules}
use Rattle.carriers.proofs.wk_prbs.Goals as goal

pub loop-bit-init : goal.loop-bit-init
unfolding register
loop-bit-init c = search rules

pub loop-bit-preserved : goal.loop-bit-preserved
unfolding wk
loop-bit-preserved c =
    let at = c.loop-bit in
    let o = c.args.out.now in
    let bits = wk_from 0 (length o) in
    let long : length bits ≡ length o = wk-length (length o) 0 in
    let bit : at.register / 1024 % 2 ≡ get_or bits at.bit-index 0 =
    ap (λ (r : ℕ). r / 1024 % 2) at.invariant.1 ∙ ap wk (sym (zero-add at.bit-index)) ∙ sym (wk-at (length o) 0 at.bit-index 0 (omega arith)) in
    (search rules, cc (register_turn at.bit-index), front-next bits o at.out at.bit-index 0 _ (omega arith) (omega arith) at.invariant.2 bit)

pub returns : goal.returns
returns c =
    let at = c.loop-bit in
    let o = c.args.out.now in
    let long : length (wk_from 0 (length o)) ≡ length o = wk-length (length o) 0 in
    front-full (wk_from 0 (length o)) o at.out at.bit-index (omega arith) (sym long) at.invariant.2
