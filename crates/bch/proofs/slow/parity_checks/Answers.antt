-- `bch::slow::parity_checks` meets its contract: after i turns the first i bits are divided. Assumes nothing.
use mathlib.Core.Path.{subst, sym}
use Prim.Native.Nat.{ℕ, ◌^◌, ◌<◌}
use native.Mathlib.Omega.{arith}
use lib.ListN.{get_or}
use Rattle.ground.proofs.Bits.{bits_of_lem, bits_at}
use Rattle.bch.proofs.Generator.{step-lt}
use Rattle.bch.proofs.TriedChanges.{divided-next, divided-whole, parity-tested}
use Rattle.bch.proofs.slow.parity_checks.Goals as goal

pub divided-rest-requires : goal.divided-rest-requires
divided-rest-requires c =
    let a = c.args.code in
    (c.loop-bit.invariant.0, bits_at a.bits.now c.loop-bit.bit-index (bits_of_lem a.bits.now a.right))

pub loop-bit-preserved : goal.loop-bit-preserved
loop-bit-preserved c =
    let a = c.args.code in
    let l = c.loop-bit in
    let w = a.bits.now in
    let i = l.bit-index in (
      subst (λ (r : ℕ). r < 2 ^ 14) (sym c.divided-rest.ensures) (step-lt l.rest (get_or w i 0) l.invariant.0 (bits_at w i (bits_of_lem w a.right))),
      divided-next w l.rest c.divided-rest.result i (omega arith) c.divided-rest.ensures l.invariant.1,
    )

pub returns : goal.returns
returns c =
    let a = c.args.code in
    let l = c.loop-bit in
    let w = a.bits.now in
    parity-tested w l.rest a.size (bits_of_lem w a.right) (divided-whole w l.rest l.bit-index (omega arith) l.invariant.1)
