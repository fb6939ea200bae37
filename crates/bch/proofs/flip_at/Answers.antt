-- `bch::flip_at` meets its contract: a place past the end is none. Assumes nothing.
use mathlib.Core.Path.{sym, ap, ◌∙◌}
use Prim.Native.Nat.{ℕ, ◌-◌}
use native.Mathlib.Omega.{arith}
use lib.ListN.{get_or}
use lib.Seq.{set_out}
use Rattle.ground.proofs.Bits.{bits_at}
use Rattle.bch.specs.Search.{flip}
use Rattle.bch.proofs.flip_at.Goals as goal

pub overflow_sub-bits : goal.overflow_sub-bits
overflow_sub-bits c = omega (arith, bits_at c.args.bits.now c.from-place.result c.requires)

pub returns-then-place-bits : goal.returns-then-place-bits
unfolding flip
returns-then-place-bits c = ap (λ (i : ℕ). flip c.args.bits.now i) c.from-place.ensures

pub returns-else-place-bits : goal.returns-else-place-bits
unfolding flip
returns-else-place-bits c =
    let w = c.args.bits.now in
    let i = c.from-place.result in
    sym (set_out w i (1 - get_or w i 0) c.if-place-bits.false) ∙ ap (λ (k : ℕ). flip w k) c.from-place.ensures
