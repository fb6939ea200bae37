-- `bch::field::Element::times_power` meets its contract: computed at the 128 elements. Assumes nothing.
use mathlib.Core.Path.{sym, subst}
use Prim.Native.Nat.{ℕ, ◌^◌, ◌<◌}
use native.Mathlib.Omega.{arith}
use Rattle.bch.proofs.TimesX.{power_additive, stays_fits, comes_up_fits, power_shifted}
use Rattle.bch.proofs.field.Element.times_power.Goals as goal

pub overflow_mul-result : goal.overflow_mul-result
overflow_mul-result c = let a = c.args in omega (arith, stays_fits a.k a.self.digits c.requires a.self.below)

pub overflow_mul-result-2 : goal.overflow_mul-result-2
overflow_mul-result-2 c = let a = c.args in omega (arith, comes_up_fits a.k a.self.digits c.requires a.self.below)

pub invariant_of-result : goal.invariant_of-result
invariant_of-result c =
    let a = c.args in
    record { below = subst (λ (n : ℕ). n < 2 ^ 7) (sym (power_shifted a.k a.self.digits c.requires a.self.below)) ((power_additive a.k).lt a.self.digits a.self.below) }

pub returns : goal.returns
returns c = let a = c.args in power_shifted a.k a.self.digits c.requires a.self.below
