-- `bch::field::Element::sum_at` meets its contract: the sum so far, and Horner's rule on the digits left, make the whole.
-- Assumes nothing.
use mathlib.Core.Path.{◌≡◌, sym, subst}
use Prim.Native.Nat.{ℕ, suc, ◌+◌, ◌-◌, ◌^◌, ◌<◌}
use native.Mathlib.Omega.{arith}
use Rattle.bch.specs.Field.{times_power, horner}
use Rattle.bch.proofs.TimesX.{power_additive}
use Rattle.bch.proofs.Horner.{horner-lt, sum-next, sum_done}
use Rattle.bch.proofs.field.Element.sum_at.Goals as goal

pub loop-preserved : goal.loop-preserved
loop-preserved c =
    let a = c.args in
    let l = c.loop in
    let z : a.n - l.counter ≡ suc (a.n - (l.counter + 1)) = omega arith in
    sum-next (times_power a.k) (power_additive a.k) (horner (times_power a.k) a.n a.self.digits a.digits) l.sum l.term.digits l.rest _ _ _
    l.invariant z c.times_power-term.ensures

pub invariant_of-result : goal.invariant_of-result
invariant_of-result c =
    let a = c.args in
    let l = c.loop in
    let whole : l.sum ≡ horner (times_power a.k) a.n a.self.digits a.digits =
    sum_done (times_power a.k) (power_additive a.k) (horner (times_power a.k) a.n a.self.digits a.digits) l.sum l.term.digits l.rest _ l.invariant (omega arith) in
    record {
      below = subst (λ (s : ℕ). s < 2 ^ 7) (sym whole) (horner-lt (times_power a.k) (power_additive a.k) a.n a.self.digits a.digits a.self.below);
    }

pub returns : goal.returns
returns c =
    let a = c.args in
    let l = c.loop in
    sum_done (times_power a.k) (power_additive a.k) (horner (times_power a.k) a.n a.self.digits a.digits) l.sum l.term.digits l.rest _ l.invariant (omega arith)
