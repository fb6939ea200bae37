-- The product of two elements. Assumes nothing.
use mathlib.Core.Path.{sym, ap₂, ◌∙◌}
use Prim.Native.Nat.{ℕ}
use native.Mathlib.Nat.{mod-eq_of_lt}
use Rattle.bch.specs.Field.{times_x, horner, mul}
use Rattle.bch.proofs.field.ElementMul.mul.Goals as goal

pub returns : goal.returns
unfolding mul
returns c =
    let a = c.args in
    c.sum_at.ensures ∙ ap₂ (λ (x y : ℕ). horner times_x 7 x y) (sym (mod-eq_of_lt a.self.below)) c.from.ensures
