-- `carriers::inner::boost` meets its contract: the two literals are the two patterns. Assumes nothing.
use mathlib.Core.Path.{◌≡◌, refl, sym, ap}
use Prim.Native.Nat.{ℕ, zero, suc, ◌<◌}
use native.Mathlib.Nat.{not-suc-le-zero}
use native.Mathlib.Omega.{arith}
use lib.Ieee.{Float, of_bits, of_fields, neg}
use Rattle.carriers.specs.Pilots.{boosted, pilot_cell}
use Rattle.ground.specs.Cells.{plus_zero}
use Rattle.carriers.proofs.inner.boost.Goals as goal

negative : (w : ℕ) → 0 < w → boosted w ≡ boosted 1
unfolding boosted
negative zero h = absurd (not-suc-le-zero h)
negative (suc w) h = refl

pub returns-then-w-eq0 : goal.returns-then-w-eq0
unfolding boosted plus_zero of_bits of_fields
returns-then-w-eq0 c = sym (ap pilot_cell c.if-w-eq0.true)

pub returns : goal.returns
unfolding boosted plus_zero of_bits of_fields neg
returns c = sym (ap (λ (x : Float). record { re = x; im = plus_zero }) (negative c.args.w (omega arith)))
