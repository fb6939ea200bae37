-- Products by x, x^2, x^3 and x^4 take elements of GF(128) to elements and sums to sums, and are shifts: the k digits
-- that come up fall to x^0 and x^3, computed at the 128 elements. Assumes nothing.
use mathlib.Core.Path.{◌≡◌, refl, ap, ◌∙◌}
use mathlib.Core.Bool.{Bool}
use Prim.Native.Nat.{ℕ, zero, suc, ◌-◌, ◌*◌, ◌/◌, ◌%◌, ◌^◌, ◌<◌, ◌≤◌}
use native.Mathlib.Omega.{arith}
use lib.Bits.{bit_xor, xor_self}
use lib.Dec.{T, eqb, eqb→eq, ltb, ltb→lt}
use Rattle.ground.proofs.Tests.{below, below_at}
use Rattle.bch.specs.Polynomial.{division_step}
use Rattle.bch.specs.Field.{FIELD, times_x, times_x2, times_x3, times_power}
use Rattle.bch.proofs.Division.{division_step-lt, division_step-xor}

pub record Additive (f : ℕ → ℕ) : Type 0 where
  pub lt : (a : ℕ) → a < 2 ^ 7 → f a < 2 ^ 7
  pub xor : (a b : ℕ) → a < 2 ^ 7 → b < 2 ^ 7 → f (bit_xor a b) ≡ bit_xor (f a) (f b)

pub times_x_additive : Additive times_x
unfolding times_x
times_x_additive = record {
  lt = λ a h. division_step-lt 7 FIELD refl a 0 h (omega arith);
  xor = λ a b h k. division_step-xor 7 FIELD refl a b 0 0 h k (omega arith) (omega arith);
}

additive_after : (f g : ℕ → ℕ) → Additive f → Additive g → Additive (λ a. f (g a))
additive_after f g hf hg = record {
  lt = λ a h. hf.lt (g a) (hg.lt a h);
  xor = λ a b h k. ap f (hg.xor a b h k) ∙ hf.xor (g a) (g b) (hg.lt a h) (hg.lt b k);
}

pub times_x2_additive : Additive times_x2
times_x2_additive = additive_after times_x times_x times_x_additive times_x_additive

pub times_x3_additive : Additive times_x3
times_x3_additive = additive_after times_x times_x2 times_x_additive times_x2_additive

pub times_x-lt : (a : ℕ) → a < 2 ^ 7 → times_x a < 2 ^ 7
times_x-lt = times_x_additive.lt

pub times_x_zero : times_x 0 ≡ 0
times_x_zero = times_x_additive.xor 0 0 (omega arith) (omega arith) ∙ xor_self (times_x 0)

pub power_additive : (k : ℕ) → Additive (times_power k)
power_additive zero = record { lt = λ a h. h; xor = λ a b h k. refl }
power_additive (suc k) = additive_after times_x (times_power k) times_x_additive (power_additive k)

-- ---- as shifts

-- the digits that stay, and those that come up
abbrev pub stays : ℕ → ℕ → ℕ
stays k a = a % (1 * 2 ^ (7 - k) % 256) * (1 * 2 ^ k % 256)

abbrev pub comes_up : ℕ → ℕ → ℕ
comes_up k a = a / 2 ^ (7 - k)

abbrev pub shifted : ℕ → ℕ → ℕ
shifted k a = bit_xor (bit_xor (stays k a) (comes_up k a)) (comes_up k a * 8)

-- a test that holds of each k up to four and each element
by_elements : (f : ℕ → ℕ → Bool) → T (below 5 (λ k. below 128 (f k))) → (k a : ℕ) → k ≤ 4 → a < 2 ^ 7 → T (f k a)
by_elements f ok k a hk ha = below_at 128 (f k) (below_at 5 (λ j. below 128 (f j)) ok k (omega arith)) a ha

pub stays_fits : (k a : ℕ) → k ≤ 4 → a < 2 ^ 7 → stays k a < 256
stays_fits k a hk ha = ltb→lt (stays k a) 256 (by_elements (λ j b. ltb (stays j b) 256) tt k a hk ha)

pub comes_up_fits : (k a : ℕ) → k ≤ 4 → a < 2 ^ 7 → comes_up k a * 8 < 256
comes_up_fits k a hk ha = ltb→lt (comes_up k a * 8) 256 (by_elements (λ j b. ltb (comes_up j b * 8) 256) tt k a hk ha)

pub power_shifted : (k a : ℕ) → k ≤ 4 → a < 2 ^ 7 → shifted k a ≡ times_power k a
unfolding division_step times_x
power_shifted k a hk ha = eqb→eq (shifted k a) (times_power k a) (by_elements (λ j b. eqb (shifted j b) (times_power j b)) tt k a hk ha)
