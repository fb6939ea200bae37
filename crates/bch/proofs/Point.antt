-- The powers of x in GF(128), of which the first 67 differ and none is zero, and the point of a place: its power of
-- x. Assumes nothing.
use mathlib.Core.Path.{◌≡◌, sym, ap, ◌∙◌, subst}
use mathlib.Core.Bool.{Bool, not}
use Prim.Native.Nat.{ℕ, zero, suc, ◌+◌, ◌-◌, ◌^◌, ◌<◌, ◌≤◌}
use native.Mathlib.Decide.{ℕ_discrete, dec_le}
use native.Mathlib.Omega.{arith}
use lib.Dec.{T, eqb}
use Rattle.ground.proofs.Tests.{below, below_at}
use Rattle.bch.specs.Polynomial.{division_step}
use Rattle.bch.specs.Field.{times_x, mul}
use Rattle.bch.proofs.TimesX.{times_x-lt, times_x_zero}
use Rattle.bch.proofs.Product.{mul-lt, times_x-mul}
use Rattle.bch.proofs.GaloisField.{one-mul, mul_comm, mul_cancel}
use Rattle.bch.proofs.Locator.{square}

unfoldable pub alpha : ℕ → ℕ
alpha zero = 1
alpha (suc n) = times_x (alpha n)

pub alpha-lt : (n : ℕ) → alpha n < 2 ^ 7
unfolding alpha
alpha-lt zero = omega arith
alpha-lt (suc n) = times_x-lt (alpha n) (alpha-lt n)

pub mul-times_x : (a b : ℕ) → a < 2 ^ 7 → b < 2 ^ 7 → mul a (times_x b) ≡ times_x (mul a b)
mul-times_x a b ha hb =
    mul_comm a (times_x b) ha (times_x-lt b hb) ∙ times_x-mul b a hb ∙ ap times_x (mul_comm b a hb ha)

-- the two terms of the locator, one place on
pub second_term_next : (u n : ℕ) → u < 2 ^ 7 → mul u (alpha (suc n)) ≡ times_x (mul u (alpha n))
unfolding alpha
second_term_next u n h = mul-times_x u (alpha n) h (alpha-lt n)

pub first_term_next : (u n : ℕ) → u < 2 ^ 7 → mul u (square (alpha (suc n))) ≡ times_x (times_x (mul u (square (alpha n))))
unfolding alpha
first_term_next u n h =
    let z : ℕ = alpha n in
    ap (mul u) (times_x-mul z (times_x z) (alpha-lt n) ∙ ap times_x (mul-times_x z z (alpha-lt n) (alpha-lt n)))
    ∙ mul-times_x u (times_x (square z)) h (times_x-lt (square z) (mul-lt z z)) ∙ ap times_x (mul-times_x u (square z) h (mul-lt z z))

-- the powers of x below the 67th are different: computed, that x^n is not 1 for n from 1 to 66

x-nonzero : times_x 1 ≡ 0 → ⊥
unfolding division_step times_x
x-nonzero z = omega arith

times_x_injective : (a b : ℕ) → a < 2 ^ 7 → b < 2 ^ 7 → times_x a ≡ times_x b → a ≡ b
times_x_injective a b ha hb e =
    let d : (y : ℕ) → y < 2 ^ 7 → mul (times_x 1) y ≡ times_x y = λ y h. times_x-mul 1 y (omega arith) ∙ ap times_x (one-mul y h) in
    mul_cancel (times_x 1) a b (times_x-lt 1 (omega arith)) x-nonzero ha hb (d a ha ∙ e ∙ sym (d b hb))

abbrev not-one-at : ℕ → Bool
not-one-at n = not (eqb (alpha (suc n)) 1)

not-one-computed : T (below 66 not-one-at)
unfolding division_step times_x alpha
not-one-computed = tt

alpha-not-one : (n : ℕ) → n < 66 → alpha (suc n) ≡ 1 → ⊥
alpha-not-one n h e = subst (λ (x : ℕ). T (not (eqb x 1))) e (below_at 66 not-one-at not-one-computed n h)

alpha-apart : (m n : ℕ) → n < 66 → alpha (m + suc n) ≡ alpha m → ⊥
unfolding alpha
alpha-apart zero n h e = alpha-not-one n h (let z : 0 + suc n ≡ suc n = omega arith in sym (ap alpha z) ∙ e)
alpha-apart (suc m) n h e =
    alpha-apart m n h
    (times_x_injective (alpha (m + suc n)) (alpha m) (alpha-lt (m + suc n)) (alpha-lt m)
    (let z : suc m + suc n ≡ suc (m + suc n) = omega arith in sym (ap alpha z) ∙ e))

alpha-nonzero : (n : ℕ) → alpha n ≡ 0 → ⊥
unfolding alpha
alpha-nonzero zero e = omega arith
alpha-nonzero (suc n) e = alpha-nonzero n (times_x_injective (alpha n) 0 (alpha-lt n) (omega arith) (e ∙ sym times_x_zero))

-- ---- the point of a place

unfoldable pub point : ℕ → ℕ
point k = alpha (66 - k)

pub point-lt : (k : ℕ) → point k < 2 ^ 7
unfolding point
point-lt k = alpha-lt (66 - k)

pub point-apart : (i j : ℕ) → i < j → j < 67 → point i ≡ point j → ⊥
unfolding point
point-apart i j l h e =
    let z : 66 - i ≡ 66 - j + suc (j - i - 1) = omega arith in
    alpha-apart (66 - j) (j - i - 1) (omega arith) (sym (ap alpha z) ∙ e)

pub point-nonzero : (i : ℕ) → point i ≡ 0 → ⊥
unfolding point
point-nonzero i = alpha-nonzero (66 - i)

pub point_injective : (i j : ℕ) → i < 67 → j < 67 → point i ≡ point j → i ≡ j
point_injective i j hi hj e = by (ℕ_discrete i j) (dec_le i j)
  where
    by : Dec (i ≡ j) → Dec (i ≤ j) → i ≡ j
    by (yes d) l = d
    by (no d) (yes l) = absurd (point-apart i j (omega arith) hj e)
    by (no d) (no l) = absurd (point-apart j i (omega arith) hi (sym e))
