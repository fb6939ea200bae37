-- The product in GF(128) is additive on both sides, stays below 128, and is the remainder of the product of the two
-- polynomials by x^7 + x^3 + 1. Assumes nothing.
use mathlib.Core.Path.{◌≡◌, refl, sym, ap, ap₂, ◌∙◌, subst}
use Prim.Native.Nat.{ℕ, zero, suc, ◌+◌, ◌*◌, ◌/◌, ◌%◌, ◌^◌, ◌<◌, ◌≤◌}
use native.Mathlib.Nat.{mod-lt, mod-eq_of_lt, pow-suc, add-zero}
use native.Mathlib.Omega.{arith}
use lib.Bits.{bit_xor, xor_lt, xor_mod}
use lib.Pow.{pow_mono}
use Rattle.ground.specs.Digits.{digits_of}
use Rattle.ground.proofs.Digits.{digits_bits, small_digits}
use Rattle.ground.proofs.Xor.{odd, bit_cases}
use Rattle.bch.specs.Polynomial.{division_step, remainder_by}
use Rattle.bch.specs.Field.{FIELD, times_x, horner, mul}
use Rattle.bch.proofs.Reduction.{reduced, reduced-xor, reduced_zero, reduced-behind, reduced-bits, reduced-more, reduced-small}
use Rattle.bch.proofs.TimesX.{times_x_additive, times_x-lt}
use Rattle.bch.proofs.Horner.{horner-lt, horner-xor, horner-out, horner-xor-front}

low-element : (a : ℕ) → a % 2 ^ 7 < 2 ^ 7
low-element a = mod-lt a (omega arith)

pub mul-lt : (a b : ℕ) → mul a b < 2 ^ 7
unfolding mul
mul-lt a b = horner-lt times_x times_x_additive 7 (a % 2 ^ 7) b (low-element a)

pub mul-xor : (a b c : ℕ) → mul a (bit_xor b c) ≡ bit_xor (mul a b) (mul a c)
unfolding mul
mul-xor a b c = horner-xor times_x times_x_additive 7 (a % 2 ^ 7) b c (low-element a)

pub xor-mul : (a c b : ℕ) → mul (bit_xor a c) b ≡ bit_xor (mul a b) (mul c b)
unfolding mul
xor-mul a c b =
    ap (λ (x : ℕ). horner times_x 7 x b) (xor_mod a c 7)
    ∙ horner-xor-front times_x times_x_additive 7 (a % 2 ^ 7) (c % 2 ^ 7) b (low-element a) (low-element c)

pub times_x-mul : (a b : ℕ) → a < 2 ^ 7 → mul (times_x a) b ≡ times_x (mul a b)
unfolding mul
times_x-mul a b h =
    ap (λ (x : ℕ). horner times_x 7 x b) (mod-eq_of_lt (times_x-lt a h) ∙ ap times_x (sym (mod-eq_of_lt h)))
    ∙ horner-out times_x times_x_additive 7 (a % 2 ^ 7) b (low-element a)

-- ---- the remainder of the polynomials' product

-- the product of two polynomials: shifted, and added without carry
abbrev pub plain_product : ℕ → ℕ → ℕ
plain_product a b = horner (λ p. p * 2) 7 a b

product_lt : (n a b : ℕ) → a < 2 ^ 7 → horner (λ p. p * 2) n a b < 2 ^ (7 + n)
product_lt zero a b h = omega arith
product_lt (suc n) a b h =
    let e : 7 + suc n ≡ suc (7 + n) = omega arith in
    let p : ℕ = horner (λ p. p * 2) n a (b / 2) in
    let up : 2 ^ 7 ≤ 2 ^ suc (7 + n) = pow_mono {i = 7} {j = suc (7 + n)} (omega arith) in
    let d : b % 2 * a < 2 ^ 7 = bit_cases (λ (x : ℕ). x * a < 2 ^ 7) (omega arith) (omega arith) (b % 2) (odd b) in
    subst (λ (k : ℕ). bit_xor (p * 2) (b % 2 * a) < 2 ^ k) (sym e)
    (xor_lt (suc (7 + n)) (p * 2) (b % 2 * a) (omega (arith, pow-suc 2 (7 + n), product_lt n a (b / 2) h)) (omega arith))

product-reduced : (n a b : ℕ) → a < 2 ^ 7 → reduced 7 FIELD refl (7 + n) (horner (λ p. p * 2) n a b) ≡ horner times_x n a b
unfolding times_x
product-reduced zero a b h = reduced_zero 7 FIELD refl 7
product-reduced (suc n) a b h =
    let e : 7 + suc n ≡ suc (7 + n) = omega arith in
    let p : ℕ = horner (λ p. p * 2) n a (b / 2) in
    let z : p * 2 + 0 ≡ p * 2 = add-zero (p * 2) in
    let d : b % 2 * a < 2 ^ 7 = bit_cases (λ (x : ℕ). x * a < 2 ^ 7) (omega arith) (omega arith) (b % 2) (odd b) in
    let s : 7 + suc n ≡ suc (7 + n) = omega arith in
    ap (λ (k : ℕ). reduced 7 FIELD refl k (bit_xor (p * 2) (b % 2 * a))) e
    ∙ reduced-xor 7 FIELD refl (suc (7 + n)) (p * 2) (b % 2 * a)
    ∙ ap₂ bit_xor
    (ap (reduced 7 FIELD refl (suc (7 + n))) (sym z) ∙ reduced-behind 7 FIELD refl (7 + n) p 0 (omega arith)
    ∙ ap (λ (r : ℕ). division_step 7 FIELD r 0) (product-reduced n a (b / 2) h))
    (ap (λ (k : ℕ). reduced 7 FIELD refl k (b % 2 * a)) (sym s) ∙ reduced-more 7 FIELD refl 7 (suc n) (b % 2 * a) d
    ∙ reduced-small 7 FIELD refl 7 (b % 2 * a) (omega arith) d)

-- the product of two elements is the remainder of the product of their polynomials by x^7 + x^3 + 1
pub mul_is_remainder : (a b : ℕ) → a < 2 ^ 7 → mul a b ≡ remainder_by 7 FIELD 0 (digits_of 14 (plain_product a b))
unfolding mul
mul_is_remainder a b h =
    let v : ℕ = plain_product a b in
    let l : v < 2 ^ 14 = product_lt 7 a b h in
    ap (λ (x : ℕ). horner times_x 7 x b) (mod-eq_of_lt h)
    ∙ sym (product-reduced 7 a b h)
    ∙ ap (reduced 7 FIELD refl 14) (sym (small_digits 14 v l))
    ∙ reduced-bits 7 FIELD refl 0 0 (digits_of 14 v) (digits_bits 14 v)
