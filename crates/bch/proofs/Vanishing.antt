-- The code by its field: a polynomial's value at x and at x^3 is the syndrome of its remainder by the generator, which
-- is the product of two polynomials that vanish there; so 67 bits are a codeword exactly where they vanish at both.
-- And by its shortening: zeros in front change no remainder. Assumes nothing.
use mathlib.Core.Path.{◌≡◌, refl, sym, ap, ap₂, ◌∙◌}
use mathlib.Core.Logic.{◌↔◌}
use mathlib.Core.List.{List, [], ◌∷◌, ◌++◌}
use Prim.Native.Nat.{ℕ, zero, suc, ◌*◌, ◌^◌, ◌<◌}
use native.Mathlib.Omega.{arith}
use lib.Bits.{bit_xor, xor_zero_r}
use lib.Dec.{T}
use lib.ListN.{length, replicate}
use Rattle.ground.specs.Bits.{Bits}
use Rattle.ground.specs.Digits.{digits_of}
use Rattle.ground.proofs.Tests.{below}
use Rattle.ground.proofs.Xor.{bit_cases, xor_assoc}
use Rattle.bch.specs.Polynomial.{product_of, division_step}
use Rattle.bch.specs.Code.{GENERATOR, step, remainder_of, Codeword}
use Rattle.bch.specs.Field.{FIELD, times_x, times_x3, mul, syndrome1, syndrome3, X, raised, polynomial_at, Vanishes}
use Rattle.bch.proofs.Linear.{Sums, sums_zero, agree, linear-below}
use Rattle.bch.proofs.Generator.{step-lt, remainder_lt}
use Rattle.bch.proofs.TimesX.{Additive, times_x_additive, times_x3_additive}
use Rattle.bch.proofs.Horner.{horner-lt}
use Rattle.bch.proofs.Product.{mul-lt, mul-xor}
use Rattle.bch.proofs.GaloisField.{one-mul, mul_comm, mul_assoc, mul_zero}
use Rattle.bch.proofs.Syndrome.{syndrome1-xor, syndrome3-xor, syndrome1-lt, syndrome1-step, syndrome3-step, syndromes_tell_remainder}

pub generator-factors :
    (product_of FIELD 0 (digits_of 8 0x8F) ≡ GENERATOR) × (polynomial_at X (digits_of 8 FIELD) ≡ 0) × (polynomial_at (raised X 3) (digits_of 8 0x8F) ≡ 0)
unfolding division_step times_x mul
generator-factors = (refl, refl, refl)

raised_lt : (p n : ℕ) → raised p n < 2 ^ 7
raised_lt p zero = omega arith
raised_lt p (suc n) = mul-lt p (raised p n)

mul_digit : (q b : ℕ) → q < 2 ^ 7 → b < 2 → mul q b ≡ b * q
mul_digit q b hq hb =
    bit_cases (λ (d : ℕ). mul q d ≡ d * q)
    (mul_zero q ∙ omega arith)
    (mul_comm q 1 hq (omega arith) ∙ one-mul q hq ∙ omega arith) b hb

-- ---- a map from remainders to elements that takes one more bit as Horner's rule at the point p does

module _ (p : ℕ) (f s : ℕ → ℕ) (hp : p < 2 ^ 7) (hf : Additive f) (ok : T (below 7 (agree f (mul p)))) (hs : Sums s) (lt : (r : ℕ) → s r < 2 ^ 7)
    (next : (r b : ℕ) → r < 2 ^ 14 → b < 2 → s (step r b) ≡ bit_xor (f (s r)) b) where
  times_point : (a : ℕ) → a < 2 ^ 7 → f a ≡ mul p a
  times_point = linear-below 7 f (mul p) hf.xor (λ a b ha hb. mul-xor p a b) ok

  power-next : (q r b : ℕ) → q < 2 ^ 7 → r < 2 ^ 14 → b < 2 → mul q (s (step r b)) ≡ bit_xor (mul (mul p q) (s r)) (b * q)
  power-next q r b hq hr hb =
      ap (mul q) (next r b hr hb ∙ ap (λ (x : ℕ). bit_xor x b) (times_point (s r) (lt r)))
      ∙ mul-xor q (mul p (s r)) b
      ∙ ap₂ bit_xor (sym (mul_assoc q p (s r) hq hp (lt r)) ∙ ap (λ (x : ℕ). mul x (s r)) (mul_comm q p hq hp)) (mul_digit q b hq hb)

  remainder_value : (r : ℕ) (bs : List ℕ) → r < 2 ^ 14 → Bits bs
      → s (remainder_of r bs) ≡ bit_xor (mul (raised p (length bs)) (s r)) (polynomial_at p bs)
  remainder_value r [] hr hb = sym (xor_zero_r (mul 1 (s r)) ∙ one-mul (s r) (lt r))
  remainder_value r (b ∷ bs) hr hb =
      let q : ℕ = raised p (length bs) in
      remainder_value (step r b) bs (step-lt r b hr hb.0) hb.1
      ∙ ap (λ (x : ℕ). bit_xor x (polynomial_at p bs)) (power-next q r b (raised_lt p (length bs)) hr hb.0)
      ∙ xor_assoc (mul (mul p q) (s r)) (b * q) (polynomial_at p bs)

  value_of_remainder : (bs : List ℕ) → Bits bs → s (remainder_of 0 bs) ≡ polynomial_at p bs
  value_of_remainder bs hb =
      remainder_value 0 bs (omega arith) hb
      ∙ ap (λ (x : ℕ). bit_xor x (polynomial_at p bs)) (ap (mul (raised p (length bs))) (sums_zero s hs) ∙ mul_zero (raised p (length bs)))

syndrome3-lt : (s : ℕ) → syndrome3 s < 2 ^ 7
unfolding syndrome3
syndrome3-lt s = horner-lt times_x3 times_x3_additive 14 1 s (omega arith)

-- the syndromes of the remainder are the polynomial's values at x and at x^3
pub syndrome1_is_value : (bs : List ℕ) → Bits bs → syndrome1 (remainder_of 0 bs) ≡ polynomial_at X bs
unfolding division_step times_x mul
syndrome1_is_value = value_of_remainder X times_x syndrome1 (omega arith) times_x_additive tt syndrome1-xor syndrome1-lt syndrome1-step

pub syndrome3_is_value : (bs : List ℕ) → Bits bs → syndrome3 (remainder_of 0 bs) ≡ polynomial_at (raised X 3) bs
unfolding division_step times_x mul
syndrome3_is_value = value_of_remainder (raised X 3) times_x3 syndrome3 (raised_lt X 3) times_x3_additive tt syndrome3-xor syndrome3-lt syndrome3-step

-- ---- the code

-- a codeword is 67 bits that vanish at x and at x^3
pub codeword_vanishes : (w : List ℕ) → Codeword w ↔ ((length w ≡ 67) × Bits w × Vanishes w)
codeword_vanishes w = (
  λ c. (
    c.size,
    c.bits,
    (
      sym (syndrome1_is_value w c.bits) ∙ ap syndrome1 c.divided ∙ sums_zero syndrome1 syndrome1-xor,
      sym (syndrome3_is_value w c.bits) ∙ ap syndrome3 c.divided ∙ sums_zero syndrome3 syndrome3-xor,
    ),
  ),
  λ v.
      record {
        size = v.0;
        bits = v.1;
        divided =
            syndromes_tell_remainder (remainder_of 0 w) 0 (remainder_lt 0 w (omega arith) v.1) (omega arith)
            (syndrome1_is_value w v.1 ∙ v.2.0 ∙ sym (sums_zero syndrome1 syndrome1-xor))
            (syndrome3_is_value w v.1 ∙ v.2.1 ∙ sym (sums_zero syndrome3 syndrome3-xor));
      },
)

-- n zeros in front change no remainder: with 60 the code is that of 127 places, shortened
pub shortening_keeps_remainder : (n : ℕ) (w : List ℕ) → remainder_of 0 (replicate n 0 ++ w) ≡ remainder_of 0 w
unfolding division_step
shortening_keeps_remainder zero w = refl
shortening_keeps_remainder (suc n) w = shortening_keeps_remainder n w
