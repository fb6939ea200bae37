-- Patterns of changed places: the syndromes of one place are its point and the cube of it, and one place or two never
-- leave S1 zero. Assumes nothing.
use mathlib.Core.Path.{◌≡◌, refl, sym, ap, ap₂, ◌∙◌}
use mathlib.Core.List.{List, [], ◌∷◌}
use Prim.Native.Nat.{ℕ, zero, suc, ◌-◌, ◌^◌, ◌<◌}
use native.Mathlib.Omega.{arith}
use lib.Bits.{bit_xor, xor_lt, xor_zero_r}
use Rattle.bch.specs.Polynomial.{division_step}
use Rattle.bch.specs.Field.{times_x, mul, times_x3, syndrome1, syndrome3}
use Rattle.bch.specs.Search.{power, column, added, NoPattern}
use Rattle.bch.proofs.Xor.{xor_zero_eq}
use Rattle.bch.proofs.Generator.{power-lt}
use Rattle.bch.proofs.TimesX.{times_x-lt}
use Rattle.bch.proofs.Product.{mul-lt, times_x-mul}
use Rattle.bch.proofs.GaloisField.{one-mul}
use Rattle.bch.proofs.Point.{alpha, alpha-lt, mul-times_x, point, point-apart, point-nonzero}
use Rattle.bch.proofs.Locator.{square, cube}
use Rattle.bch.proofs.Syndrome.{syndrome1-xor, syndrome3-xor, syndrome1-step, syndrome3-step}

syndromes_of_one : (syndrome1 1 ≡ 1) × (syndrome3 1 ≡ 1)
unfolding division_step times_x syndrome1 syndrome3
syndromes_of_one = (refl, refl)

power-syndrome1 : (n : ℕ) → syndrome1 (power n) ≡ alpha n
unfolding alpha
power-syndrome1 zero = syndromes_of_one.0
power-syndrome1 (suc n) =
    syndrome1-step (power n) 0 (power-lt n) (omega arith) ∙ xor_zero_r (times_x (syndrome1 (power n))) ∙ ap times_x (power-syndrome1 n)

cube-times_x : (z : ℕ) → z < 2 ^ 7 → cube (times_x z) ≡ times_x3 (cube z)
cube-times_x z h =
    ap (λ (t : ℕ). mul t (times_x z)) (times_x-mul z (times_x z) h ∙ ap times_x (mul-times_x z z h h))
    ∙ times_x-mul (times_x (square z)) (times_x z) (times_x-lt (square z) (mul-lt z z))
    ∙ ap times_x (times_x-mul (square z) (times_x z) (mul-lt z z) ∙ ap times_x (mul-times_x (square z) z (mul-lt z z) h))

power-syndrome3 : (n : ℕ) → syndrome3 (power n) ≡ cube (alpha n)
unfolding alpha
power-syndrome3 zero = syndromes_of_one.1 ∙ sym (ap (λ (t : ℕ). mul t 1) (one-mul 1 (omega arith)) ∙ one-mul 1 (omega arith))
power-syndrome3 (suc n) =
    syndrome3-step (power n) 0 (power-lt n) (omega arith) ∙ xor_zero_r (times_x3 (syndrome3 (power n))) ∙ ap times_x3 (power-syndrome3 n)
    ∙ sym (cube-times_x (alpha n) (alpha-lt n))

pub column-syndrome1 : (k : ℕ) → syndrome1 (column k) ≡ point k
unfolding point column
column-syndrome1 k = power-syndrome1 (66 - k)

pub column-syndrome3 : (k : ℕ) → syndrome3 (column k) ≡ cube (point k)
unfolding point column
column-syndrome3 k = power-syndrome3 (66 - k)

pub column-lt : (k : ℕ) → column k < 2 ^ 14
unfolding column
column-lt k = power-lt (66 - k)

-- ---- one place, and two

pub single_syndrome1 : (i s : ℕ) → added (i ∷ []) ≡ s → point i ≡ syndrome1 s
single_syndrome1 i s e = sym (column-syndrome1 i) ∙ ap syndrome1 (sym (xor_zero_r (column i)) ∙ e)

pub single_syndrome3 : (i s : ℕ) → added (i ∷ []) ≡ s → cube (point i) ≡ syndrome3 s
single_syndrome3 i s e = sym (column-syndrome3 i) ∙ ap syndrome3 (sym (xor_zero_r (column i)) ∙ e)

pub pair-syndrome1 : (i j s : ℕ) → added (i ∷ j ∷ []) ≡ s → bit_xor (point i) (point j) ≡ syndrome1 s
pair-syndrome1 i j s e =
    sym (syndrome1-xor (column i) (column j) ∙ ap₂ bit_xor (column-syndrome1 i) (column-syndrome1 j)) ∙ ap syndrome1 (ap (bit_xor (column i)) (sym (xor_zero_r (column j))) ∙ e)

pub pair-syndrome3 : (i j s : ℕ) → added (i ∷ j ∷ []) ≡ s → bit_xor (cube (point i)) (cube (point j)) ≡ syndrome3 s
pair-syndrome3 i j s e =
    sym (syndrome3-xor (column i) (column j) ∙ ap₂ bit_xor (column-syndrome3 i) (column-syndrome3 j)) ∙ ap syndrome3 (ap (bit_xor (column i)) (sym (xor_zero_r (column j))) ∙ e)

pub added-lt : (ps : List ℕ) → added ps < 2 ^ 14
added-lt [] = omega arith
added-lt (i ∷ ps) = xor_lt 14 (column i) (added ps) (column-lt i) (added-lt ps)

-- one place or two never leave the first syndrome zero
pub single_nonzero : (i s : ℕ) → added (i ∷ []) ≡ s → syndrome1 s ≡ 0 → ⊥
single_nonzero i s e z = point-nonzero i (single_syndrome1 i s e ∙ z)

pub pair-nonzero : (i j s : ℕ) → i < j → j < 67 → added (i ∷ j ∷ []) ≡ s → syndrome1 s ≡ 0 → ⊥
pair-nonzero i j s l h e z = point-apart i j l h (xor_zero_eq (point i) (point j) (pair-syndrome1 i j s e ∙ z))

pub zero_syndrome_no_pattern : (s : ℕ) → syndrome1 s ≡ 0 → (s ≡ 0 → ⊥) → NoPattern s
zero_syndrome_no_pattern s e n [] hi hl f = n (sym f)
zero_syndrome_no_pattern s e n (i ∷ []) hi hl f = single_nonzero i s f e
zero_syndrome_no_pattern s e n (i ∷ j ∷ []) hi hl f = pair-nonzero i j s hi.2.0 hi.2.1 f e
zero_syndrome_no_pattern s e n (i ∷ j ∷ k ∷ ps) hi hl f = absurd (omega arith)
