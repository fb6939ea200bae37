-- Horner's rule at a point whose product is additive: it stays among the elements and takes sums to sums, on both
-- sides; and the loop that sums its terms. Assumes nothing.
use mathlib.Core.Path.{◌≡◌, refl, sym, ap, ap₂, ◌∙◌, subst}
use Prim.Native.Nat.{ℕ, zero, suc, ◌*◌, ◌/◌, ◌%◌, ◌^◌, ◌<◌, ◌≤◌}
use native.Mathlib.Omega.{arith}
use lib.Bits.{bit_xor, xor_lt, xor_zero_r, xor_comm, xor_self}
use Rattle.ground.proofs.Xor.{odd, xor_half, bit_cases, xor_assoc}
use Rattle.bch.specs.Field.{horner}
use Rattle.bch.proofs.Xor.{xor-odd, xor_swap, digits_times, digit_times_xor}
use Rattle.bch.proofs.TimesX.{Additive}

pub digit_lt : (d a : ℕ) → d < 2 → a < 2 ^ 7 → d * a < 2 ^ 7
digit_lt d a hd ha = bit_cases (λ (x : ℕ). x * a < 2 ^ 7) (omega arith) (omega arith) d hd

module _ (f : ℕ → ℕ) (hf : Additive f) where
  pub horner-lt : (n a b : ℕ) → a < 2 ^ 7 → horner f n a b < 2 ^ 7
  horner-lt zero a b h = omega arith
  horner-lt (suc n) a b h =
      xor_lt 7 (f (horner f n a (b / 2))) (b % 2 * a) (hf.lt (horner f n a (b / 2)) (horner-lt n a (b / 2) h)) (digit_lt (b % 2) a (odd b) h)

  pub horner-xor : (n a b c : ℕ) → a < 2 ^ 7 → horner f n a (bit_xor b c) ≡ bit_xor (horner f n a b) (horner f n a c)
  horner-xor zero a b c h = refl
  horner-xor (suc n) a b c h =
      ap₂ (λ (x y : ℕ). bit_xor (f (horner f n a x)) (y * a)) (xor_half b c) (xor-odd b c)
      ∙ ap₂ (λ (x y : ℕ). bit_xor (f x) y) (horner-xor n a (b / 2) (c / 2) h) (digits_times (b % 2) (c % 2) a (odd b) (odd c))
      ∙ ap (λ (x : ℕ). bit_xor x (bit_xor (b % 2 * a) (c % 2 * a)))
      (hf.xor (horner f n a (b / 2)) (horner f n a (c / 2)) (horner-lt n a (b / 2) h) (horner-lt n a (c / 2) h))
      ∙ xor_swap (f (horner f n a (b / 2))) (f (horner f n a (c / 2))) (b % 2 * a) (c % 2 * a)

  zero_fixed : f 0 ≡ 0
  zero_fixed = hf.xor 0 0 (omega arith) (omega arith) ∙ xor_self (f 0)

  digit_product : (d a : ℕ) → d < 2 → d * f a ≡ f (d * a)
  digit_product d a hd =
      bit_cases (λ (x : ℕ). x * f a ≡ f (x * a))
      (let e : 0 * f a ≡ 0 = omega arith in let g : 0 * a ≡ 0 = omega arith in e ∙ sym (ap f g ∙ zero_fixed))
      (let e : 1 * f a ≡ f a = omega arith in let g : 1 * a ≡ a = omega arith in e ∙ sym (ap f g)) d hd

  -- a product with f stands in front of the whole
  pub horner-out : (n a b : ℕ) → a < 2 ^ 7 → horner f n (f a) b ≡ f (horner f n a b)
  horner-out zero a b h = sym zero_fixed
  horner-out (suc n) a b h =
      ap₂ (λ (x y : ℕ). bit_xor (f x) y) (horner-out n a (b / 2) h) (digit_product (b % 2) a (odd b))
      ∙ sym (hf.xor (f (horner f n a (b / 2))) (b % 2 * a) (hf.lt (horner f n a (b / 2)) (horner-lt n a (b / 2) h)) (digit_lt (b % 2) a (odd b) h))

  pub horner-xor-front : (n a c b : ℕ) → a < 2 ^ 7 → c < 2 ^ 7
      → horner f n (bit_xor a c) b ≡ bit_xor (horner f n a b) (horner f n c b)
  horner-xor-front zero a c b h k = refl
  horner-xor-front (suc n) a c b h k =
      ap₂ (λ (x y : ℕ). bit_xor (f x) y) (horner-xor-front n a c (b / 2) h k) (digit_times_xor (b % 2) a c (odd b))
      ∙ ap (λ (x : ℕ). bit_xor x (bit_xor (b % 2 * a) (b % 2 * c)))
      (hf.xor (horner f n a (b / 2)) (horner f n c (b / 2)) (horner-lt n a (b / 2) h) (horner-lt n c (b / 2) k))
      ∙ xor_swap (f (horner f n a (b / 2))) (f (horner f n c (b / 2))) (b % 2 * a) (b % 2 * c)

  -- a loop's state: the term is an element, and the sum so far with Horner's rule on the digits left is the whole
  abbrev pub Summing : ℕ → ℕ → ℕ → ℕ → ℕ → Type 0
  Summing whole sum term rest left = (term < 2 ^ 7) × (bit_xor sum (horner f left term rest) ≡ whole)

  -- the lowest digit's term goes into the sum, and the rest is at the next term
  pub sum-next : (whole sum term rest left later next : ℕ) → Summing whole sum term rest left → left ≡ suc later → next ≡ f term
      → Summing whole (bit_xor sum (rest % 2 * term)) next (rest / 2) later
  sum-next whole sum term rest left later next s z en =
      let t : ℕ = rest % 2 * term in
      let g : horner f left term rest ≡ bit_xor t (horner f later next (rest / 2)) =
      ap (λ (k : ℕ). horner f k term rest) z ∙ xor_comm (f (horner f later term (rest / 2))) t
      ∙ ap (bit_xor t) (sym (ap (λ (x : ℕ). horner f later x (rest / 2)) en ∙ horner-out later term (rest / 2) s.0)) in (
        subst (λ (x : ℕ). x < 2 ^ 7) (sym en) (hf.lt term s.0),
        xor_assoc sum t (horner f later next (rest / 2)) ∙ ap (bit_xor sum) (sym g) ∙ s.1,
      )

  pub sum_done : (whole sum term rest left : ℕ) → Summing whole sum term rest left → left ≤ 0 → sum ≡ whole
  sum_done whole sum term rest left s p =
      let z : left ≡ 0 = omega arith in
      sym (xor_zero_r sum) ∙ ap (λ (k : ℕ). bit_xor sum (horner f k term rest)) (sym z) ∙ s.1
