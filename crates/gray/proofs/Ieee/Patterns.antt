-- The bit patterns of the finite values of binary32: what number each stands for. Assumes nothing.
use Prim.Native.Nat.{ℕ, suc, ◌*◌, ◌^◌, ◌≤◌, ◌<◌, ◌+◌, ◌-◌, ◌/◌, ◌%◌}
use native.Mathlib.Omega.{arith}
use native.Mathlib.Nat.{mul-one}
use mathlib.Core.Path.{◌≡◌, refl, sym, ap, ◌∙◌, subst, ap₂}
use mathlib.Core.Bool.{true, Bool, false, cond}
use mathlib.Core.Logic.{⊎_elim}
use lib.Ieee.{Float, binary32, nan, inf, odd, of_bits, of_fields}
use lib.Dec.{T, eqb, eqb→eq, not_T, leb}
use lib.Ieee.Bits.{cond_no}
use lib.Ieee.Exact.{HasValue, odd_sign}
use borrow.Author.Tests.{lt-leb, le-leb, le-ltb, lt-ltb}
use Rattle.gray.specs.Scales.{units}
use Rattle.gray.proofs.Tests.{lt_or_ge}

-- ---- the fields of a pattern
pub of_bits_is : (b : ℕ) → of_bits binary32 b ≡ of_fields binary32 (leb 2147483648 b) (b % 2147483648 / 8388608) (b % 8388608)
unfolding of_bits
of_bits_is b = refl

fields_low : (s : Bool) (t : ℕ) → of_fields binary32 s 0 t ≡ odd 24 s t 0 149
unfolding of_fields
fields_low s t = refl

fields_high : (s : Bool) (t x : ℕ) → suc x < 255 → of_fields binary32 s (suc x) t ≡ odd 24 s (8388608 + t) x 149
unfolding of_fields
fields_high s t x h =
    cond_no (eqb (suc x) 255) (cond (eqb t 0) (inf s) nan) (odd 24 s (8388608 + t) x 149) (not_T (eqb (suc x) 255) (λ (u : T (eqb (suc x) 255)). differ (eqb→eq (suc x) 255 u)))
  where
    differ : suc x ≡ 255 → ⊥
    differ e = omega arith

-- ---- the number that a pattern stands for
abbrev pub high-units : ℕ → ℕ
high-units b = (8388608 + b % 8388608) * 2 ^ (b / 8388608 - 1)

pub units-low : (b : ℕ) → b < 8388608 → units b ≡ b
units-low b h = ap (λ (t : Bool). cond t b (high-units b)) (lt-ltb b 8388608 h)

pub units-high : (b : ℕ) → 8388608 ≤ b → units b ≡ high-units b
units-high b h = ap (λ (t : Bool). cond t b (high-units b)) (le-ltb b 8388608 h)

module _ (s : Bool) where
  low_value : (b : ℕ) → b < 8388608 → HasValue (of_fields binary32 s (b / 8388608) (b % 8388608)) s (units b) (2 ^ 149)
  low_value b h =
      subst (λ (n : ℕ). HasValue (of_fields binary32 s (b / 8388608) (b % 8388608)) s n (2 ^ 149)) (mul-one b ∙ sym (units-low b h))
      (subst (λ (x : Float). HasValue x s (b * 2 ^ 0) (2 ^ 149)) (sym (ap₂ (of_fields binary32 s) (none b h) (all b h) ∙ fields_low s b)) (odd_sign 24 s b 0 149))
    where
      none : (n : ℕ) → n < 8388608 → n / 8388608 ≡ 0
      none n k = omega arith

      all : (n : ℕ) → n < 8388608 → n % 8388608 ≡ n
      all n k = omega arith

  high_value : (b : ℕ) → 8388608 ≤ b → b < 0x7F80_0000 → HasValue (of_fields binary32 s (b / 8388608) (b % 8388608)) s (units b) (2 ^ 149)
  high_value b h k =
      subst (λ (n : ℕ). HasValue (of_fields binary32 s (b / 8388608) (b % 8388608)) s n (2 ^ 149)) (sym (units-high b h))
      (subst (λ (x : Float). HasValue x s (high-units b) (2 ^ 149))
      (sym (ap (λ (x : ℕ). of_fields binary32 s x (b % 8388608)) (sym (field b h)) ∙ fields_high s (b % 8388608) (b / 8388608 - 1) (field_lt b h k)))
      (odd_sign 24 s (8388608 + b % 8388608) (b / 8388608 - 1) 149))
    where
      field : (n : ℕ) → 8388608 ≤ n → suc (n / 8388608 - 1) ≡ n / 8388608
      field n h = omega arith

      field_lt : (n : ℕ) → 8388608 ≤ n → n < 2139095040 → suc (n / 8388608 - 1) < 255
      field_lt n h k = omega arith

  fields_value : (b : ℕ) → b < 0x7F80_0000 → HasValue (of_fields binary32 s (b / 8388608) (b % 8388608)) s (units b) (2 ^ 149)
  fields_value b k = ⊎_elim (λ l. low_value b l) (λ g. high_value b g k) (lt_or_ge b 8388608)

-- the float of a pattern with a clear sign, and of one with the sign set
pub units_is : (b : ℕ) → b < 0x7F80_0000 → HasValue (of_bits binary32 b) false (units b) (2 ^ 149)
units_is b h =
    subst (λ (x : Float). HasValue x false (units b) (2 ^ 149))
    (sym (of_bits_is b ∙ ap₂ (λ (s : Bool) (x : ℕ). of_fields binary32 s x (b % 8388608)) (lt-leb 2147483648 b (small b h)) (same b h))) (fields_value false b h)
  where
    small : (n : ℕ) → n < 2139095040 → n < 2147483648
    small n k = omega arith

    same : (n : ℕ) → n < 2139095040 → n % 2147483648 / 8388608 ≡ n / 8388608
    same n k = omega arith

pub units_is_negative : (b : ℕ) → b < 0x7F80_0000 → HasValue (of_bits binary32 (0x8000_0000 + b)) true (units b) (2 ^ 149)
units_is_negative b h =
    subst (λ (x : Float). HasValue x true (units b) (2 ^ 149))
    (sym (of_bits_is (2147483648 + b) ∙ ap₂ (λ (s : Bool) (x : ℕ). of_fields binary32 s x ((2147483648 + b) % 8388608)) (le-leb 2147483648 (2147483648 + b) (more b)) (same b h) ∙ ap (of_fields binary32 true (b / 8388608)) (rest b)))
    (fields_value true b h)
  where
    more : (n : ℕ) → 2147483648 ≤ 2147483648 + n
    more n = omega arith

    same : (n : ℕ) → n < 2139095040 → (2147483648 + n) % 2147483648 / 8388608 ≡ n / 8388608
    same n k = omega arith

    rest : (n : ℕ) → (2147483648 + n) % 8388608 ≡ n % 8388608
    rest n = omega arith
