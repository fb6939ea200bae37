-- A larger bit pattern of a binary32 that is not negative stands for no smaller number, and which patterns are finite.
-- Assumes nothing.
use Prim.Native.Nat.{ℕ, suc, ◌*◌, ◌^◌, ◌≤◌, ◌<◌, ◌+◌, ◌-◌, ◌/◌, ◌%◌}
use native.Mathlib.Omega.{arith}
use native.Mathlib.Nat.{le_trans, le_of_eq, lt_of_le_of_lt, mul_assoc, mul-le-mul_right, mul-le-mul_left, le_of_lt, eq-or-lt_of_le, pow-succ'}
use mathlib.Core.Path.{◌≡◌, sym, ap, ◌∙◌, subst}
use mathlib.Core.Bool.{true, Bool, false, cond}
use mathlib.Core.Logic.{⊎_elim, inl, inr}
use lib.Ieee.{Float, binary32, nan, inf, of_bits, of_fields}
use lib.Dec.{T, eqb, leb→le, leb}
use lib.Ieee.Scale.{finite}
use lib.Pow.{pow_mono}
use Rattle.gray.specs.Scales.{units}
use Rattle.gray.proofs.Ieee.Patterns.{high-units, of_bits_is, units-high, units-low}
use Rattle.gray.proofs.Tests.{lt_or_ge}

high_mono : (b c : ℕ) → 8388608 ≤ b → b ≤ c → high-units b ≤ high-units c
high_mono b c h k =
    elim (eq-or-lt_of_le (fields_le b c k)) [
      | inl e ↦ subst (λ (x : ℕ). high-units b ≤ (8388608 + c % 8388608) * 2 ^ (x - 1)) e (mul-le-mul_right (2 ^ (b / 8388608 - 1)) (digits_le b c k e))
      | inr l ↦
          le_trans (mul-le-mul_right (2 ^ (b / 8388608 - 1)) (twice b))
          (le_trans (le_of_eq (mul_assoc 8388608 2 (2 ^ (b / 8388608 - 1)) ∙ ap (λ (x : ℕ). 8388608 * x) (sym (pow-succ' 2 (b / 8388608 - 1)))))
          (le_trans (mul-le-mul_left 8388608 (pow_mono (next (b / 8388608) (c / 8388608) (first b h) l))) (mul-le-mul_right (2 ^ (c / 8388608 - 1)) (once c))))
    ]
  where
    fields_le : (b c : ℕ) → b ≤ c → b / 8388608 ≤ c / 8388608
    fields_le b c h = omega arith

    digits_le : (b c : ℕ) → b ≤ c → b / 8388608 ≡ c / 8388608 → 8388608 + b % 8388608 ≤ 8388608 + c % 8388608
    digits_le b c h e = omega arith

    twice : (b : ℕ) → 8388608 + b % 8388608 ≤ 8388608 * 2
    twice b = omega arith

    once : (c : ℕ) → 8388608 ≤ 8388608 + c % 8388608
    once c = omega arith

    next : (x y : ℕ) → 1 ≤ x → x < y → suc (x - 1) ≤ y - 1
    next x y h k = omega arith

    first : (b : ℕ) → 8388608 ≤ b → 1 ≤ b / 8388608
    first b h = omega arith

pub units_mono : (b c : ℕ) → b ≤ c → units b ≤ units c
units_mono b c h =
    ⊎_elim
    (λ cl. subst (λ (n : ℕ). n ≤ units c) (sym (units-low b (lt_of_le_of_lt h cl))) (subst (λ (n : ℕ). b ≤ n) (sym (units-low c cl)) h))
    (λ ch. ⊎_elim
    (λ bl. subst (λ (n : ℕ). n ≤ units c) (sym (units-low b bl)) (subst (λ (n : ℕ). b ≤ n) (sym (units-high c ch)) (le_trans (le_of_lt bl) (high_mono 8388608 c (leb→le 8388608 8388608 tt) ch))))
    (λ bh. subst (λ (n : ℕ). n ≤ units c) (sym (units-high b bh)) (subst (λ (n : ℕ). high-units b ≤ n) (sym (units-high c ch)) (high_mono b c bh h)))
    (lt_or_ge b 8388608))
    (lt_or_ge c 8388608)

-- ---- a pattern whose exponent's field is all ones is not finite
ones_not_finite : (s : Bool) (t : ℕ) → T (finite (of_fields binary32 s 255 t)) → ⊥
unfolding of_fields
ones_not_finite s t = go (eqb t 0)
  where
    go : (u : Bool) → T (finite (cond u (inf s) nan)) → ⊥
    go true h = h
    go false h = h

pub finite_field : (b : ℕ) → T (finite (of_bits binary32 b)) → b % 0x8000_0000 < 0x7F80_0000
finite_field b h = ⊎_elim (λ l. l) (λ g. absurd (all_ones g)) (lt_or_ge (b % 2147483648) 2139095040)
  where
    field : (n : ℕ) → 2139095040 ≤ n % 2147483648 → n % 2147483648 / 8388608 ≡ 255
    field n g = omega arith

    all_ones : 2139095040 ≤ b % 2147483648 → ⊥
    all_ones g =
        ones_not_finite (leb 2147483648 b) (b % 8388608)
        (subst (λ (x : Float). T (finite x)) (of_bits_is b ∙ ap (λ (x : ℕ). of_fields binary32 (leb 2147483648 b) x (b % 8388608)) (field b g)) h)
