-- The three scales are the f32 nearest to 1/√2, 1/√10 and 1/√42: numbers grow with their patterns, so two neighbours
-- decide. Assumes nothing.
use Prim.Native.Nat.{ℕ, suc, ◌*◌, ◌^◌, ◌≤◌, ◌<◌, ◌+◌, ◌-◌, ◌%◌}
use native.Mathlib.Omega.{arith}
use native.Mathlib.Nat.{le_trans, lt_of_lt_of_le, lt_of_le_of_lt, mul-le-mul_right, mul-le-mul_left, eq-or-lt_of_le, le_refl, add-le-add, sub-le}
use mathlib.Core.Path.{◌≡◌, refl, sym, ap, ◌∙◌, subst}
use mathlib.Core.Bool.{true, Bool, false, cond}
use mathlib.Core.List.{List, [], ◌∷◌}
use mathlib.Core.Logic.{⊎_elim}
use lib.IntN.{ℤ, pos, negsuc}
use lib.ListN.{length}
use lib.Ieee.{Float, binary32, of_bits, fits, to_bits}
use lib.Dec.{T, ltb, ltb→lt, leb}
use lib.Ieee.Scale.{finite}
use lib.Ieee.Bits.{of_bits-to_bits, to_bits-lt}
use lib.Ieee.Exact.{HasValue}
use borrow.Author.Tests.{ltb-false, leb-true, leb-false, ltb-true}
use Rattle.ground.specs.declared.ConstellationOrder.{ConstellationOrder}
use Rattle.ground.specs.declared.ConstellationOrder.TheVariants.{Qpsk, Qam16, Qam64}
use Rattle.gray.specs.Levels.{levels, pattern}
use Rattle.gray.specs.Scales.{units, energy, Below, Above, Nearer, Nearest}
use Rattle.gray.proofs.Ieee.PatternOrder.{finite_field, units_mono}
use Rattle.gray.proofs.Ieee.Patterns.{units_is, units_is_negative}

square_mono : (a b N : ℕ) → a ≤ b → a * a * N ≤ b * b * N
square_mono a b N h = mul-le-mul_right N (le_trans (mul-le-mul_right a h) (mul-le-mul_left b h))

-- it is enough to look at the two neighbours, and at zero
module _ (N b : ℕ) (p : Below N (units b + units (b - 1))) (q : Above N (units b + units (b + 1))) (z : Below N (units b)) where
  than_smaller : (c : ℕ) → c < b → Below N (units b + units c)
  than_smaller c l = lt_of_le_of_lt (square_mono (units b + units c) (units b + units (b - 1)) N (add-le-add (le_refl (units b)) (units_mono c (b - 1) (before l)))) p
    where
      before : c < b → c ≤ b - 1
      before l = omega arith

  than_larger : (c : ℕ) → b < c → Above N (units b + units c)
  than_larger c l = lt_of_lt_of_le q (square_mono (units b + units (b + 1)) (units b + units c) N (add-le-add (le_refl (units b)) (units_mono (b + 1) c (after l))))
    where
      after : b < c → b + 1 ≤ c
      after l = omega arith

  than_negative : (n : ℕ) → Below N (units b - n)
  than_negative n = lt_of_le_of_lt (square_mono (units b - n) (units b) N (sub-le (units b) n)) z

  nearer : (c : ℕ) → (c ≡ b → ⊥) → Nearer N b c
  nearer c ne = go (leb 0x8000_0000 c) (ltb c b) refl refl
    where
      larger : ltb c b ≡ false → b < c
      larger e = ⊎_elim (λ s. absurd (ne (sym s))) (λ l. l) (eq-or-lt_of_le (ltb-false c b e))

      go : (s t : Bool) → leb 0x8000_0000 c ≡ s → ltb c b ≡ t
          → cond s (Below N (units b - units (c - 0x8000_0000))) (cond t (Below N (units b + units c)) (Above N (units b + units c)))
      go true t e f = than_negative (units (c - 0x8000_0000))
      go false true e f = than_smaller c (ltb-true c b f)
      go false false e f = than_larger c (larger f)

  from-neighbours : Nearest N b
  from-neighbours y f g ne = nearer (to_bits binary32 y) (λ e. ne (sym (of_bits-to_bits binary32 y f) ∙ ap (of_bits binary32) e))

-- ---- the energy is the mean of the points before scaling
abbrev pub square_of : ℤ → ℕ
square_of (pos n) = n * n
square_of (negsuc n) = suc n * suc n

abbrev pub total : List ℤ → ℕ
total [] = 0
total (l ∷ ls) = square_of l + total ls

-- each axis gives the mean square of its levels
pub energy_is_mean : (o : ConstellationOrder) → energy o * length (levels o) ≡ 2 * total (levels o)
energy_is_mean Qpsk = refl
energy_is_mean Qam16 = refl
energy_is_mean Qam64 = refl

-- each scale is of all finite f32 the one nearest to 1/√energy
pub scale_is_nearest : (o : ConstellationOrder) → Nearest (energy o) (pattern o)
scale_is_nearest Qpsk = from-neighbours (energy Qpsk) (pattern Qpsk) (ltb→lt _ _ tt) (ltb→lt _ _ tt) (ltb→lt _ _ tt)
scale_is_nearest Qam16 = from-neighbours (energy Qam16) (pattern Qam16) (ltb→lt _ _ tt) (ltb→lt _ _ tt) (ltb→lt _ _ tt)
scale_is_nearest Qam64 = from-neighbours (energy Qam64) (pattern Qam64) (ltb→lt _ _ tt) (ltb→lt _ _ tt) (ltb→lt _ _ tt)

-- ---- what `Nearer` reads of a finite f32 is its number: the pattern's own, or that with the sign taken off
pub finite_has_units : (y : Float) → T (fits binary32 y) → T (finite y) → (s : Bool) → leb 0x8000_0000 (to_bits binary32 y) ≡ s
    → HasValue y s (units (cond s (to_bits binary32 y - 0x8000_0000) (to_bits binary32 y))) (2 ^ 149)
finite_has_units y f g s e = subst (λ (x : Float). HasValue x s (units (cond s (c - 0x8000_0000) c)) (2 ^ 149)) (of_bits-to_bits binary32 y f) (go s e)
  where
    c : ℕ
    c = to_bits binary32 y

    small : c % 2147483648 < 2139095040
    small = finite_field c (subst (λ (x : Float). T (finite x)) (sym (of_bits-to_bits binary32 y f)) g)

    all : c < 2147483648 → c % 2147483648 < 2139095040 → c < 2139095040
    all h k = omega arith

    off : 2147483648 ≤ c → c < 4294967296 → c % 2147483648 < 2139095040 → c - 2147483648 < 2139095040
    off h l k = omega arith

    back : 2147483648 ≤ c → 2147483648 + (c - 2147483648) ≡ c
    back h = omega arith

    go : (s : Bool) → leb 0x8000_0000 c ≡ s → HasValue (of_bits binary32 c) s (units (cond s (c - 0x8000_0000) c)) (2 ^ 149)
    go false e = units_is c (all (leb-false 2147483648 c e) small)
    go true e =
        let h : 2147483648 ≤ c = leb-true 2147483648 c e in
        subst (λ (n : ℕ). HasValue (of_bits binary32 n) true (units (c - 0x8000_0000)) (2 ^ 149)) (back h)
        (units_is_negative (c - 0x8000_0000) (off h (to_bits-lt binary32 y f) small))
