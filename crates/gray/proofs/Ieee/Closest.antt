-- The whole number closest to a fraction that lies less than half above it, or below it. Assumes nothing.
use Prim.Native.Nat.{ℕ, zero, suc, ◌*◌, ◌≤◌, ◌<◌, ◌+◌, ◌-◌, ◌/◌, ◌%◌, compare, Ordering}
use native.Mathlib.Omega.{arith}
use native.Mathlib.Nat.{suc-mul}
use mathlib.Core.Path.{◌≡◌, refl, ap, ◌∙◌, subst, ap₂}
use mathlib.Core.Bool.{not}
use lib.Ieee.{nearest}
use lib.Dec.{T, is_le, compare_is_eq, eqb, leb→le, nleb→lt, eqb→eq, eqb_refl}
use lib.Arith.{lt_of_le-ne, digits_div, digits_mod}
use lib.Ieee.Nearest.{closest}

abbrev Cmp : Ordering → ℕ → ℕ → Type 0
Cmp Ordering.lt a b = a < b
Cmp Ordering.eq a b = a ≡ b
Cmp Ordering.gt a b = b < a

cmp : (a b : ℕ) → Cmp (compare a b) a b
cmp a b = go (compare a b) (leb→le a b) (nleb→lt a b) (eqb→eq a b) (λ (e : a ≡ b). subst (λ (x : ℕ). T (eqb a x)) e (eqb_refl a))
  where
    go : (o : Ordering) → (T (is_le o) → a ≤ b) → (T (not (is_le o)) → b < a) → (T (compare_is_eq o) → a ≡ b) → (a ≡ b → T (compare_is_eq o)) → Cmp o a b
    go Ordering.lt h k e n = lt_of_le-ne (h tt) n
    go Ordering.eq h k e n = e tt
    go Ordering.gt h k e n = k tt

under_half : (q a b : ℕ) → a < b → nearest q (compare a b) ≡ q
under_half q a b h = go (compare a b) (cmp a b)
  where
    go : (o : Ordering) → Cmp o a b → nearest q o ≡ q
    go Ordering.lt c = refl
    go Ordering.eq c = absurd (omega arith)
    go Ordering.gt c = absurd (omega arith)

over_half : (q a b : ℕ) → b < a → nearest q (compare a b) ≡ suc q
over_half q a b h = go (compare a b) (cmp a b)
  where
    go : (o : Ordering) → Cmp o a b → nearest q o ≡ suc q
    go Ordering.lt c = absurd (omega arith)
    go Ordering.eq c = absurd (omega arith)
    go Ordering.gt c = refl

halved : (r u : ℕ) → r * 2 < u → r < u
halved r u h = omega arith

pub closest_above : (Q u r W : ℕ) → W ≡ Q * u + r → r * 2 < u → closest W u ≡ Q
closest_above Q u r W e h =
    let d : W / u ≡ Q = ap (λ (z : ℕ). z / u) e ∙ digits_div Q (halved r u h) in
    let m : W % u ≡ r = ap (λ (z : ℕ). z % u) e ∙ digits_mod Q (halved r u h) in
    ap₂ (λ (a b : ℕ). nearest a (compare (b * 2) u)) d m ∙ under_half Q (r * 2) u h

pub closest_below : (Q u r W : ℕ) → W + r ≡ Q * u → 0 < r → r * 2 < u → closest W u ≡ Q
closest_below zero u r W e p h = absurd (none e p)
  where
    none : W + r ≡ 0 * u → 0 < r → ⊥
    none e p = omega arith
closest_below (suc Q) u r W e p h =
    let w : W ≡ Q * u + (u - r) = whole W r (Q * u) u (e ∙ suc-mul Q u) (halved r u h) in
    let l : u - r < u = shorter r u p h in
    let d : W / u ≡ Q = ap (λ (z : ℕ). z / u) w ∙ digits_div Q l in
    let m : W % u ≡ u - r = ap (λ (z : ℕ). z % u) w ∙ digits_mod Q l in
    ap₂ (λ (a b : ℕ). nearest a (compare (b * 2) u)) d m ∙ over_half Q ((u - r) * 2) u (over r u h)
  where
    whole : (a b c v : ℕ) → a + b ≡ c + v → b < v → a ≡ c + (v - b)
    whole a b c v e l = omega arith

    shorter : (b v : ℕ) → 0 < b → b * 2 < v → v - b < v
    shorter b v p l = omega arith

    over : (b v : ℕ) → b * 2 < v → v < (v - b) * 2
    over b v l = omega arith
