-- The changed places are the roots of the locator: one place or two are roots, roots are the changed places, and
-- where there is no root no two places are changed. Assumes nothing.
use mathlib.Core.Path.{◌≡◌, refl, sym, ap, ap₂, ◌∙◌, subst}
use mathlib.Core.List.{[], ◌∷◌}
use Prim.Native.Nat.{ℕ, ◌^◌, ◌<◌, ◌≤◌}
use native.Mathlib.Decide.{ℕ_discrete}
use native.Mathlib.Omega.{arith}
use lib.Bits.{bit_xor, xor_lt, xor_zero_r, xor_comm, xor_self}
use Rattle.ground.proofs.Xor.{xor-again}
use Rattle.bch.specs.Field.{mul, syndrome1, syndrome3}
use Rattle.bch.specs.Search.{column, added, Syndromes, NoPattern}
use Rattle.bch.proofs.Xor.{xor-front, xor_zero_eq}
use Rattle.bch.proofs.Point.{point, point-lt, point-apart, point-nonzero}
use Rattle.bch.proofs.Locator.{cube, locator, locator_cubes, locator-xor, locator_self, locator_zero_equal}
use Rattle.bch.proofs.Syndrome.{syndrome1-lt, syndrome1_zero, syndromes_tell_remainder}
use Rattle.bch.proofs.Pattern.{column-syndrome1, column-syndrome3, column-lt, single_syndrome1, single_syndrome3, pair-syndrome1, pair-syndrome3, added-lt}

pub syndromes_are : {s u v q t : ℕ} → s < 2 ^ 14 → u ≡ syndrome1 s → v ≡ syndrome3 s → (u ≡ 0 → ⊥) → q ≡ mul u u → t ≡ mul q u → Syndromes s u v (bit_xor v t)
syndromes_are {s} {u} {v} {q} {t} h e f z g k = record {
  small = h;
  element = subst (λ (x : ℕ). x < 2 ^ 7) (sym e) (syndrome1-lt s);
  first = e;
  third = f;
  nonzero = z;
  rest = ap (bit_xor v) (k ∙ ap (λ (x : ℕ). mul x u) g);
}

-- the same with c as it was worked out
pub syndromes_worked : {s u v c q t d : ℕ} → Syndromes s u v c → q ≡ mul u u → t ≡ mul q u → d ≡ bit_xor v t → Syndromes s u v d
syndromes_worked {s} {u} {v} {c} {q} {t} {d} g eq et ed =
    subst (λ (x : ℕ). Syndromes s u v x) (sym (ed ∙ ap (bit_xor v) (et ∙ ap (λ (x : ℕ). mul x u) eq) ∙ sym g.rest)) g

pub syndromes_of : (s : ℕ) → s < 2 ^ 14 → (syndrome1 s ≡ 0 → ⊥) → Syndromes s (syndrome1 s) (syndrome3 s) (bit_xor (syndrome3 s) (cube (syndrome1 s)))
syndromes_of s h z = syndromes_are h refl refl z refl refl

module _ {s u v c : ℕ} (g : Syndromes s u v c) where
  -- one changed place: c is zero, and the place is a root
  pub single_root : (i : ℕ) → added (i ∷ []) ≡ s → (c ≡ 0) × (locator u (point i) ≡ c)
  single_root i f =
      let x : point i ≡ u = single_syndrome1 i s f ∙ sym g.first in
      let w : cube u ≡ v = ap cube (sym x) ∙ single_syndrome3 i s f ∙ sym g.third in
      let z : c ≡ 0 = g.rest ∙ ap (bit_xor v) w ∙ xor_self v in
      (z, ap (locator u) x ∙ locator_self u g.element ∙ sym z)

  sum_is_root : (x y : ℕ) → x < 2 ^ 7 → bit_xor x y ≡ u → bit_xor (cube x) (cube y) ≡ v → locator u x ≡ c
  sum_is_root x y hx e f =
      locator_cubes x u hx g.element
      ∙ ap (λ (t : ℕ). bit_xor (bit_xor (cube x) (cube t)) (cube u)) (ap (bit_xor x) (sym e) ∙ xor-front x y)
      ∙ ap (λ (t : ℕ). bit_xor t (cube u)) f ∙ sym g.rest

  -- two changed places are roots
  pub pair_roots : (i j : ℕ) → added (i ∷ j ∷ []) ≡ s → (locator u (point i) ≡ c) × (locator u (point j) ≡ c)
  pair_roots i j f =
      let p : bit_xor (point i) (point j) ≡ u = pair-syndrome1 i j s f ∙ sym g.first in
      let q : bit_xor (cube (point i)) (cube (point j)) ≡ v = pair-syndrome3 i j s f ∙ sym g.third in (
        sum_is_root (point i) (point j) (point-lt i) p q,
        sum_is_root (point j) (point i) (point-lt j) (xor_comm (point j) (point i) ∙ p) (xor_comm (cube (point j)) (cube (point i)) ∙ q),
      )

  -- where c is zero, a root is u
  pub only-root : (j : ℕ) → locator u (point j) ≡ c → c ≡ 0 → point j ≡ u
  only-root j e z = locator_zero_equal u (point j) g.element (point-lt j) g.nonzero (point-nonzero j) (e ∙ z)

  -- two different roots add up to u
  pub roots_sum : (i j : ℕ) → i < j → j < 67 → locator u (point i) ≡ c → locator u (point j) ≡ c → bit_xor (point i) (point j) ≡ u
  roots_sum i j l h e f =
      locator_zero_equal u (bit_xor (point i) (point j)) g.element (xor_lt 7 (point i) (point j) (point-lt i) (point-lt j)) g.nonzero
      (λ z. point-apart i j l h (xor_zero_eq (point i) (point j) z))
      (locator-xor u (point i) (point j) (point-lt i) (point-lt j) ∙ ap₂ bit_xor e f ∙ xor_self c)

  -- ---- the search's answers

  pub one-root-added : (j : ℕ) → locator u (point j) ≡ c → c ≡ 0 → added (j ∷ []) ≡ s
  one-root-added j e z =
      let d : point j ≡ u = only-root j e z in
      xor_zero_r (column j)
      ∙ syndromes_tell_remainder (column j) s (column-lt j) g.small (column-syndrome1 j ∙ d ∙ g.first)
      (column-syndrome3 j ∙ ap cube d ∙ sym (xor_zero_eq v (cube u) (sym g.rest ∙ z)) ∙ g.third)

  pub two_roots_added : (i j : ℕ) → i < j → j < 67 → locator u (point i) ≡ c → locator u (point j) ≡ c → added (i ∷ j ∷ []) ≡ s
  two_roots_added i j l h e f =
      let x : ℕ = point i in
      let y : ℕ = point j in
      let d : bit_xor x y ≡ u = roots_sum i j l h e f in
      let o : bit_xor x u ≡ y = ap (bit_xor x) (sym d) ∙ xor-front x y in
      let w : bit_xor (cube x) (cube y) ≡ v =
      sym (xor-again (bit_xor (cube x) (cube y)) (cube u))
      ∙ ap (λ (t : ℕ). bit_xor t (cube u)) (ap (λ (t : ℕ). bit_xor (bit_xor (cube x) (cube t)) (cube u)) (sym o) ∙ sym (locator_cubes x u (point-lt i) g.element) ∙ e ∙ g.rest)
      ∙ xor-again v (cube u) in
      syndromes_tell_remainder (added (i ∷ j ∷ [])) s (added-lt (i ∷ j ∷ [])) g.small
      (sym (pair-syndrome1 i j (added (i ∷ j ∷ [])) refl) ∙ d ∙ g.first) (sym (pair-syndrome3 i j (added (i ∷ j ∷ [])) refl) ∙ w ∙ g.third)

  -- no root but at the place l, and there only where c is not zero
  pub no-pattern : (l : ℕ) → (l < 67 → c ≡ 0 → ⊥) → ((j : ℕ) → 0 ≤ j → j < 67 → (j ≡ l → ⊥) → locator u (point j) ≡ c → ⊥)
      → NoPattern s
  no-pattern l hl hn [] hi hm f = g.nonzero (g.first ∙ ap syndrome1 (sym f) ∙ syndrome1_zero)
  no-pattern l hl hn (i ∷ []) hi hm f = by (ℕ_discrete i l)
    where
      by : Dec (i ≡ l) → ⊥
      by (yes e) = hl (subst (λ (k : ℕ). k < 67) e hi.1) (single_root i f).0
      by (no d) = hn i (omega arith) hi.1 d (single_root i f).1
  no-pattern l hl hn (i ∷ j ∷ []) hi hm f = by (ℕ_discrete i l)
    where
      by : Dec (i ≡ l) → ⊥
      by (yes e) = hn j (omega arith) hi.2.1 (λ z. absurd (omega arith)) (pair_roots i j f).1
      by (no d) = hn i (omega arith) hi.1 d (pair_roots i j f).0
  no-pattern l hl hn (i ∷ j ∷ k ∷ ps) hi hm f = absurd (omega arith)
