-- The first index with the least distance: the first index is its own, one more index takes its place or leaves it, and
-- on the whole axis there is one for every coordinate. Assumes nothing.
use Prim.Native.Nat.{ℕ, zero, suc, ◌<◌, ◌+◌, ◌-◌}
use native.Mathlib.Numerals.{add-one}
use native.Mathlib.Omega.{arith}
use mathlib.Core.Path.{◌≡◌, refl, sym, subst, ap₂, ◌∙◌}
use mathlib.Core.Bool.{true, Bool, false, not, cond}
use mathlib.Core.List.{List}
use lib.ListN.{length}
use lib.Ieee.{Float, lt, is_nan}
use lib.Dec.{T}
use borrow.Author.Count.{below_more}
use Rattle.ground.specs.declared.ConstellationOrder.{ConstellationOrder}
use Rattle.gray.specs.Levels.{levels}
use Rattle.gray.specs.Inner.{distance_at, FirstBelow}
use Rattle.gray.specs.Hard.{distances, First, entry}
use Rattle.gray.proofs.Distances.{distance-kind, distances-entry, distances-length}
use Rattle.gray.proofs.Ieee.Magnitudes.{float_lt_irrefl, kind_lt_asymm, kind_lt_of_lt_of_le}
use Rattle.gray.proofs.Levels.{some-levels}

module _ (o : ConstellationOrder) (x : Float) where
  pub first-alone : FirstBelow o x 1 0
  first-alone =
      record {
        upto = omega arith;
        least = λ j h. let e : 0 ≡ j = omega arith in subst (λ (k : ℕ). T (not (lt (distance_at o x k) (distance_at o x 0)))) e (float_lt_irrefl (distance_at o x 0));
        first = λ j h. absurd (omega arith);
      }

  module _ (n i : ℕ) (f : FirstBelow o x n i) where
    -- the next index lies nearer
    pub first_taken : lt (distance_at o x n) (distance_at o x i) ≡ true → FirstBelow o x (n + 1) n
    first_taken e =
        record {
          upto = omega arith;
          least =
              below_more _ _
              (λ j h. kind_lt_asymm (not (is_nan x)) _ _ (distance-kind o x n) (distance-kind o x j) (less j h))
              (float_lt_irrefl (distance_at o x n));
          first = less;
        }
      where
        less : (j : ℕ) → j < n → T (lt (distance_at o x n) (distance_at o x j))
        less j h =
            kind_lt_of_lt_of_le (not (is_nan x)) _ _ _ (distance-kind o x n) (distance-kind o x i) (distance-kind o x j)
            (subst T (sym e) tt) (f.least j h)

    -- or it doesn't
    pub first_left : lt (distance_at o x n) (distance_at o x i) ≡ false → FirstBelow o x (n + 1) i
    first_left e =
        record {
          upto = omega (arith, f.upto);
          least = below_more _ _ f.least (subst (λ (t : Bool). T (not t)) (sym e) tt);
          first = f.first;
        }

-- on the whole axis
pub first-of-all : (o : ConstellationOrder) (x : Float) (n i : ℕ) → length (levels o) ≡ n → FirstBelow o x n i → First (distances o x) i
first-of-all o x n i e f =
    let inside : (j : ℕ) → j < n → j < length (levels o) = λ j h. subst (λ (k : ℕ). j < k) (sym e) h in
    let size : length (distances o x) ≡ n = distances-length o x ∙ e in
    let is : (j : ℕ) → j < n → entry (distances o x) j ≡ distance_at o x j = λ j h. distances-entry o x j (inside j h) in
    let here = is i f.upto in
    record {
      there = subst (λ (k : ℕ). i < k) (sym size) f.upto;
      least = λ j h. let h' : j < n = subst (λ (k : ℕ). j < k) size h in subst (λ (t : Bool). T (not t)) (sym (ap₂ lt (is j h') here)) (f.least j h');
      first = λ j h. subst T (sym (ap₂ lt here (is j (omega (arith, f.upto))))) (f.first j h);
    }

-- for every coordinate some index is the first
pub record SomeFirst (ds : List Float) : Type 0 where
  pub i : ℕ
  pub i_first : First ds i

module _ (o : ConstellationOrder) (x : Float) where
  first-next : (n i : ℕ) → FirstBelow o x n i → (t : Bool) → lt (distance_at o x n) (distance_at o x i) ≡ t → FirstBelow o x (n + 1) (cond t n i)
  first-next n i f true e = first_taken o x n i f e
  first-next n i f false e = first_left o x n i f e

  best : ℕ → ℕ
  best zero = 0
  best (suc n) = cond (lt (distance_at o x (suc n)) (distance_at o x (best n))) (suc n) (best n)

  best-first : (n : ℕ) → FirstBelow o x (suc n) (best n)
  unfolding best
  best-first zero = first-alone o x
  best-first (suc n) =
      subst (λ (k : ℕ). FirstBelow o x k (best (suc n))) (add-one (suc n))
      (first-next (suc n) (best n) (best-first n) (lt (distance_at o x (suc n)) (distance_at o x (best n))) refl)

pub first_exists : (o : ConstellationOrder) (x : Float) → SomeFirst (distances o x)
first_exists o x =
    let n = length (levels o) - 1 in
    record { i = best o x n; i_first = first-of-all o x (suc n) (best o x n) (some-levels o) (best-first o x n) }
