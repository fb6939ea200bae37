-- How often a number stands in a list: once, where it stands at one place and at no other. Assumes nothing.
use mathlib.Core.Path.{◌≡◌, refl, ap}
use mathlib.Core.Logic.{⊎_elim}
use mathlib.Core.Bool.{Bool, true, false}
use mathlib.Core.List.{List, [], ◌∷◌, ◌++◌}
use Prim.Native.Nat.{ℕ, zero, suc, ◌+◌, ◌≤◌, ◌<◌}
use native.Mathlib.Nat.{not-suc-le-zero, le_of_suc-le-suc, eq-or-lt_of_le}
use native.Mathlib.Omega.{arith}
use lib.Dec.{eqb}
use lib.ListN.{length, get_or}
use borrow.Author.Tests.{eq-eqb, ne_eqb, eqb-true}

abbrev pub one : Bool → ℕ
one true = 1
one false = 0

unfoldable pub count : ℕ → List ℕ → ℕ
count p [] = 0
count p (x ∷ l) = one (eqb x p) + count p l

pub count-append : (p : ℕ) (s t : List ℕ) → count p (s ++ t) ≡ count p s + count p t
unfolding count
count-append p [] t = omega arith
count-append p (x ∷ s) t = omega (arith, count-append p s t)

-- ---- where a number stands

pub stands : (p : ℕ) (l : List ℕ) (j : ℕ) → j < length l → get_or l j 0 ≡ p → 1 ≤ count p l
unfolding count
stands p [] j h e = absurd (not-suc-le-zero h)
stands p (x ∷ l) zero h e = omega (arith, ap one (eq-eqb x p e))
stands p (x ∷ l) (suc j) h e = omega (arith, stands p l j (le_of_suc-le-suc h) e)

pub stands-twice : (p : ℕ) (l : List ℕ) (i j : ℕ) → i < j → j < length l → get_or l i 0 ≡ p → get_or l j 0 ≡ p → 2 ≤ count p l
unfolding count
stands-twice p [] i j g h e f = absurd (not-suc-le-zero h)
stands-twice p (x ∷ l) i zero g h e f = absurd (not-suc-le-zero g)
stands-twice p (x ∷ l) zero (suc j) g h e f = omega (arith, ap one (eq-eqb x p e), stands p l j (le_of_suc-le-suc h) f)
stands-twice p (x ∷ l) (suc i) (suc j) g h e f = omega (arith, stands-twice p l i j (le_of_suc-le-suc g) (le_of_suc-le-suc h) e f)

-- a place of a list where p stands
pub record Found (p : ℕ) (l : List ℕ) : Type 0 where
  pub at : ℕ
  pub within : at < length l
  pub there : get_or l at 0 ≡ p

pub found : (p : ℕ) (l : List ℕ) → 1 ≤ count p l → Found p l
unfolding count
found p [] h = absurd (not-suc-le-zero h)
found p (x ∷ l) h = by (eqb x p) refl h (found p l)
  where
    by : (t : Bool) → eqb x p ≡ t → 1 ≤ one t + count p l → (1 ≤ count p l → Found p l) → Found p (x ∷ l)
    by true e g further = record { at = 0; within = omega arith; there = eqb-true x p e }
    by false e g further =
        let f = further (omega arith) in record { at = suc f.at; within = omega (arith, f.within); there = f.there }

-- ---- the numbers from i on

unfoldable pub rising : ℕ → ℕ → List ℕ
rising i zero = []
rising i (suc n) = i ∷ rising (suc i) n

pub rising-before : (p n i : ℕ) → p < i → count p (rising i n) ≡ 0
unfolding count rising
rising-before p zero i h = refl
rising-before p (suc n) i h = omega (arith, ap one (ne_eqb i p (λ e. omega arith)), rising-before p n (suc i) (omega arith))

pub rising-behind : (p n i : ℕ) → i + n ≤ p → count p (rising i n) ≡ 0
unfolding count rising
rising-behind p zero i h = refl
rising-behind p (suc n) i h = omega (arith, ap one (ne_eqb i p (λ e. omega arith)), rising-behind p n (suc i) (omega arith))

pub rising-once : (p n i : ℕ) → i ≤ p → p < i + n → count p (rising i n) ≡ 1
unfolding count rising
rising-once p zero i g h = absurd (omega arith)
rising-once p (suc n) i g h =
    ⊎_elim
    (λ e. omega (arith, ap one (eq-eqb i p e), rising-before p n (suc i) (omega arith)))
    (λ l. omega (arith, ap one (ne_eqb i p (λ e. omega arith)), rising-once p n (suc i) l (omega arith)))
    (eq-or-lt_of_le g)
