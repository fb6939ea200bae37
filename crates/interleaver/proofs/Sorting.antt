-- A list sorted by the bits of its numbers, from the lowest on: each number stands in it as often as before. A list that is sorted to 0, 1, .., n - 1 has
-- each of these once, and nothing else. Assumes nothing.
use mathlib.Core.Path.{◌≡◌, refl, sym, ap, ◌∙◌}
use mathlib.Core.Bool.{Bool, true, false, cond}
use mathlib.Core.List.{List, [], ◌∷◌, ◌++◌}
use Prim.Native.Nat.{ℕ, zero, suc, ◌+◌, ◌<◌}
use native.Mathlib.Omega.{arith}
use lib.Dec.{eqb, ltb}
use lib.ListN.{length, get_or}
use borrow.Author.Tests.{ltb-true, ltb-false}
use Rattle.interleaver.specs.Permutation.{bit}
use Rattle.interleaver.proofs.Count.{one, count, count-append, stands, stands-twice, Found, found, rising, rising-behind, rising-once}

-- the numbers of a list whose bit k is b
unfoldable pub having : ℕ → ℕ → List ℕ → List ℕ
having b k [] = []
having b k (x ∷ l) = cond (eqb (bit k x) b) (x ∷ having b k l) (having b k l)

-- those with a 0 before those with a 1
unfoldable pub parted : ℕ → List ℕ → List ℕ
parted k l = having 0 k l ++ having 1 k l

-- sorted by the n lowest bits
unfoldable pub sorted : ℕ → List ℕ → List ℕ
sorted zero l = l
sorted (suc n) l = parted n (sorted n l)

-- ---- each number stands as often as before

-- a bit is 0 or 1
bit-either : (k x : ℕ) → one (eqb (bit k x) 0) + one (eqb (bit k x) 1) ≡ 1
bit-either k x = by (bit k x) (omega arith)
  where
    by : (b : ℕ) → b < 2 → one (eqb b 0) + one (eqb b 1) ≡ 1
    by zero h = refl
    by (suc zero) h = refl
    by (suc (suc b)) h = absurd (omega arith)

having-count : (p k : ℕ) (l : List ℕ) → count p (having 0 k l) + count p (having 1 k l) ≡ count p l
unfolding having count
having-count p k [] = refl
having-count p k (x ∷ l) = by (eqb (bit k x) 0) (eqb (bit k x) 1) (bit-either k x) (having-count p k l)
  where
    by : (s t : Bool) → one s + one t ≡ 1 → count p (having 0 k l) + count p (having 1 k l) ≡ count p l
        → count p (cond s (x ∷ having 0 k l) (having 0 k l)) + count p (cond t (x ∷ having 1 k l) (having 1 k l)) ≡ one (eqb x p) + count p l
    by true true e i = absurd (omega arith)
    by true false e i = omega arith
    by false true e i = omega arith
    by false false e i = absurd (omega arith)

pub sorted-count : (p n : ℕ) (l : List ℕ) → count p (sorted n l) ≡ count p l
unfolding sorted parted
sorted-count p zero l = refl
sorted-count p (suc n) l =
    count-append p (having 0 n (sorted n l)) (having 1 n (sorted n l)) ∙ having-count p n (sorted n l) ∙ sorted-count p n l

-- ---- a list that is sorted to 0, 1, .., n - 1

module _ (k n : ℕ) (h : List ℕ) (sorts : sorted k h ≡ rising 0 n) where
  counted_as : (p : ℕ) → count p h ≡ count p (rising 0 n)
  counted_as p = sym (sorted-count p k h) ∙ ap (count p) sorts

  pub below-places : (q : ℕ) → q < length h → get_or h q 0 < n
  below-places q l = by (ltb (get_or h q 0) n) refl
    where
      by : (t : Bool) → ltb (get_or h q 0) n ≡ t → get_or h q 0 < n
      by true e = ltb-true (get_or h q 0) n e
      by false e =
          absurd (omega (
            arith,
            stands (get_or h q 0) h q l refl,
            counted_as (get_or h q 0),
            rising-behind (get_or h q 0) n 0 (omega (arith, ltb-false (get_or h q 0) n e)),
          ))

  pub place_found : (p : ℕ) → p < n → Found p h
  place_found p l = found p h (omega (arith, counted_as p, rising-once p n 0 (omega arith) (omega arith)))

  pub places-apart : (i j : ℕ) → i < j → j < length h → get_or h i 0 ≡ get_or h j 0 → ⊥
  places-apart i j i< j< e =
      let p = get_or h j 0 in
      omega (
        arith,
        stands-twice p h i j i< j< e refl,
        counted_as p,
        rising-once p n 0 (omega arith) (omega (arith, below-places j j<)),
      )
