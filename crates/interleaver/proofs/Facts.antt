-- What the laws of the interleaver ask of a mode, what follows for every mode that has it, and that the 2K mode has it: computed once, each test in walks
-- along a list. Assumes nothing.
use mathlib.Core.Path.{◌≡◌, refl, sym, ap, subst, ◌∙◌}
use mathlib.Core.Bool.{Bool, true, false}
use mathlib.Core.List.{List, [], ◌∷◌}
use Prim.Native.Nat.{ℕ, suc, ◌<◌}
use native.Mathlib.Nat.{le_antisymm}
use native.Mathlib.Omega.{arith}
use lib.Dec.{ltb}
use lib.ListN.{length, get_or, take}
use borrow.Author.Tests.{ltb-true, ltb-false}
use Rattle.interleaver.specs.Permutation.{Interleaver, interleaver2k, tapped, wired, step, address, permutation, place, Once}
use Rattle.interleaver.specs.Inner.{Apart}
use Rattle.interleaver.proofs.Walk.{next, walk, walked, walked_is_permutation}
use Rattle.interleaver.proofs.Count.{Found, rising}
use Rattle.interleaver.proofs.Sorting.{having, parted, sorted, below-places, place_found, places-apart}

pub record Facts (m : Interleaver) : Type 0 where
  -- the permutation has as many numbers as there are places
  pub many : length (permutation m) ≡ m.places
  -- sorted by all bits of an address they are 0, 1, .., one less than the places
  pub sorts : sorted (suc m.bits) (permutation m) ≡ rising 0 m.places

-- ---- what follows

module _ (m : Interleaver) (f : Facts m) where
  pub permutes : Apart (permutation m)
  permutes =
      record {
        below = λ q l. omega (arith, below-places (suc m.bits) m.places (permutation m) f.sorts q l, f.many);
        apart = places-apart (suc m.bits) m.places (permutation m) f.sorts;
      }

  -- a table that is the permutation, lent
  pub lent_table : (h : List ℕ) → h ≡ permutation m → Apart h × (length h ≡ m.places)
  lent_table h e = (subst Apart (sym e) permutes, ap length e ∙ f.many)

  pub place_below : (q : ℕ) → q < m.places → place m q < m.places
  place_below q l = below-places (suc m.bits) m.places (permutation m) f.sorts q (omega (arith, f.many))

  -- two cells with one place are one
  pub one_cell : (i j : ℕ) → i < m.places → j < m.places → place m i ≡ place m j → i ≡ j
  one_cell i j i< j< e = by (ltb i j) (ltb j i) refl refl
    where
      by : (s t : Bool) → ltb i j ≡ s → ltb j i ≡ t → i ≡ j
      by true t g h = absurd (permutes.apart i j (ltb-true i j g) (omega (arith, f.many)) e)
      by false true g h = absurd (permutes.apart j i (ltb-true j i h) (omega (arith, f.many)) (sym e))
      by false false g h = le_antisymm (ltb-false j i h) (ltb-false i j g)

  -- each place occurs once
  pub each_place_once : (p : ℕ) → p < m.places → Once m p
  each_place_once p l =
      let found : Found p (permutation m) = place_found (suc m.bits) m.places (permutation m) f.sorts p l in
      let within : found.at < m.places = omega (arith, found.within, f.many) in
      record {
        at = found.at;
        within = within;
        there = found.there;
        only = λ q q< e. one_cell q found.at q< within (e ∙ sym found.there);
      }

-- what the code's table holds: a list that meets the promise of `table` has at every q the place of cell q
pub table_entry : (m : Interleaver) (h : List ℕ) → h ≡ permutation m → (q : ℕ) → get_or h q 0 ≡ place m q
table_entry m h e q = ap (λ (l : List ℕ). get_or l q 0) e

-- ---- a mode's facts, by the walk

pub by-walk : (m : Interleaver) → length (walked m) ≡ m.places → sorted (suc m.bits) (walked m) ≡ rising 0 m.places → Facts m
by-walk m many sorts =
    record {
      many = sym (ap length (walked_is_permutation m)) ∙ many;
      sorts = sym (ap (sorted (suc m.bits)) (walked_is_permutation m)) ∙ sorts;
    }

-- ---- the 2K mode

pub facts2k : Facts interleaver2k
unfolding tapped wired step address next walk walked having parted sorted rising
facts2k = by-walk interleaver2k refl refl

-- its first ten places
pub permutation-begins : take 10 (permutation interleaver2k) ≡ 0 ∷ 1024 ∷ 16 ∷ 1025 ∷ 128 ∷ 1056 ∷ 2 ∷ 1280 ∷ 4 ∷ 1088 ∷ []
unfolding tapped wired step address next walk walked
permutation-begins = sym (ap (take 10) (walked_is_permutation interleaver2k))
