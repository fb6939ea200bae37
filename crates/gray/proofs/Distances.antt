-- The distances of a coordinate to the levels of an axis: of one kind, as std takes them, and all equal for a NaN,
-- an infinity and every finite f32 of magnitude 2 ^ 26 or more, of either sign, which so give index 0.
-- Assumes nothing.
use Prim.Native.Nat.{ℕ, ◌<◌}
use native.Mathlib.Nat.{le_refl}
use mathlib.Core.Path.{◌≡◌, refl, ◌∙◌, subst}
use mathlib.Core.Bool.{Bool, false, not}
use lib.IntN.{ℤ, pos}
use lib.ListN.{length, length-map}
use lib.Ieee.{Float, binary32, nan, inf, fin, sub, add, is_nan, fits}
use lib.Dec.{T}
use Rattle.std.specs.Float.{float_with_sign}
use Rattle.ground.specs.declared.ConstellationOrder.{ConstellationOrder}
use Rattle.ground.proofs.Mapped.{map_at}
use Rattle.gray.specs.Levels.{levels, at, coordinate}
use Rattle.gray.specs.Inner.{distance_at}
use Rattle.gray.specs.Hard.{distances, First, abs, distance, entry}
use Rattle.gray.proofs.Ieee.Differences.{difference-kind}
use Rattle.gray.proofs.Ieee.First.{equal_first}
use Rattle.gray.proofs.Ieee.Large.{Large, inf_distance, large_distance, large_is_whole}
use Rattle.gray.proofs.Ieee.Magnitudes.{kind}
use Rattle.gray.proofs.Levels.{finite_at, near-at}

pub distances-length : (o : ConstellationOrder) (x : Float) → length (distances o x) ≡ length (levels o)
unfolding distances
distances-length o x = length-map (levels o) (λ (l : ℤ). distance x (coordinate o l))

pub distances-entry : (o : ConstellationOrder) (x : Float) (j : ℕ) → j < length (levels o) → entry (distances o x) j ≡ distance_at o x j
unfolding distances
distances-entry o x j h = map_at (λ (l : ℤ). distance x (coordinate o l)) (levels o) j nan (pos 0) h

-- of one kind: NaN where the coordinate is a NaN, else magnitudes
pub distance-kind : (o : ConstellationOrder) (x : Float) (i : ℕ) → T (kind (not (is_nan x)) (distance_at o x i))
distance-kind o x i = difference-kind x (at o i) (finite_at o i)

-- std's magnitude is ours
pub abs-is : (y : Float) → float_with_sign false y ≡ abs y
unfolding float_with_sign abs
abs-is nan = refl
abs-is (inf s) = refl
abs-is (fin s m e) = refl

-- ---- a coordinate whose distances are all equal gives index 0
pub equal_distances_first : (o : ConstellationOrder) (x v : Float) → ((j : ℕ) → j < length (levels o) → distance x (at o j) ≡ v) → (i : ℕ) → First (distances o x) i → i ≡ 0
equal_distances_first o x v e =
    equal_first (distances o x) v
    (λ j h. let l : j < length (levels o) = subst (λ (n : ℕ). j < n) (distances-length o x) h in distances-entry o x j l ∙ e j l)

pub nan_first : (o : ConstellationOrder) (i : ℕ) → First (distances o nan) i → i ≡ 0
unfolding sub add abs
nan_first o = equal_distances_first o nan nan (λ j h. refl)

pub inf_first : (o : ConstellationOrder) (s : Bool) (i : ℕ) → First (distances o (inf s)) i → i ≡ 0
inf_first o s = equal_distances_first o (inf s) (inf false) (λ j h. inf_distance s (at o j) (finite_at o j))

large_distances : (o : ConstellationOrder) (x : Float) → T (fits binary32 x) → Large 26 x → (j : ℕ) → j < length (levels o) → distance x (at o j) ≡ abs x
unfolding abs
large_distances o nan f h j l = absurd h
large_distances o (inf s) f h j l = absurd h
large_distances o (fin s m e) f h j l =
    large_is_whole 26 (le_refl 26) s m e f h (λ (z : ℤ). T (fits binary32 (fin s m z)) → distance (fin s m z) (at o j) ≡ fin false m z)
    (λ k big g. large_distance s m k (at o j) g big (near-at o j l)) f

-- every finite f32 of magnitude 2 ^ 26 or more gives index 0
pub large_first : (o : ConstellationOrder) (x : Float) → T (fits binary32 x) → Large 26 x → (i : ℕ) → First (distances o x) i → i ≡ 0
large_first o x f h = equal_distances_first o x (abs x) (large_distances o x f h)
