-- The squared distances of a coordinate to the levels that have a bit: of one kind, some for each bit, and their least
-- as the code takes it. Assumes nothing.
use Prim.Native.Nat.{ℕ, zero, suc, ◌^◌, ◌<◌, ◌/◌, ◌%◌, suc-le-suc}
use native.Mathlib.Omega.{arith}
use native.Mathlib.Nat.{zero-lt-suc, not-suc-le-zero, le_of_suc-le-suc}
use mathlib.Core.Path.{◌≡◌, refl, sym, subst}
use mathlib.Core.Bool.{true, Bool, false, not, cond}
use mathlib.Core.List.{List, [], ◌∷◌}
use lib.IntN.{ℤ, pos}
use lib.ListN.{length, get_or, length-map}
use lib.Ieee.{Float, nan, binary32, sub, is_nan, fits}
use lib.Dec.{T, eqb}
use lib.Ieee.Fits.{mul-fits}
use Rattle.ground.specs.declared.ConstellationOrder.{ConstellationOrder}
use Rattle.ground.specs.declared.ConstellationOrder.TheVariants.{Qpsk, Qam16, Qam64}
use Rattle.ground.proofs.Mapped.{map_at}
use Rattle.gray.specs.Levels.{levels, axis_bits, at, coordinate}
use Rattle.gray.specs.Hard.{entry}
use Rattle.gray.specs.Soft.{square, squares, having}
use Rattle.gray.specs.Inner.{lesser, least_in_turn, with_bit}
use Rattle.gray.proofs.Distances.{distance-kind}
use Rattle.gray.proofs.Ieee.Differences.{square-kind}
use Rattle.gray.proofs.Ieee.Least.{lesser-assoc, lesser-kind}
use Rattle.gray.proofs.Ieee.Magnitudes.{kind}

pub squared_kind : (o : ConstellationOrder) (x : Float) (i : ℕ) → T (kind (not (is_nan x)) (square x (at o i)))
squared_kind o x i = square-kind (not (is_nan x)) (sub binary32 x (at o i)) (distance-kind o x i)

-- ---- what holds at every level holds at those that have a bit
All : (ℤ → Type 0) → List ℤ → Type 0
All P ls = (j : ℕ) → j < length ls → P (get_or ls j (pos 0))

module _ (P : ℤ → Type 0) where
  all_cons : (l : ℤ) (ls : List ℤ) → P l → All P ls → All P (l ∷ ls)
  unfolding All
  all_cons l ls p h zero k = p
  all_cons l ls p h (suc j) k = h j (le_of_suc-le-suc k)

  all_tail : (l : ℤ) (ls : List ℤ) → All P (l ∷ ls) → All P ls
  unfolding All
  all_tail l ls h j k = h (suc j) (suc-le-suc k)

  all_head : (l : ℤ) (ls : List ℤ) → All P (l ∷ ls) → P l
  unfolding All
  all_head l ls h = h 0 (zero-lt-suc (length ls))

  all_cond : (t : Bool) (ls ms : List ℤ) → All P ls → All P ms → All P (cond t ls ms)
  all_cond true ls ms h k = h
  all_cond false ls ms h k = k

  all-having : (s b k : ℕ) (ls : List ℤ) → All P ls → All P (having s b k ls)
  all-having s b k [] h = h
  all-having s b k (l ∷ ls) h =
      let r = all-having s b (suc k) ls (all_tail l ls h) in
      all_cond (eqb (k / 2 ^ s % 2) b) (l ∷ having s b (suc k) ls) (having s b (suc k) ls) (all_cons l (having s b (suc k) ls) (all_head l ls h) r) r

-- ---- each bit of an index is 0 at some level and 1 at some
some-having : (o : ConstellationOrder) (s : ℕ) → s < axis_bits o → (0 < length (having s 1 0 (levels o))) × (0 < length (having s 0 0 (levels o)))
some-having Qpsk zero h = (omega arith, omega arith)
some-having Qpsk (suc s) h = absurd (not-suc-le-zero (le_of_suc-le-suc h))
some-having Qam16 zero h = (omega arith, omega arith)
some-having Qam16 (suc zero) h = (omega arith, omega arith)
some-having Qam16 (suc (suc s)) h = absurd (not-suc-le-zero (le_of_suc-le-suc (le_of_suc-le-suc h)))
some-having Qam64 zero h = (omega arith, omega arith)
some-having Qam64 (suc zero) h = (omega arith, omega arith)
some-having Qam64 (suc (suc zero)) h = (omega arith, omega arith)
some-having Qam64 (suc (suc (suc s))) h = absurd (not-suc-le-zero (le_of_suc-le-suc (le_of_suc-le-suc (le_of_suc-le-suc h))))

-- ---- the entries of the squares
module _ (o : ConstellationOrder) (x : Float) where
  squares-length : (s b : ℕ) → length (squares o s b x) ≡ length (having s b 0 (levels o))
  unfolding squares
  squares-length s b = length-map (having s b 0 (levels o)) (λ (l : ℤ). square x (coordinate o l))

  -- what holds of the square at every index holds of every entry
  pub squares-all : (P : Float → Type 0) → ((j : ℕ) → j < length (levels o) → P (square x (at o j))) → (s b j : ℕ) → j < length (squares o s b x) → P (entry (squares o s b x) j)
  unfolding squares All
  squares-all P h s b j l =
      let f : ℤ → Float = λ l. square x (coordinate o l) in
      let l' : j < length (having s b 0 (levels o)) = subst (λ (n : ℕ). j < n) (squares-length s b) l in
      subst P (sym (map_at f (having s b 0 (levels o)) j nan (pos 0) l')) (all-having (λ (l : ℤ). P (f l)) s b 0 (levels o) h j l')

  pub squares-kind : (s b j : ℕ) → j < length (squares o s b x) → T (kind (not (is_nan x)) (entry (squares o s b x) j))
  squares-kind = squares-all (λ (y : Float). T (kind (not (is_nan x)) y)) (λ j h. squared_kind o x j)

  pub squares_fit : (s b j : ℕ) → j < length (squares o s b x) → T (fits binary32 (entry (squares o s b x) j))
  squares_fit = squares-all (λ (y : Float). T (fits binary32 y)) (λ j h. mul-fits binary32 _ _)

  pub some-squares : (s : ℕ) → s < axis_bits o → (0 < length (squares o s 1 x)) × (0 < length (squares o s 0 x))
  some-squares s h =
      (subst (λ (n : ℕ). 0 < n) (sym (squares-length s 1)) (some-having o s h).0, subst (λ (n : ℕ). 0 < n) (sym (squares-length s 0)) (some-having o s h).1)

module _ (o : ConstellationOrder) (x : Float) where
  abbrev sq : ℕ → Float
  sq i = square x (at o i)

  least_by_pairs : (i j k l : ℕ) → lesser (lesser (sq i) (sq j)) (lesser (sq k) (sq l)) ≡ least_in_turn (sq i ∷ sq j ∷ sq k ∷ sq l ∷ [])
  unfolding least_in_turn
  least_by_pairs i j k l =
      let t = not (is_nan x) in
      lesser-assoc t (sq i) (sq j) (lesser (sq k) (sq l)) (squared_kind o x i) (squared_kind o x j) (lesser-kind t (sq k) (sq l) (squared_kind o x k) (squared_kind o x l))

-- the least of as many numbers as half the levels, as the code takes it
abbrev pub by_pairs : ConstellationOrder → (ℕ → Float) → Float
by_pairs Qpsk f = f 0
by_pairs Qam16 f = lesser (f 0) (f 1)
by_pairs Qam64 f = lesser (lesser (f 0) (f 1)) (lesser (f 2) (f 3))

module _ (o : ConstellationOrder) (f : ℕ → Float) where
  pub by-one : (m : Float) → o ≡ Qpsk → m ≡ f 0 → m ≡ by_pairs o f
  by-one m e h = rw e h

  pub by_two : (a b m : Float) → o ≡ Qam16 → m ≡ lesser a b → a ≡ f 0 → b ≡ f 1 → m ≡ by_pairs o f
  by_two a b m e h p q = rw e (cc)

  pub by_four : (a b c d m : Float) → o ≡ Qam64 → m ≡ lesser (lesser a b) (lesser c d) → a ≡ f 0 → b ≡ f 1 → c ≡ f 2 → d ≡ f 3 → m ≡ by_pairs o f
  by_four a b c d m e h p q r s = rw e (cc)

-- and of the squares to the levels whose bit at place s is b
pub squares_by_pairs : (o : ConstellationOrder) (x : Float) (s b : ℕ) → s < axis_bits o → b < 2 → by_pairs o (λ (j : ℕ). square x (at o (with_bit j s b))) ≡ least_in_turn (squares o s b x)
unfolding squares least_in_turn
squares_by_pairs Qpsk x zero zero h k = refl
squares_by_pairs Qpsk x zero (suc zero) h k = refl
squares_by_pairs Qpsk x (suc s) b h k = absurd (omega arith)
squares_by_pairs Qam16 x zero zero h k = refl
squares_by_pairs Qam16 x zero (suc zero) h k = refl
squares_by_pairs Qam16 x (suc zero) zero h k = refl
squares_by_pairs Qam16 x (suc zero) (suc zero) h k = refl
squares_by_pairs Qam16 x (suc (suc s)) b h k = absurd (omega arith)
squares_by_pairs Qam64 x zero zero h k = least_by_pairs Qam64 x 0 2 4 6
squares_by_pairs Qam64 x zero (suc zero) h k = least_by_pairs Qam64 x 1 3 5 7
squares_by_pairs Qam64 x (suc zero) zero h k = least_by_pairs Qam64 x 0 1 4 5
squares_by_pairs Qam64 x (suc zero) (suc zero) h k = least_by_pairs Qam64 x 2 3 6 7
squares_by_pairs Qam64 x (suc (suc zero)) zero h k = least_by_pairs Qam64 x 0 1 2 3
squares_by_pairs Qam64 x (suc (suc zero)) (suc zero) h k = least_by_pairs Qam64 x 4 5 6 7
squares_by_pairs Qam64 x (suc (suc (suc s))) b h k = absurd (omega arith)
squares_by_pairs o x s (suc (suc b)) h k = absurd (omega arith)
