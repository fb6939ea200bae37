-- The two terms of a soft value are the least squared distances, for every coordinate, and no other f32 is; a
-- coordinate that is a NaN or infinite, or whose squares all overflow, as those of every finite f32 from 2 ^ 64 on,
-- gives a NaN. Assumes nothing.
use Prim.Native.Nat.{ℕ, zero, suc, ◌<◌}
use native.Mathlib.Omega.{arith}
use native.Mathlib.Nat.{le_trans}
use mathlib.Core.Path.{◌≡◌, refl, ap, ◌∙◌, ap₂}
use mathlib.Core.Bool.{Bool, false, not}
use lib.IntN.{ℤ, pos}
use lib.ListN.{length}
use lib.Ieee.{Float, binary32, nan, inf, fin, sub, neg, add, mul, is_nan, fits}
use lib.Dec.{T}
use lib.Pow.{pow_mono}
use Rattle.ground.specs.declared.ConstellationOrder.{ConstellationOrder}
use Rattle.gray.specs.Levels.{levels, axis_bits, at}
use Rattle.gray.specs.Soft.{soft, square, squares, least, Least}
use Rattle.gray.specs.Inner.{least_in_turn, with_bit}
use Rattle.gray.proofs.Ieee.Differences.{square_of_abs}
use Rattle.gray.proofs.Ieee.Large.{Large, inf_square, large_distance, large_is_whole, large_square}
use Rattle.gray.proofs.Ieee.Least.{in_turn_is_least, least_is_least, least-unique, same-least, some-least}
use Rattle.gray.proofs.Levels.{finite_at, near-at}
use Rattle.gray.proofs.Squares.{some-squares, by_pairs, squares_by_pairs, squares-all, squares_fit, squares-kind}

module _ (o : ConstellationOrder) (x : Float) where
  some_term : (s b : ℕ) → 0 < length (squares o s b x) → Least (squares o s b x) (least (squares o s b x))
  some_term s b h = least_is_least (squares o s b x) _ (some-least (not (is_nan x)) (squares o s b x) h (squares-kind o x s b))

  -- both terms of a soft value are the least of their squares, for every coordinate
  pub terms_are_least : (s : ℕ) → s < axis_bits o → Least (squares o s 1 x) (least (squares o s 1 x)) × Least (squares o s 0 x) (least (squares o s 0 x))
  terms_are_least s h = (some_term s 1 (some-squares o x s h).0, some_term s 0 (some-squares o x s h).1)

  -- and nothing else is
  pub term_unique : (s b : ℕ) (m n : Float) → Least (squares o s b x) m → Least (squares o s b x) n → m ≡ n
  term_unique s b m n = least-unique (not (is_nan x)) (squares o s b x) (squares-kind o x s b) (squares_fit o x s b) m n

  -- so a soft value is known by its two terms, said without a computation
  pub soft_of_terms : (s : ℕ) → s < axis_bits o → (m n : Float) → Least (squares o s 1 x) m → Least (squares o s 0 x) n → soft o s x ≡ sub binary32 m n
  unfolding soft
  soft_of_terms s h m n p q =
      ap₂ (sub binary32) (term_unique s 1 _ m (terms_are_least s h).0 p) (term_unique s 0 _ n (terms_are_least s h).1 q)

  in_turn : (s b : ℕ) → 0 < length (squares o s b x) → least_in_turn (squares o s b x) ≡ least (squares o s b x)
  in_turn s b h = in_turn_is_least (not (is_nan x)) (squares o s b x) h (squares-kind o x s b) (squares_fit o x s b)

  -- the least of the squares to the levels whose bit at place s is b, as the code takes it
  pub least_by_code : (s b : ℕ) (m : Float) → s < axis_bits o → b < 2 → m ≡ by_pairs o (λ (j : ℕ). square x (at o (with_bit j s b))) → m ≡ least (squares o s b x)
  least_by_code s b m h k e = e ∙ squares_by_pairs o x s b h k ∙ in_turn s b (some b k)
    where
      some : (b : ℕ) → b < 2 → 0 < length (squares o s b x)
      some zero k = (some-squares o x s h).1
      some (suc zero) k = (some-squares o x s h).0
      some (suc (suc b)) k = absurd (omega arith)

soft_of_same : (o : ConstellationOrder) (s : ℕ) (x v : Float) → s < axis_bits o → ((j : ℕ) → j < length (levels o) → square x (at o j) ≡ v) → soft o s x ≡ sub binary32 v v
unfolding soft
soft_of_same o s x v h e =
    let all = squares-all o x (λ (y : Float). y ≡ v) e in
    ap₂ (sub binary32) (same-least v (squares o s 1 x) (some-squares o x s h).0 (all s 1)) (same-least v (squares o s 0 x) (some-squares o x s h).1 (all s 0))

pub nan_soft : (o : ConstellationOrder) (s : ℕ) → s < axis_bits o → soft o s nan ≡ nan
unfolding sub add mul
nan_soft o s h = soft_of_same o s nan nan h (λ j l. refl)

-- squares that all overflow
pub overflow_soft : (o : ConstellationOrder) (s : ℕ) (x : Float) → s < axis_bits o → ((j : ℕ) → j < length (levels o) → square x (at o j) ≡ inf false) → soft o s x ≡ nan
unfolding sub add neg
overflow_soft o s x h e = soft_of_same o s x (inf false) h e

pub inf_soft : (o : ConstellationOrder) (s : ℕ) (t : Bool) → s < axis_bits o → soft o s (inf t) ≡ nan
inf_soft o s t h = overflow_soft o s (inf t) h (λ j l. inf_square t (at o j) (finite_at o j))

large_squares : (o : ConstellationOrder) (x : Float) → T (fits binary32 x) → Large 64 x → (j : ℕ) → j < length (levels o) → square x (at o j) ≡ inf false
large_squares o nan f h j l = absurd h
large_squares o (inf s) f h j l = absurd h
large_squares o (fin s m e) f h j l =
    large_is_whole 64 (omega arith) s m e f h (λ (z : ℤ). T (fits binary32 (fin s m z)) → square (fin s m z) (at o j) ≡ inf false)
    (λ k big g.
    square_of_abs (sub binary32 (fin s m (pos k)) (at o j))
    ∙ ap (λ (v : Float). mul binary32 v v) (large_distance s m k (at o j) g (le_trans (pow_mono {i = 26} {j = 64} (omega arith)) big) (near-at o j l))
    ∙ large_square m k big) f

-- every finite f32 of magnitude 2 ^ 64 or more gives NaN for every bit
pub large_soft : (o : ConstellationOrder) (s : ℕ) (x : Float) → s < axis_bits o → T (fits binary32 x) → Large 64 x → soft o s x ≡ nan
large_soft o s x h f l = overflow_soft o s x h (large_squares o x f l)
