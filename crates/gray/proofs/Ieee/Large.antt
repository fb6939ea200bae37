-- Large floats: the distance of one of magnitude 2 ^ 26 or more from a float near zero is its magnitude, and the
-- square of one of 2 ^ 64 or more overflows; those of infinities are infinite. Assumes nothing.
use Prim.Native.Nat.{ℕ, suc, ◌*◌, ◌^◌, ◌≤◌, ◌<◌, ◌+◌, ◌-◌}
use native.Mathlib.Omega.{arith}
use native.Mathlib.Nat.{le_trans, le_of_eq, lt_of_lt_of_le, not-le_of_lt, mul-le-mul_right, mul-le-mul_left, le_of_lt, one-mul, mul-one, mul-le-mul}
use mathlib.Core.Path.{◌≡◌, refl, sym, ap, ◌∙◌, subst, ap₂}
use mathlib.Core.Bool.{true, Bool, false, not, cond, ◌&&◌, beq}
use lib.IntN.{ℤ, pos, negsuc}
use lib.Ieee.{Float, binary32, nan, inf, fin, up, down, lt, sub, neg, Format, add, sum, round, mul, fits, eq, le}
use lib.Dec.{T, ltb, ltb→lt}
use lib.Ieee.Fits.{down_pos, and_l, and_r}
use lib.Ieee.Scale.{finite}
use lib.Pow.{pow_pos, pow_mono}
use lib.Ieee.Order.{round_mono}
use borrow.Author.Tests.{le-ltb}
use Rattle.gray.specs.Hard.{abs, distance}
use Rattle.gray.specs.Soft.{square}
use Rattle.gray.proofs.Ieee.Differences.{abs-round}
use Rattle.gray.proofs.Ieee.Rounding.{grid_above, grid_below, rounds_to}
use Rattle.gray.proofs.Ieee.Values.{few_digits, fits_unsigned}

-- finite, and of magnitude 2 ^ n or more
abbrev pub Large : ℕ → Float → Type 0
Large n nan = ⊥
Large n (inf s) = ⊥
Large n (fin s m e) = 2 ^ n * down e ≤ m * up e

-- ---- a sum of two numbers of which the second is the smaller
near-sum : (f : Format) (s t : Bool) (a b c : ℕ) (v : Float) → b < a → round f false (a + b) c ≡ v → round f false (a - b) c ≡ v → abs (sum f s a t b c) ≡ v
unfolding sum
near-sum f s t a b c v h p q = go (beq s t)
  where
    rest : abs (cond (ltb a b) (round f t (b - a) c) (round f (s && ltb b a) (a - b) c)) ≡ v
    rest = ap (λ (u : Bool). abs (cond u (round f t (b - a) c) (round f (s && ltb b a) (a - b) c))) (le-ltb a b (le_of_lt h)) ∙ abs-round f (s && ltb b a) (a - b) c ∙ q

    go : (u : Bool) → abs (cond u (round f s (a + b) c) (cond (ltb a b) (round f t (b - a) c) (round f (s && ltb b a) (a - b) c))) ≡ v
    go true = abs-round f s (a + b) c ∙ p
    go false = rest

-- within 2 of zero, and not zero
abbrev pub near : Float → Bool
near nan = false
near (inf s) = false
near (fin t n d) = ltb 0 (n * up d) && ltb (n * up d) (2 * down d)

-- ---- the distance of a large float from one near zero is its magnitude
module _ (m k N D : ℕ) (f : T (fits binary32 (fin false m (pos k)))) (big : 2 ^ 26 ≤ m * 2 ^ k) (some : 0 < D) (p : 0 < N) (h : N < 2 * D) where
  few : m < 2 ^ 24
  few = few_digits m (pos k) f

  more : N < m * 2 ^ k * D
  more = lt_of_lt_of_le h (mul-le-mul_right D (le_trans (two (2 ^ 26) refl) big))
    where
      two : (n : ℕ) → n ≡ 2 ^ 26 → 2 ≤ n
      two n e = omega arith

  plus : round binary32 false (m * 2 ^ k * D + N) D ≡ fin false m (pos k)
  plus = rounds_to m k (m * 2 ^ k * D + N) D f (grid_above m k (m * 2 ^ k * D + N) D some few big (low (m * 2 ^ k * D)) (high (m * 2 ^ k * D)) N refl h)
    where
      low : (a : ℕ) → a ≤ a + N + 2 * D
      low a = omega arith

      high : (a : ℕ) → a + N < a + 2 * D
      high a = omega arith

  minus : round binary32 false (m * 2 ^ k * D - N) D ≡ fin false m (pos k)
  minus =
      rounds_to m k (m * 2 ^ k * D - N) D f
      (grid_below m k (m * 2 ^ k * D - N) D some few big (low (m * 2 ^ k * D)) (high (m * 2 ^ k * D)) N (back (m * 2 ^ k * D) more) p h)
    where
      low : (a : ℕ) → a ≤ a - N + 2 * D
      low a = omega arith

      high : (a : ℕ) → a - N < a + 2 * D
      high a = omega arith

      back : (a : ℕ) → N < a → a - N + N ≡ a
      back a l = omega arith

  large_sum : (s t : Bool) → abs (sum binary32 s (m * 2 ^ k * D) t N D) ≡ fin false m (pos k)
  large_sum s t = near-sum binary32 s t (m * 2 ^ k * D) N D (fin false m (pos k)) more plus minus

pub large_distance : (s : Bool) (m k : ℕ) (p : Float) → T (fits binary32 (fin s m (pos k))) → 2 ^ 26 ≤ m * 2 ^ k → T (near p) → distance (fin s m (pos k)) p ≡ fin false m (pos k)
unfolding sub add neg
large_distance s m k nan f big h = absurd h
large_distance s m k (inf t) f big h = absurd h
large_distance s m k (fin t n d) f big h =
    let A = ltb 0 (n * up d) in
    let B = ltb (n * up d) (2 * down d) in
    ap₂ (λ (b c : ℕ). abs (sum binary32 s (m * 2 ^ k * down d) (not t) b c)) (mul-one (n * up d)) (one-mul (down d))
    ∙ large_sum m k (n * up d) (down d) (fits_unsigned s m (pos k) f) big (down_pos d) (ltb→lt 0 (n * up d) (and_l A B h)) (ltb→lt (n * up d) (2 * down d) (and_r A B h)) s (not t)

-- a large f32 is a whole number
pub large_is_whole : (n : ℕ) → 26 ≤ n → (s : Bool) (m : ℕ) (e : ℤ) → T (fits binary32 (fin s m e)) → Large n (fin s m e) → (P : ℤ → Type 0)
    → ((k : ℕ) → 2 ^ n ≤ m * 2 ^ k → P (pos k)) → P e
large_is_whole n l s m (pos k) f h P q = q k (le_trans (le_of_eq (sym (mul-one (2 ^ n)))) h)
large_is_whole n l s m (negsuc k) f h P q = absurd (too_small m k (fits_unsigned s m (negsuc k) f) h)
  where
    less : (n : ℕ) → 26 ≤ n → 24 ≤ n
    less n l = omega arith

    too_small : (m k : ℕ) → T (fits binary32 (fin false m (negsuc k))) → 2 ^ n * 2 ^ suc k ≤ m * 1 → ⊥
    too_small m k f h =
        not-le_of_lt (lt_of_lt_of_le (few_digits m (negsuc k) f) (pow_mono (less n l)))
        (le_trans (le_of_eq (sym (mul-one (2 ^ n)))) (le_trans (mul-le-mul_left (2 ^ n) (pow_pos (suc k))) (le_trans h (le_of_eq (mul-one m)))))

inf_greatest : (y : Float) → T (le (inf false) y) → y ≡ inf false
unfolding le lt eq
inf_greatest nan h = absurd h
inf_greatest (inf true) h = absurd h
inf_greatest (inf false) h = refl
inf_greatest (fin s m e) h = absurd h

top_overflows : round binary32 false (2 ^ 128) 1 ≡ inf false
unfolding round
top_overflows = refl

overflows : (a : ℕ) → 2 ^ 128 ≤ a → round binary32 false a 1 ≡ inf false
overflows a h =
    inf_greatest (round binary32 false a 1)
    (subst (λ (y : Float). T (le y (round binary32 false a 1))) top_overflows (round_mono binary32 (2 ^ 128) 1 a 1 (pow_pos 0) (pow_pos 0) (mul-le-mul_right 1 h)))

pub large_square : (m k : ℕ) → 2 ^ 64 ≤ m * 2 ^ k → mul binary32 (fin false m (pos k)) (fin false m (pos k)) ≡ inf false
unfolding mul
large_square m k h = overflows (m * 2 ^ k * (m * 2 ^ k)) (mul-le-mul h h)

pub inf_distance : (s : Bool) (p : Float) → T (finite p) → distance (inf s) p ≡ inf false
unfolding sub add neg abs
inf_distance s nan h = absurd h
inf_distance s (inf t) h = absurd h
inf_distance s (fin t n d) h = refl

pub inf_square : (t : Bool) (p : Float) → T (finite p) → square (inf t) p ≡ inf false
unfolding sub add neg mul
inf_square t nan h = absurd h
inf_square t (inf u) h = absurd h
inf_square true (fin u n d) h = refl
inf_square false (fin u n d) h = refl
