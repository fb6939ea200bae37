-- A fraction that lies within 2 of an f32 of at least 2 ^ 26 has that f32 as the closest one of its grid, and rounds
-- to it. Assumes nothing.
use Prim.Native.Nat.{ℕ, zero, suc, ◌*◌, ◌^◌, ◌≤◌, ◌<◌, ◌+◌, ◌-◌, ◌/◌}
use native.Mathlib.Omega.{arith}
use native.Mathlib.Nat.{mul-pos, add-mul, le_trans, le_of_eq, lt_of_lt_of_le, lt_of_le_of_lt, not-le_of_lt, mul_assoc, mul_comm, mul_right_comm, mul-le-mul_right, mul-le-mul_left, mul-lt-mul_of_pos_right, le-div_iff_mul-le, div-lt_iff_lt-mul, two-pow-succ}
use mathlib.Core.Path.{◌≡◌, sym, ap, ◌∙◌, subst}
use mathlib.Core.Bool.{false}
use mathlib.Core.Logic.{⊎_elim}
use lib.IntN.{pos}
use lib.Ieee.{binary32, fin, round, size, fits}
use lib.Dec.{T}
use lib.Ieee.Fits.{round-fits}
use lib.Ieee.Nearest.{closest}
use lib.Ieee.Scale.{grid, round_val}
use lib.Pow.{pow-add, pow_pos, pow_mono}
use lib.Ieee.Digits.{size-lt, size-le}
use lib.Ieee.Exact.{HasValue}
use Rattle.gray.proofs.Ieee.Closest.{closest_above, closest_below}
use Rattle.gray.proofs.Ieee.Values.{value_determines, value_in_range}
use Rattle.gray.proofs.Tests.{lt_or_ge}

-- ---- the unit of the last place, and the whole number of units
module _ (m k A D : ℕ) (some : 0 < D) (few : m < 2 ^ 24) (big : 2 ^ 26 ≤ m * 2 ^ k) (low : m * 2 ^ k * D ≤ A + 2 * D) (high : A < m * 2 ^ k * D + 2 * D) where
  two-units : 2 ≤ 2 ^ k
  two-units = go k big
    where
      go : (j : ℕ) → 2 ^ 26 ≤ m * 2 ^ j → 2 ≤ 2 ^ j
      go zero h = absurd (not-le_of_lt (lt_of_le_of_lt h (subst (λ (n : ℕ). n < 2 ^ 24) (sym one) few)) (pow_mono {i = 24} {j = 26} (omega arith)))
        where
          one : m * 2 ^ 0 ≡ m
          one = omega arith
      go (suc j) h = subst (λ (n : ℕ). 2 ≤ n) (sym (two-pow-succ j)) (pair (2 ^ j) (pow_pos j))
        where
          pair : (n : ℕ) → 0 < n → 2 ≤ n + n
          pair n p = omega arith

  reaches : 2 ^ 174 * D ≤ A * 2 ^ 149
  reaches =
      let a : 2 ^ 26 * D ≤ m * 2 ^ k * D = mul-le-mul_right D big in
      let b : 2 ^ 25 * D ≤ A = quarter D (m * 2 ^ k * D) A a low in
      le_trans (le_of_eq (shift D)) (mul-le-mul_right (2 ^ 149) b)
    where
      quarter : (d e a : ℕ) → 2 ^ 26 * d ≤ e → e ≤ a + 2 * d → 2 ^ 25 * d ≤ a
      quarter d e a h l = omega arith

      shift : (d : ℕ) → 2 ^ 174 * d ≡ 2 ^ 25 * d * 2 ^ 149
      shift d = mul_right_comm (2 ^ 25) (2 ^ 149) d

  stays : A * 2 ^ 149 < 2 ^ (k + 173) * D
  stays =
      let a : m * 2 ^ k + 2 ≤ 2 ^ 24 * 2 ^ k = room (m * 2 ^ k) (2 ^ k) (mul-le-mul_right (2 ^ k) (pred m few)) two-units in
      let b : A < 2 ^ 24 * 2 ^ k * D = lt_of_lt_of_le high (le_trans (le_of_eq (sym (add-mul (m * 2 ^ k) 2 D))) (mul-le-mul_right D a)) in
      lt_of_lt_of_le (mul-lt-mul_of_pos_right b (pow_pos 149)) (le_of_eq (shift (2 ^ k) ∙ ap (λ (n : ℕ). n * D) (sym (pow-add 2 k 173))))
    where
      pred : (n : ℕ) → n < 2 ^ 24 → n ≤ 16777215
      pred n h = omega arith

      room : (a z : ℕ) → a ≤ 16777215 * z → 2 ≤ z → a + 2 ≤ 2 ^ 24 * z
      room a z h l = omega arith

      shift : (z : ℕ) → 2 ^ 24 * z * D * 2 ^ 149 ≡ z * 2 ^ 173 * D
      shift z = mul_right_comm (2 ^ 24 * z) D (2 ^ 149) ∙ ap (λ (n : ℕ). n * D) (both z)
        where
          both : (n : ℕ) → 2 ^ 24 * n * 2 ^ 149 ≡ n * 2 ^ 173
          both n = mul_right_comm (2 ^ 24) n (2 ^ 149) ∙ mul_comm (2 ^ 173) n

  abbrev places : ℕ
  places = size (A * 2 ^ 149 / D)

  places-above : 174 < places
  places-above = ⊎_elim (λ h. h) (λ h. absurd (not-le_of_lt (size-lt (A * 2 ^ 149 / D)) (le_trans (pow_mono h) ((le-div_iff_mul-le some).1 reaches)))) (lt_or_ge 174 places)

  places-upto : places ≤ k + 173
  places-upto = size-le (A * 2 ^ 149 / D) (k + 173) ((div-lt_iff_lt-mul some).1 stays)

  abbrev K : ℕ
  K = places - 24

  K_low : 151 ≤ K
  K_low = go places places-above
    where
      go : (p : ℕ) → 174 < p → 151 ≤ p - 24
      go p h = omega arith

  K_high : K ≤ k + 149
  K_high = go places places-upto
    where
      go : (p : ℕ) → p ≤ k + 173 → p - 24 ≤ k + 149
      go p h = omega arith

  abbrev Q : ℕ
  Q = m * 2 ^ (k + 149 - K)

  units-are : Q * 2 ^ K ≡ m * 2 ^ k * 2 ^ 149
  units-are =
      mul_assoc m (2 ^ (k + 149 - K)) (2 ^ K)
      ∙ ap (λ (n : ℕ). m * n) (sym (pow-add 2 (k + 149 - K) K) ∙ ap (λ (n : ℕ). 2 ^ n) (back (k + 149) K K_high) ∙ pow-add 2 k 149)
      ∙ sym (mul_assoc m (2 ^ k) (2 ^ 149))
    where
      back : (a b : ℕ) → b ≤ a → a - b + b ≡ a
      back a b h = omega arith

  whole-units : Q * (D * 2 ^ K) ≡ m * 2 ^ k * D * 2 ^ 149
  whole-units =
      ap (λ (n : ℕ). Q * n) (mul_comm D (2 ^ K)) ∙ sym (mul_assoc Q (2 ^ K) D) ∙ ap (λ (n : ℕ). n * D) units-are ∙ mul_right_comm (m * 2 ^ k) (2 ^ 149) D

  -- what is left is less than half a unit
  rest_below_half : (N : ℕ) → N < 2 * D → N * 2 ^ 149 * 2 < D * 2 ^ K
  rest_below_half N h = lt_of_lt_of_le (scaled N D h) (mul-le-mul_left D (pow_mono K_low))
    where
      scaled : (n d : ℕ) → n < 2 * d → n * 2 ^ 149 * 2 < d * 2 ^ 151
      scaled n d h =
          lt_of_le_of_lt (le_of_eq (mul_assoc n (2 ^ 149) 2)) (lt_of_lt_of_le (mul-lt-mul_of_pos_right h (pow_pos 150)) (le_of_eq (mul_right_comm 2 d (2 ^ 150) ∙ mul_comm (2 ^ 151) d)))

  grid_of_closest : closest (A * 2 ^ 149) (D * 2 ^ K) ≡ Q → grid binary32 A D ≡ m * 2 ^ k * 2 ^ 149
  grid_of_closest e = ap (λ (n : ℕ). n * 2 ^ K) e ∙ units-are

  pub grid_above : (N : ℕ) → A ≡ m * 2 ^ k * D + N → N < 2 * D → grid binary32 A D ≡ m * 2 ^ k * 2 ^ 149
  grid_above N e h =
      grid_of_closest
      (closest_above Q (D * 2 ^ K) (N * 2 ^ 149) (A * 2 ^ 149)
      (ap (λ (n : ℕ). n * 2 ^ 149) e ∙ add-mul (m * 2 ^ k * D) N (2 ^ 149) ∙ ap (λ (n : ℕ). n + N * 2 ^ 149) (sym whole-units)) (rest_below_half N h))

  pub grid_below : (N : ℕ) → A + N ≡ m * 2 ^ k * D → 0 < N → N < 2 * D → grid binary32 A D ≡ m * 2 ^ k * 2 ^ 149
  grid_below N e p h =
      grid_of_closest
      (closest_below Q (D * 2 ^ K) (N * 2 ^ 149) (A * 2 ^ 149)
      (sym (add-mul A N (2 ^ 149)) ∙ ap (λ (n : ℕ). n * 2 ^ 149) e ∙ sym whole-units) (mul-pos p (pow_pos 149)) (rest_below_half N h))

-- ---- a fraction whose closest value of the grid is an f32 rounds to that f32
pub rounds_to : (m k A D : ℕ) → T (fits binary32 (fin false m (pos k))) → grid binary32 A D ≡ m * 2 ^ k * 2 ^ 149 → round binary32 false A D ≡ fin false m (pos k)
rounds_to m k A D f e =
    let under : grid binary32 A D < 2 ^ 277 = subst (λ (n : ℕ). n < 2 ^ 277) (sym e) (mul-lt-mul_of_pos_right (value_in_range m k f) (pow_pos 149)) in
    value_determines (round binary32 false A D) m k f (round-fits binary32 false A D)
    (subst (λ (n : ℕ). HasValue (round binary32 false A D) false n (2 ^ 149)) e (round_val binary32 A D under))
