-- The search for the locator's roots: one degree on, two degrees on, and from the first terms on. Assumes nothing.
use mathlib.Core.Path.{◌≡◌, refl, sym, ap, ap₂, ◌∙◌, subst}
use Prim.Native.Nat.{ℕ, zero, suc, ◌+◌, ◌-◌, ◌^◌, ◌<◌, ◌≤◌}
use native.Mathlib.Decide.{ℕ_discrete}
use native.Mathlib.Omega.{arith}
use lib.Bits.{bit_xor}
use Rattle.bch.specs.Field.{times_x, mul, times_x2, times_x4}
use Rattle.bch.specs.Search.{repeated, value_at, Passed, NoRoot}
use Rattle.bch.proofs.Product.{mul-lt}
use Rattle.bch.proofs.GaloisField.{one-mul, mul_comm}
use Rattle.bch.proofs.Point.{alpha, second_term_next, first_term_next, point}
use Rattle.bch.proofs.Locator.{square, locator}

repeated_add : (f : ℕ → ℕ) (m k a : ℕ) → repeated f (m + k) a ≡ repeated f m (repeated f k a)
repeated_add f zero k a = let e : zero + k ≡ k = omega arith in ap (λ (n : ℕ). repeated f n a) e
repeated_add f (suc m) k a = let e : suc m + k ≡ suc (m + k) = omega arith in ap (λ (n : ℕ). repeated f n a) e ∙ ap f (repeated_add f m k a)

repeated-one-more : (f : ℕ → ℕ) (d e a b c : ℕ) → d ≤ e → b ≡ repeated f (e - d) a → c ≡ f b → c ≡ repeated f (e + 1 - d) a
repeated-one-more f d e a b c h p q = let z : e + 1 - d ≡ suc (e - d) = omega arith in q ∙ ap f p ∙ sym (ap (λ (n : ℕ). repeated f n a) z)

-- ---- the search moves on

module _ {c p q d p' q' d' : ℕ} (s : Passed c p q d p' q' d') where
  pub passed-one : {r t : ℕ} → d' < 67 → (bit_xor p' q' ≡ c → ⊥) → r ≡ times_x2 p' → t ≡ times_x q' → Passed c p q d r t (d' + 1)
  passed-one h n er et =
      let o = s.on in
      record {
        on = omega arith;
        within = omega arith;
        first = repeated-one-more times_x2 d d' p p' _ o s.first er;
        second = repeated-one-more times_x d d' q q' _ o s.second et;
        none = λ k l e. by k l e (ℕ_discrete k (d' - d));
      }
    where
      by : (k : ℕ) → k < d' + 1 - d → value_at p q k ≡ c → Dec (k ≡ d' - d) → ⊥
      by k l e (yes z) = n (ap₂ bit_xor s.first s.second ∙ sym (ap (value_at p q) z) ∙ e)
      by k l e (no z) = let o = s.on in s.none k (omega arith) e

pub passed-two : {c p q d p' q' d' r t : ℕ} → Passed c p q d p' q' d' → d' < 66 → (bit_xor p' q' ≡ c → ⊥)
    → (bit_xor (times_x2 p') (times_x q') ≡ c → ⊥) → r ≡ times_x4 p' → t ≡ times_x2 q' → Passed c p q d r t (d' + 2)
passed-two {c} {p} {q} {d} {p'} {q'} {d'} {r} {t} s h n m er et =
    let z : d' + 1 + 1 ≡ d' + 2 = omega arith in
    subst (λ (e : ℕ). Passed c p q d r t e) z (passed-one (passed-one s (omega arith) n refl refl) (omega arith) m er et)

-- from a degree on, all others are passed where none of them is a root
pub passed_all : {c p q d : ℕ} → d ≤ 67 → NoRoot c p q d → Passed c p q d (repeated times_x2 (67 - d) p) (repeated times_x (67 - d) q) 67
passed_all h n = record { on = h; within = omega arith; first = refl; second = refl; none = n }

-- ---- from the first terms on

-- u and v are the first terms, and from p and q, at the degree d, the search has moved on
pub from_start : {c u v p q d p' q' d' : ℕ} → p ≡ repeated times_x2 d u → q ≡ repeated times_x d v → Passed c p q d p' q' d'
    → (p' ≡ repeated times_x2 d' u) × (q' ≡ repeated times_x d' v) × ((k : ℕ) → d ≤ k → k < d' → value_at u v k ≡ c → ⊥)
from_start {c} {u} {v} {p} {q} {d} {p'} {q'} {d'} ep eq s =
    let o = s.on in
    let z : (e : ℕ) → d ≤ e → e - d + d ≡ e = λ e l. omega arith in
    let along : (f : ℕ → ℕ) (a b e : ℕ) → d ≤ e → b ≡ repeated f d a → repeated f (e - d) b ≡ repeated f e a =
    λ f a b e l x. ap (repeated f (e - d)) x ∙ sym (repeated_add f (e - d) d a) ∙ ap (λ (n : ℕ). repeated f n a) (z e l) in (
      s.first ∙ along times_x2 u p d' o ep,
      s.second ∙ along times_x v q d' o eq,
      λ k l h e. s.none (k - d) (omega arith) (ap₂ bit_xor (along times_x2 u p k l ep) (along times_x v q k l eq) ∙ e),
    )

mul-one : (a : ℕ) → a < 2 ^ 7 → mul a 1 ≡ a
mul-one a h = mul_comm a 1 h (omega arith) ∙ one-mul a h

first_term : (u k : ℕ) → u < 2 ^ 7 → repeated times_x2 k u ≡ mul u (square (alpha k))
unfolding alpha
first_term u zero h = sym (ap (mul u) (one-mul 1 (omega arith)) ∙ mul-one u h)
first_term u (suc k) h = ap times_x2 (first_term u k h) ∙ sym (first_term_next u k h)

second_term : (w k : ℕ) → w < 2 ^ 7 → repeated times_x k w ≡ mul w (alpha k)
unfolding alpha
second_term w zero h = sym (mul-one w h)
second_term w (suc k) h = ap times_x (second_term w k h) ∙ sym (second_term_next w k h)

-- the sum of the terms is the locator
value_is_locator : (u k : ℕ) → u < 2 ^ 7 → value_at u (mul u u) k ≡ locator u (alpha k)
unfolding locator
value_is_locator u k h = ap₂ bit_xor (first_term u k h) (second_term (mul u u) k (mul-lt u u))

pub point-value : (u j : ℕ) → u < 2 ^ 7 → locator u (point j) ≡ value_at u (mul u u) (66 - j)
unfolding point
point-value u j h = sym (value_is_locator u (66 - j) h)
