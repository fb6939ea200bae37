-- What long division gives is the remainder: of all ways to write bits as a product with g plus a polynomial of
-- degree below n there is one. `reduced` is the remainder of a number, from its lowest digit up. Assumes nothing.
use mathlib.Core.Path.{◌≡◌, refl, sym, ap, ap₂, ◌∙◌, subst}
use mathlib.Core.List.{List, [], ◌∷◌}
use Prim.Native.Nat.{ℕ, zero, suc, ◌+◌, ◌-◌, ◌*◌, ◌/◌, ◌%◌, ◌^◌, ◌<◌, ◌≤◌}
use native.Mathlib.Nat.{pow-suc, add-zero, add_comm, div-add-mod'}
use native.Mathlib.Omega.{arith}
use lib.Arith.{digits_div, digits_mod, lt-one}
use lib.Bits.{bit_xor, xor_lt, xor_self}
use lib.ListN.{length}
use lib.Pow.{pow_mono, pow_pos}
use Rattle.ground.specs.Bits.{Bits}
use Rattle.ground.specs.Digits.{value_of}
use Rattle.ground.proofs.Digits.{number-below}
use Rattle.ground.proofs.Xor.{odd, xor_half, bit_cases}
use Rattle.bch.specs.Polynomial.{product_of, division_step, remainder_by}
use Rattle.bch.proofs.Xor.{xor-odd}
use Rattle.bch.proofs.Division.{division_step-lt, division_step-xor, division_step-small}

half_lt : (m v : ℕ) → v < 2 ^ suc m → v / 2 < 2 ^ m
half_lt m v h = omega (arith, pow-suc 2 m)

module _ (n g : ℕ) (monic : g / 2 ^ n ≡ 1) where
  -- the remainder of the m low digits of a number, from the lowest digit up
  abbrev pub reduced : ℕ → ℕ → ℕ
  reduced zero v = 0
  reduced (suc m) v = division_step n g (reduced m (v / 2)) (v % 2)

  reduced-lt : (m v : ℕ) → reduced m v < 2 ^ n
  reduced-lt zero v = pow_pos n
  reduced-lt (suc m) v = division_step-lt n g monic (reduced m (v / 2)) (v % 2) (reduced-lt m (v / 2)) (odd v)

  pub reduced-xor : (m a b : ℕ) → reduced m (bit_xor a b) ≡ bit_xor (reduced m a) (reduced m b)
  reduced-xor zero a b = refl
  reduced-xor (suc m) a b =
      ap₂ (division_step n g) (ap (reduced m) (xor_half a b) ∙ reduced-xor m (a / 2) (b / 2)) (xor-odd a b)
      ∙ division_step-xor n g monic (reduced m (a / 2)) (reduced m (b / 2)) (a % 2) (b % 2) (reduced-lt m (a / 2)) (reduced-lt m (b / 2)) (odd a) (odd b)

  pub reduced_zero : (m : ℕ) → reduced m 0 ≡ 0
  reduced_zero m = reduced-xor m 0 0 ∙ xor_self (reduced m 0)

  -- a digit more behind
  pub reduced-behind : (m s b : ℕ) → b < 2 → reduced (suc m) (s * 2 + b) ≡ division_step n g (reduced m s) b
  reduced-behind m s b h = ap₂ (λ (x y : ℕ). division_step n g (reduced m x) y) (digits_div s h) (digits_mod s h)

  pub reduced-bits : (m s : ℕ) (bs : List ℕ) → Bits bs → reduced (m + length bs) (value_of s bs) ≡ remainder_by n g (reduced m s) bs
  reduced-bits m s [] hb = ap (λ (k : ℕ). reduced k s) (add-zero m)
  reduced-bits m s (b ∷ bs) hb =
      let e : m + suc (length bs) ≡ suc m + length bs = omega arith in
      ap (λ (k : ℕ). reduced k (value_of (s * 2 + b) bs)) e ∙ reduced-bits (suc m) (s * 2 + b) bs hb.1
      ∙ ap (λ (r : ℕ). remainder_by n g r bs) (reduced-behind m s b hb.0)

  -- digits that are zero count nothing
  reduced-one-more : (m v : ℕ) → v < 2 ^ m → reduced (suc m) v ≡ reduced m v
  reduced-one-more zero v h = ap (reduced 1) (lt-one h) ∙ reduced_zero 1
  reduced-one-more (suc m) v h = ap (λ (r : ℕ). division_step n g r (v % 2)) (reduced-one-more m (v / 2) (half_lt m v h))

  pub reduced-more : (m k v : ℕ) → v < 2 ^ m → reduced (m + k) v ≡ reduced m v
  reduced-more m zero v h = ap (λ (j : ℕ). reduced j v) (add-zero m)
  reduced-more m (suc k) v h =
      let e : m + suc k ≡ suc (m + k) = omega arith in
      let up : 2 ^ m ≤ 2 ^ (m + k) = pow_mono {i = m} {j = m + k} (omega arith) in
      ap (λ (j : ℕ). reduced j v) e ∙ reduced-one-more (m + k) v (omega arith) ∙ reduced-more m k v h

  -- a polynomial of degree below n is its own remainder
  pub reduced-small : (m v : ℕ) → m ≤ n → v < 2 ^ m → reduced m v ≡ v
  reduced-small zero v l h = sym (lt-one h)
  reduced-small (suc m) v l h =
      let up : 2 ^ suc m ≤ 2 ^ n = pow_mono {i = suc m} {j = n} l in
      let w : v / 2 * 2 + v % 2 ≡ v = div-add-mod' v 2 in
      ap (λ (r : ℕ). division_step n g r (v % 2)) (reduced-small m (v / 2) (omega arith) (half_lt m v h))
      ∙ division_step-small n g monic (v / 2) (v % 2) (omega arith) ∙ w

  module _ (top : g < 2 ^ suc n) where
    -- g itself leaves nothing
    reduced_divisor : reduced (suc n) g ≡ 0
    unfolding division_step
    reduced_divisor =
        let w : g / 2 * 2 + g % 2 ≡ g = div-add-mod' g 2 in
        let o : 1 * g ≡ g = omega arith in
        ap (λ (r : ℕ). division_step n g r (g % 2)) (reduced-small n (g / 2) (omega arith) (half_lt n g top))
        ∙ ap (λ (t : ℕ). bit_xor t (t / 2 ^ n * g)) w ∙ ap (λ (x : ℕ). bit_xor g (x * g)) monic ∙ ap (bit_xor g) o ∙ xor_self g

    reduced_digit : (k q : ℕ) → q < 2 → n ≤ k → (reduced (suc k) (q * g) ≡ 0) × (q * g < 2 ^ suc k)
    reduced_digit k q hq l =
        let up : 2 ^ suc n ≤ 2 ^ suc k = pow_mono {i = suc n} {j = suc k} (omega arith) in
        let z : 0 * g ≡ 0 = omega arith in
        let o : 1 * g ≡ g = omega arith in
        bit_cases (λ (x : ℕ). (reduced (suc k) (x * g) ≡ 0) × (x * g < 2 ^ suc k))
        (ap (reduced (suc k)) z ∙ reduced_zero (suc k), subst (λ (x : ℕ). x < 2 ^ suc k) (sym z) (pow_pos (suc k)))
        (ap (reduced (suc k)) o ∙ widen k l, subst (λ (x : ℕ). x < 2 ^ suc k) (sym o) (omega arith)) q hq
      where
        widen : (k : ℕ) → n ≤ k → reduced (suc k) g ≡ 0
        widen k l =
            let e : suc n + (k - n) ≡ suc k = omega arith in
            sym (ap (λ (j : ℕ). reduced j g) e) ∙ reduced-more (suc n) (k - n) g top ∙ reduced_divisor

    -- a product with g leaves nothing
    reduced-product : (k p : ℕ) (qs : List ℕ) → n ≤ k → p < 2 ^ k → reduced k p ≡ 0 → Bits qs
        → (reduced (k + length qs) (product_of g p qs) ≡ 0) × (product_of g p qs < 2 ^ (k + length qs))
    reduced-product k p [] l h e hq =
        let z : k + 0 ≡ k = add-zero k in
        (ap (λ (j : ℕ). reduced j p) z ∙ e, subst (λ (j : ℕ). p < 2 ^ j) (sym z) h)
    reduced-product k p (q ∷ qs) l h e hq =
        let d = reduced_digit k q hq.0 l in
        let z : p * 2 + 0 ≡ p * 2 = add-zero (p * 2) in
        let s : k + suc (length qs) ≡ suc k + length qs = omega arith in
        let b : p * 2 < 2 ^ suc k = omega (arith, pow-suc 2 k) in
        let r : reduced (suc k) (p * 2) ≡ 0 =
        ap (reduced (suc k)) (sym z) ∙ reduced-behind k p 0 (omega arith) ∙ ap (λ (x : ℕ). division_step n g x 0) e ∙ reduced_zero 1 in
        let t = reduced-product (suc k) (bit_xor (p * 2) (q * g)) qs (omega arith) (xor_lt (suc k) (p * 2) (q * g) b d.1)
        (reduced-xor (suc k) (p * 2) (q * g) ∙ ap₂ bit_xor r d.0) hq.1 in (
          ap (λ (j : ℕ). reduced j (product_of g p (q ∷ qs))) s ∙ t.0,
          subst (λ (j : ℕ). product_of g p (q ∷ qs) < 2 ^ j) (sym s) t.1,
        )

    -- bits that are a product with g plus r, of degree below n, have the remainder r
    pub remainder_unique : (bs qs : List ℕ) (r : ℕ) → Bits bs → Bits qs → r < 2 ^ n → value_of 0 bs ≡ bit_xor (product_of g 0 qs) r
        → remainder_by n g 0 bs ≡ r
    remainder_unique bs qs r hb hq hr e =
        let k : ℕ = n + length qs in
        let m : ℕ = length bs in
        let p = reduced-product n 0 qs (omega arith) (pow_pos n) (reduced_zero n) hq in
        let s : m + k ≡ k + m = add_comm m k in
        let t : n + (length qs + m) ≡ k + m = omega arith in
        sym (reduced-bits 0 0 bs hb) ∙ (let z : 0 + length bs ≡ m = omega arith in ap (λ (j : ℕ). reduced j (value_of 0 bs)) z)
        ∙ sym (reduced-more m k (value_of 0 bs) (number-below bs hb))
        ∙ ap₂ reduced s e
        ∙ reduced-xor (k + m) (product_of g 0 qs) r
        ∙ ap₂ bit_xor (reduced-more k m (product_of g 0 qs) p.1 ∙ p.0)
        (ap (λ (j : ℕ). reduced j r) (sym t) ∙ reduced-more n (length qs + m) r hr ∙ reduced-small n r (omega arith) hr)
