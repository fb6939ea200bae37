-- The digits that `io` writes are those of the report, at most 20 for a number of 64 bits. Assumes nothing.
use Rattle.std.proofs.Common.{◌≡◌, ℕ, zero, suc, ◌+◌, ◌-◌, ◌*◌, ◌/◌, ◌%◌, ◌^◌, ◌<◌, ◌≤◌, List, [], ◌∷◌, ◌++◌, ap, ◌∙◌, subst, not-suc-le-zero, pow-suc, arith, le-ltb, lt-ltb}
use mathlib.Core.Path.{subst⁻¹}
use native.Mathlib.Nat.{one-le-pow, pow-le-pow_right}
use Rattle.io.specs.Digits.{last_digits, hex_digit_ascii, IsDigitCount}
use Rattle.report.specs.Text.{decimal_by, decimal}

glyph_is : (d : ℕ) → d < 10 → hex_digit_ascii d ≡ 48 + d
glyph_is d h = simp (lt-ltb d 10 h)

pred-more : (k : ℕ) → suc (suc k) - 1 ≡ suc k
pred-more k = omega arith

pred-less : (k : ℕ) → suc k - 1 ≡ k
pred-less k = omega arith

digits_decimal : (f k n : ℕ) → k ≤ f → 1 ≤ k → n < 10 ^ k → (1 < k → 10 ^ (k - 1) ≤ n) → last_digits 10 k n ≡ decimal_by f n
digits_decimal f zero n a b c d = absurd (not-suc-le-zero b)
digits_decimal zero (suc k) n a b c d = absurd (not-suc-le-zero a)
digits_decimal (suc f) (suc zero) n a b c d =
    let e : n % 10 ≡ n = omega arith in
    simp (lt-ltb n 10 c) (ap (λ (x : ℕ). x ∷ []) (glyph_is (n % 10) (omega arith) ∙ ap (λ (x : ℕ). 48 + x) e))
digits_decimal (suc f) (suc (suc k)) n a b c d =
    let p : 10 ^ suc (suc k) ≡ 10 ^ suc k * 10 = pow-suc 10 (suc k) in
    let q : 10 ^ suc k ≡ 10 ^ k * 10 = pow-suc 10 k in
    let o : 1 ≤ 10 ^ k = one-le-pow k 10 (omega arith) in
    let g : 10 ^ suc k ≤ n = subst (λ (x : ℕ). 10 ^ x ≤ n) (pred-more k) (d (omega arith)) in
    let h : 1 < suc k → 10 ^ (suc k - 1) ≤ n / 10 = λ h. subst⁻¹ (λ (x : ℕ). 10 ^ x ≤ n / 10) (pred-less k) (omega arith) in
    simp (le-ltb n 10 (omega arith))
    (ap (λ (l : List ℕ). l ++ (hex_digit_ascii (n % 10) ∷ [])) (digits_decimal f (suc k) (n / 10) (omega arith) (omega arith) (omega arith) h)
    ∙ ap (λ (x : ℕ). decimal_by f (n / 10) ++ (x ∷ [])) (glyph_is (n % 10) (omega arith)))

pub fewest_20 : (n k : ℕ) → n < 2 ^ 64 → IsDigitCount 10 1 n k → k ≤ 20
fewest_20 n k h f =
    let no : 21 ≤ k → ⊥ = λ q. omega (arith, f.2 (omega arith), pow-le-pow_right {n = 10} (omega arith) {i = 20} {j = k - 1} (omega arith)) in
    omega arith

pub digits_are_decimal : (n k : ℕ) → k ≤ 20 → IsDigitCount 10 1 n k → last_digits 10 k n ≡ decimal n
unfolding decimal
digits_are_decimal n k h f = digits_decimal 20 k n h f.0 f.1 f.2
