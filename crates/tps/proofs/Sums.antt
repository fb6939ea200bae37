-- A sum of n ones, or of n minus ones, in order from +0.0 in f32: exact up to 2^24, and so below zero exactly where
-- they are minus ones. Assumes nothing.
use mathlib.Core.Path.{◌≡◌, refl, sym, ap, ◌∙◌, subst}
use mathlib.Core.Bool.{Bool, true, false}
use Prim.Native.Nat.{ℕ, zero, suc, ◌+◌, ◌*◌, ◌^◌, ◌<◌, ◌≤◌}
use native.Mathlib.Nat.{not-suc-le-zero, mul-pos}
use native.Mathlib.Omega.{arith}
use borrow.Author.Tests.{lt-ltb, le-ltb}
use lib.IntN.{pos}
use lib.Ieee.{Float, nan, inf, fin, binary32, of_bits, up, down, sum, round, add, lt}
use lib.Ieee.Exact.{HasValue}
use lib.Ieee.Fits.{down_pos}
use lib.Ieee.Scale.{round_same}
use lib.Ieee.Back.{round_whole}
use Rattle.ground.specs.Cells.{plus_zero}

-- 1, and -1 where the sign is set
abbrev pub one : Bool → Float
one b = fin b 1 (pos 0)

-- x is the sum of n of them
abbrev pub Total : Bool → ℕ → Float → Type 0
Total b zero x = x ≡ plus_zero
Total b (suc n) x = HasValue x b (suc n) 1

first_one : (b : Bool) → HasValue (add binary32 plus_zero (one b)) b 1 1
unfolding plus_zero of_bits add
first_one true = (refl, refl)
first_one false = (refl, refl)

same-signs : (b : Bool) (x y c : ℕ) → sum binary32 b x b y c ≡ round binary32 b (x + y) c
unfolding sum
same-signs true x y c = refl
same-signs false x y c = refl

-- one more
pub total-next : (b : Bool) (n : ℕ) (x : Float) → Total b n x → suc n ≤ 2 ^ 24 → Total b (suc n) (add binary32 x (one b))
unfolding add
total-next b zero x h l = subst (λ (y : Float). HasValue (add binary32 y (one b)) b 1 1) (sym h) (first_one b)
total-next b (suc n) nan h l = absurd h
total-next b (suc n) (inf t) h l = absurd h
total-next b (suc n) (fin t m e) h l =
    let s : sum binary32 t (m * up e * 1) b (1 * 1 * down e) (down e * 1) ≡ round binary32 b (suc (suc n)) 1 =
    ap (λ (u : Bool). sum binary32 u (m * up e * 1) b (1 * 1 * down e) (down e * 1)) h.0
    ∙ same-signs b (m * up e * 1) (1 * 1 * down e) (down e * 1)
    ∙ round_same binary32 b (m * up e * 1 + 1 * 1 * down e) (down e * 1) (suc (suc n)) 1 (omega (arith, down_pos e)) (omega arith) (omega (arith, h.1)) in
    subst (λ (y : Float). HasValue y b (suc (suc n)) 1) (sym s) (round_whole binary32 b (suc (suc n)) l)

-- it is below zero where the ones are negative, and nowhere else
pub total-below : (b : Bool) (n : ℕ) (x : Float) → 0 < n → Total b n x → lt x plus_zero ≡ b
unfolding plus_zero of_bits lt
total-below b zero x h k = absurd (not-suc-le-zero h)
total-below b (suc n) nan h k = absurd k
total-below b (suc n) (inf t) h k = absurd k
total-below b (suc n) (fin true m e) h k =
    let p : 0 < suc n * down e = mul-pos h (down_pos e) in
    lt-ltb 0 (m * up e * 1 + 0 * 1 * down e) (omega (arith, k.1, p)) ∙ k.0
total-below b (suc n) (fin false m e) h k = le-ltb (m * up e * 1) (0 * 1 * down e) (omega arith) ∙ k.0
