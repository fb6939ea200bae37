-- The division by the generator: its steps, bits brought in one at a time, the remainders of the powers of x, and
-- that of 67 bits, which is their last 14 plus the parity of their first 53. Assumes nothing.
use mathlib.Core.Path.{◌≡◌, refl, sym, ap, ap₂, ◌∙◌}
use mathlib.Core.List.{List, [], ◌∷◌, ◌++◌}
use Prim.Native.Nat.{ℕ, zero, suc, ◌+◌, ◌*◌, ◌^◌, ◌<◌, ◌≤◌}
use native.Mathlib.Omega.{arith}
use lib.Bits.{bit_xor}
use lib.ListN.{length, replicate, take, drop, length-drop, take-append-drop}
use lib.Pow.{pow_mono}
use Rattle.ground.specs.Bits.{Bits}
use Rattle.ground.specs.Digits.{value_of}
use Rattle.ground.proofs.Bits.{bits-take, bits-drop}
use Rattle.ground.proofs.Digits.{grown}
use Rattle.bch.specs.Code.{GENERATOR, step, remainder_of, parity}
use Rattle.bch.specs.Search.{power}
use Rattle.bch.proofs.Division.{division_step-lt, division_step-xor, remainder_by-lt, remainder_by-xor, division_step-small}

pub step-lt : (r b : ℕ) → r < 2 ^ 14 → b < 2 → step r b < 2 ^ 14
step-lt = division_step-lt 14 GENERATOR refl

pub step-xor : (r s b c : ℕ) → r < 2 ^ 14 → s < 2 ^ 14 → b < 2 → c < 2 → step (bit_xor r s) (bit_xor b c) ≡ bit_xor (step r b) (step s c)
step-xor = division_step-xor 14 GENERATOR refl

pub remainder_lt : (r : ℕ) (bs : List ℕ) → r < 2 ^ 14 → Bits bs → remainder_of r bs < 2 ^ 14
remainder_lt = remainder_by-lt 14 GENERATOR refl

pub remainder_xor : (r s : ℕ) (bs : List ℕ) → r < 2 ^ 14 → s < 2 ^ 14 → Bits bs
    → remainder_of (bit_xor r s) bs ≡ bit_xor (remainder_of r bs) (remainder_of s (replicate (length bs) 0))
remainder_xor = remainder_by-xor 14 GENERATOR refl

-- at most 14 bits are their own remainder
pub remainder_small : (m s : ℕ) (bs : List ℕ) → s < 2 ^ m → Bits bs → m + length bs ≤ 14 → remainder_of s bs ≡ value_of s bs
remainder_small m s [] hs hb h = refl
remainder_small m s (b ∷ bs) hs hb h =
    let g = grown m s b hs hb.0 in
    let cap : 2 ^ suc m ≤ 2 ^ 14 = pow_mono {i = suc m} {j = 14} (omega arith) in
    ap (λ (r : ℕ). remainder_of r bs) (division_step-small 14 GENERATOR refl s b (omega arith)) ∙ remainder_small (suc m) (s * 2 + b) bs g hb.1 (omega arith)

pub remainder_append : (r : ℕ) (xs ys : List ℕ) → remainder_of r (xs ++ ys) ≡ remainder_of (remainder_of r xs) ys
remainder_append r [] ys = refl
remainder_append r (x ∷ xs) ys = remainder_append (step r x) xs ys

-- ---- the powers of x

remainder_step_zeros : (r n : ℕ) → remainder_of (step r 0) (replicate n 0) ≡ step (remainder_of r (replicate n 0)) 0
remainder_step_zeros r zero = refl
remainder_step_zeros r (suc n) = remainder_step_zeros (step r 0) n

pub power_remainder : (n : ℕ) → power n ≡ remainder_of 1 (replicate n 0)
power_remainder zero = refl
power_remainder (suc n) = ap (λ (r : ℕ). step r 0) (power_remainder n) ∙ sym (remainder_step_zeros 1 n)

pub power-lt : (n : ℕ) → power n < 2 ^ 14
power-lt zero = omega arith
power-lt (suc n) = step-lt (power n) 0 (power-lt n) (omega arith)

-- ---- 67 bits

-- their remainder: the last 14, plus the parity of the first 53
pub remainder_split : (w : List ℕ) → Bits w → length w ≡ 67 → remainder_of 0 w ≡ bit_xor (value_of 0 (drop 53 w)) (parity (take 53 w))
remainder_split w hb hl =
    let i : List ℕ = take 53 w in
    let p : List ℕ = drop 53 w in
    let lp : length p ≡ 14 = length-drop 53 w ∙ omega arith in
    let hp : Bits p = bits-drop 53 w hb in
    let hi : Bits i = bits-take 53 w hb in
    ap (remainder_of 0) (sym (take-append-drop 53 w))
    ∙ remainder_append 0 i p
    ∙ remainder_xor 0 (remainder_of 0 i) p (omega arith) (remainder_lt 0 i (omega arith) hi) hp
    ∙ ap₂ bit_xor (remainder_small 0 0 p (omega arith) hp (omega arith))
    (ap (λ (n : ℕ). remainder_of (remainder_of 0 i) (replicate n 0)) lp ∙ sym (remainder_append 0 i (replicate 14 0)))
