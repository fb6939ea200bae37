-- A number's low bits in the opposite order: what stands above them doesn't count, the highest becomes the lowest, and
-- twice is the number itself. Assumes nothing.
use Prim.Native.Nat.{ℕ, zero, suc, ◌+◌, ◌*◌, ◌/◌, ◌%◌, ◌^◌, ◌<◌, ◌≤◌}
use native.Mathlib.Nat.{not-suc-le-zero, le_of_suc-le-suc, pow-suc, mul_assoc, mul_comm, add-mul, zero-add}
use native.Mathlib.Omega.{arith}
use mathlib.Core.Path.{◌≡◌, refl, sym, ap, ap₂, ◌∙◌}
use lib.Arith.{digits_lt}
use lib.Bits.{block_half, block_odd}
use Rattle.ground.proofs.Xor.{odd}
use Rattle.std.specs.Int.{reverse_bits_onto}
use Rattle.dispersal.specs.Inner.{mirror}

pub mirror-lt : (n x : ℕ) → mirror n x < 2 ^ n
unfolding mirror
mirror-lt zero x = omega arith
mirror-lt (suc n) x = omega (arith, pow-suc 2 n, digits_lt (odd x) (mirror-lt n (x / 2)))

pub mirror-low : (n m o y : ℕ) → n ≤ m → mirror n (o * 2 ^ m + y) ≡ mirror n y
unfolding mirror
mirror-low zero m o y h = refl
mirror-low (suc n) zero o y h = absurd (not-suc-le-zero h)
mirror-low (suc n) (suc m) o y h =
    ap₂ (λ (a b : ℕ). a * 2 ^ n + b) (block_odd o m y) (ap (mirror n) (block_half o m y) ∙ mirror-low n m o (y / 2) (le_of_suc-le-suc h))

pub mirror_top : (n o y : ℕ) → o < 2 → y < 2 ^ n → mirror (suc n) (o * 2 ^ n + y) ≡ mirror n y * 2 + o
unfolding mirror
mirror_top zero o y ho hy = omega arith
mirror_top (suc n) o y ho hy =
    let a : ℕ = y % 2 * 2 ^ n in
    let e : y % 2 * 2 ^ suc n ≡ a * 2 = ap (λ (x : ℕ). y % 2 * x) (pow-suc 2 n) ∙ sym (mul_assoc (y % 2) (2 ^ n) 2) in
    ap₂ (λ (b c : ℕ). b * 2 ^ suc n + c) (block_odd o n y) (ap (mirror (suc n)) (block_half o n y) ∙ mirror_top n o (y / 2) ho (omega (arith, pow-suc 2 n)))
    ∙ omega arith

pub mirror-mirror : (n x : ℕ) → x < 2 ^ n → mirror n (mirror n x) ≡ x
unfolding mirror
mirror-mirror zero x h = omega arith
mirror-mirror (suc n) x h =
    mirror_top n (x % 2) (mirror n (x / 2)) (odd x) (mirror-lt n (x / 2))
    ∙ ap (λ (y : ℕ). y * 2 + x % 2) (mirror-mirror n (x / 2) (omega (arith, pow-suc 2 n)))
    ∙ omega arith

-- one bit more has been moved over
pub mirror-moves-one : (n t x : ℕ) → (t * 2 + x % 2) * 2 ^ n + mirror n (x / 2) ≡ t * 2 ^ suc n + mirror (suc n) x
unfolding mirror
mirror-moves-one n t x =
    let a : (t * 2 + x % 2) * 2 ^ n ≡ t * 2 * 2 ^ n + x % 2 * 2 ^ n = add-mul (t * 2) (x % 2) (2 ^ n) in
    let b : t * 2 * 2 ^ n ≡ t * 2 ^ suc n = mul_assoc t 2 (2 ^ n) ∙ ap (λ (y : ℕ). t * y) (mul_comm 2 (2 ^ n) ∙ sym (pow-suc 2 n)) in
    omega arith

-- a number's low bits as the standard library reverses them, and fifteen of them that are moved up by one, of sixteen
reversed_is_mirror : (n x t : ℕ) → reverse_bits_onto n x t ≡ t * 2 ^ n + mirror n x
unfolding reverse_bits_onto mirror
reversed_is_mirror zero x t = omega arith
reversed_is_mirror (suc n) x t = reversed_is_mirror n (x / 2) (t * 2 + x % 2) ∙ mirror-moves-one n t x

pub reversed_sixteen : (x : ℕ) → reverse_bits_onto 16 (x * 2) 0 ≡ mirror 15 x
unfolding mirror
reversed_sixteen x =
    let low : x * 2 % 2 ≡ 0 = omega arith in
    let high : x * 2 / 2 ≡ x = omega arith in
    let moved : mirror 16 (x * 2) ≡ mirror 15 x = ap₂ (λ (a b : ℕ). a * 2 ^ 15 + mirror 15 b) low high ∙ zero-add (mirror 15 x) in
    reversed_is_mirror 16 (x * 2) 0 ∙ zero-add (mirror 16 (x * 2)) ∙ moved
