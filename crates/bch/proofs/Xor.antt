-- XOR of numbers: it cancels, and low digits, shifts and products by a digit pass through it. Assumes nothing.
use mathlib.Core.Path.{◌≡◌, refl, sym, ap, ap₂, ◌∙◌}
use Prim.Native.Nat.{ℕ, ◌+◌, ◌*◌, ◌%◌, ◌^◌, ◌<◌}
use native.Mathlib.Nat.{add-zero}
use native.Mathlib.Omega.{arith}
use lib.Bits.{bit_xor, differ, xor_block, xor_zero_r, xor_comm, xor_self}
use lib.Pow.{pow_pos}
use Rattle.ground.proofs.Xor.{odd, differ-odd, bit_cases, xor-again, xor_assoc}

differ_is : (x y : ℕ) → x < 2 → y < 2 → differ x y ≡ bit_xor x y
differ_is x y hx hy =
    bit_cases (λ (p : ℕ). differ p y ≡ bit_xor p y) refl
    (bit_cases (λ (q : ℕ). differ 1 q ≡ bit_xor 1 q) refl refl y hy) x hx

pub xor-odd : (a b : ℕ) → bit_xor a b % 2 ≡ bit_xor (a % 2) (b % 2)
xor-odd a b = differ-odd a b ∙ differ_is (a % 2) (b % 2) (odd a) (odd b)

-- (a + b) + (c + d) = (a + c) + (b + d)
pub xor_swap : (a b c d : ℕ) → bit_xor (bit_xor a b) (bit_xor c d) ≡ bit_xor (bit_xor a c) (bit_xor b d)
xor_swap a b c d =
    xor_assoc a b (bit_xor c d)
    ∙ ap (bit_xor a) (sym (xor_assoc b c d) ∙ ap (λ (x : ℕ). bit_xor x d) (xor_comm b c) ∙ xor_assoc c b d)
    ∙ sym (xor_assoc a c (bit_xor b d))

-- a number added twice goes away, at the front, in the middle, and where the sum is zero
pub xor-front : (b d : ℕ) → bit_xor b (bit_xor b d) ≡ d
xor-front b d = sym (xor_assoc b b d) ∙ ap (λ (x : ℕ). bit_xor x d) (xor_self b)

pub xor-middle : (a b d : ℕ) → bit_xor (bit_xor a b) (bit_xor b d) ≡ bit_xor a d
xor-middle a b d = xor_assoc a b (bit_xor b d) ∙ ap (bit_xor a) (xor-front b d)

pub xor_zero_eq : (a b : ℕ) → bit_xor a b ≡ 0 → a ≡ b
xor_zero_eq a b e = sym (xor-again a b) ∙ ap (λ (x : ℕ). bit_xor x b) e

-- a shift passes through
pub xor-shift : (k a b : ℕ) → bit_xor a b * 2 ^ k ≡ bit_xor (a * 2 ^ k) (b * 2 ^ k)
xor-shift k a b =
    let e : (x : ℕ) → x * 2 ^ k + 0 ≡ x * 2 ^ k = λ x. add-zero (x * 2 ^ k) in
    sym (ap₂ bit_xor (sym (e a)) (sym (e b)) ∙ xor_block k a b 0 0 (pow_pos k) (pow_pos k) ∙ e (bit_xor a b))

-- a sum of two digits times a number
pub digits_times : (p q m : ℕ) → p < 2 → q < 2 → bit_xor p q * m ≡ bit_xor (p * m) (q * m)
digits_times p q m hp hq =
    bit_cases (λ (x : ℕ). bit_xor x q * m ≡ bit_xor (x * m) (q * m)) (zero_case q)
    (bit_cases (λ (y : ℕ). bit_xor 1 y * m ≡ bit_xor (1 * m) (y * m)) (one_zero) (one-one) q hq) p hp
  where
    zero_case : (q : ℕ) → bit_xor 0 q * m ≡ bit_xor (0 * m) (q * m)
    zero_case q = let e : 0 * m ≡ 0 = omega arith in ap (λ (x : ℕ). bit_xor x (q * m)) (sym e)

    one_zero : bit_xor 1 0 * m ≡ bit_xor (1 * m) (0 * m)
    one_zero = let e : 0 * m ≡ 0 = omega arith in sym (ap (bit_xor (1 * m)) e ∙ xor_zero_r (1 * m))

    one-one : bit_xor 1 1 * m ≡ bit_xor (1 * m) (1 * m)
    one-one = let e : 0 * m ≡ 0 = omega arith in e ∙ sym (xor_self (1 * m))

-- a digit times a sum of two numbers
pub digit_times_xor : (d a c : ℕ) → d < 2 → d * bit_xor a c ≡ bit_xor (d * a) (d * c)
digit_times_xor d a c hd =
    bit_cases (λ (x : ℕ). x * bit_xor a c ≡ bit_xor (x * a) (x * c))
    (let e : (y : ℕ) → 0 * y ≡ 0 = λ y. omega arith in e (bit_xor a c) ∙ sym (ap₂ bit_xor (e a) (e c)))
    (let e : (y : ℕ) → 1 * y ≡ y = λ y. omega arith in e (bit_xor a c) ∙ sym (ap₂ bit_xor (e a) (e c))) d hd
