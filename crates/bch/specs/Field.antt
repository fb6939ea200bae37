-- Document 01, 'TPS': the field GF(128) by the polynomial x^7 + x^3 + 1. An element is a number below 128, whose
-- binary digits are the coefficients; the sum is XOR; the product is worked out by shifting and adding. No public
-- promise cites this file; that the codewords are the 67 bits that vanish at x and at x^3 is the theorem
-- `codeword-vanishes`.
use Rattle.std.specs.Prelude.{◌≡◌, List, [], ◌∷◌, ℕ, zero, suc, ◌*◌, ◌/◌, ◌%◌, ◌^◌, length}
use Rattle.std.specs.Int.Bits.{bit_xor}
use Rattle.bch.specs.Polynomial.{division_step}

-- x^7 + x^3 + 1
abbrev pub FIELD : ℕ
FIELD = 0x89

-- an element times x
unfoldable pub times_x : ℕ → ℕ
times_x a = division_step 7 FIELD a 0

-- Horner's rule: a times the polynomial of the n low binary digits of b, where f is the product by the point
abbrev pub horner : (ℕ → ℕ) → ℕ → ℕ → ℕ → ℕ
horner f zero a b = 0
horner f (suc n) a b = bit_xor (f (horner f n a (b / 2))) (b % 2 * a)

-- the product of two elements; of a number above 127 the low seven digits count
unfoldable pub mul : ℕ → ℕ → ℕ
mul a b = horner times_x 7 (a % 2 ^ 7) b

-- an element times x^k
abbrev pub times_power : ℕ → ℕ → ℕ
times_power zero a = a
times_power (suc k) a = times_x (times_power k a)

-- an element times x^2, x^3, x^4
abbrev pub times_x2 : ℕ → ℕ
times_x2 a = times_x (times_x a)

abbrev pub times_x3 : ℕ → ℕ
times_x3 a = times_x (times_x2 a)

abbrev pub times_x4 : ℕ → ℕ
times_x4 a = times_x2 (times_x2 a)

-- the syndromes S1 and S3: the polynomial of the 14 digits of a remainder, at x and at x^3
unfoldable pub syndrome1 : ℕ → ℕ
syndrome1 s = horner times_x 14 1 s

unfoldable pub syndrome3 : ℕ → ℕ
syndrome3 s = horner times_x3 14 1 s

-- ---- polynomials at an element

-- the element x, and an element to the n
abbrev pub X : ℕ
X = 2

abbrev pub raised : ℕ → ℕ → ℕ
raised p zero = 1
raised p (suc n) = mul p (raised p n)

-- the polynomial of a list of bits, highest degree first, at the element p
abbrev pub polynomial_at : ℕ → List ℕ → ℕ
polynomial_at p [] = 0
polynomial_at p (b ∷ bs) = bit_xor (b * raised p (length bs)) (polynomial_at p bs)

-- it is zero at x and at x^3
abbrev pub Vanishes : List ℕ → Type 0
Vanishes bs = (polynomial_at X bs ≡ 0) × (polynomial_at (raised X 3) bs ≡ 0)
