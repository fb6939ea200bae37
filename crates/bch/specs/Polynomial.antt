-- Document 01, 'TPS'; EN 300 744, 4.6.2.11: polynomials over GF(2), of which the code and the field are made, and
-- their division. A polynomial is a number, whose binary digit k is the coefficient of x^k, or a list of bits,
-- highest degree first. The sum is XOR.
use Rattle.std.specs.Prelude.{List, [], ◌∷◌, ◌++◌, replicate, ℕ, zero, suc, ◌+◌, ◌*◌, ◌/◌, ◌%◌, ◌^◌}
use Rattle.std.specs.Int.Bits.{bit_xor}

-- the product of g and the polynomial of a list of bits, behind a product p: shifted, and added without carry
abbrev pub product_of : ℕ → ℕ → List ℕ → ℕ
product_of g p [] = p
product_of g p (q ∷ qs) = product_of g (bit_xor (p * 2) (q * g)) qs

-- one step of long division by g, of degree n: the next bit is brought down behind r, and g taken off where the
-- degree n is reached
unfoldable pub division_step : ℕ → ℕ → ℕ → ℕ → ℕ
division_step n g r b = bit_xor (r * 2 + b) ((r * 2 + b) / 2 ^ n * g)

-- long division by g, of degree n: the remainder of a list of bits, behind a remainder r
abbrev pub remainder_by : ℕ → ℕ → ℕ → List ℕ → ℕ
remainder_by n g r [] = r
remainder_by n g r (b ∷ bs) = remainder_by n g (division_step n g r b) bs

-- the degrees below n of a polynomial's terms, in rising order: each as often as its binary digit says
abbrev pub degrees_of : ℕ → ℕ → List ℕ
degrees_of zero v = []
degrees_of (suc n) v = degrees_of n v ++ replicate (v / 2 ^ n % 2) n

-- a polynomial with its high part h folded down: low + h + h x^j + .. over the j of a list
abbrev pub joined : ℕ → List ℕ → ℕ → ℕ
joined low [] h = low
joined low (j ∷ js) h = joined (bit_xor low (h * 2 ^ j)) js h

abbrev pub folded : List ℕ → ℕ → ℕ → ℕ
folded js low h = joined (bit_xor low h) js h
