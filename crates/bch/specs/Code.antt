-- Document 01, 'TPS'; EN 300 744, 4.6.2.11: the code BCH(67,53). Generator 0x4377, systematic: 53 information bits,
-- then 14 of parity.
use Rattle.std.specs.Prelude.{◌≡◌, cond, List, [], ◌∷◌, ◌++◌, ℕ, suc, ◌≤◌, eqb, length, replicate}
use Rattle.ground.specs.Bits.{Bits}
use Rattle.ground.specs.Digits.{digits_of}
use Rattle.bch.specs.Polynomial.{division_step, remainder_by}

-- h(x) = x^14 + x^9 + x^8 + x^6 + x^5 + x^4 + x^2 + x + 1
abbrev pub GENERATOR : ℕ
GENERATOR = 0x4377

-- one step, and the whole, of the division by the generator
abbrev pub step : ℕ → ℕ → ℕ
step r b = division_step 14 GENERATOR r b

abbrev pub remainder_of : ℕ → List ℕ → ℕ
remainder_of r bs = remainder_by 14 GENERATOR r bs

-- the parity of the information: the remainder of the information times x^14
abbrev pub parity : List ℕ → ℕ
parity info = remainder_of 0 (info ++ replicate 14 0)

-- the information, and then its parity in 14 bits
abbrev pub encode : List ℕ → List ℕ
encode info = info ++ digits_of 14 (parity info)

-- a codeword: 67 bits whose polynomial the generator divides
pub record Codeword (w : List ℕ) : Type 0 where
  pub size : length w ≡ 67
  pub bits : Bits w
  pub divided : remainder_of 0 w ≡ 0

-- the places, counted from k, at which two lists of one length differ
abbrev pub places : ℕ → List ℕ → List ℕ → List ℕ
places k [] ys = []
places k (x ∷ xs) [] = []
places k (x ∷ xs) (y ∷ ys) = cond (eqb x y) (places (suc k) xs ys) (k ∷ places (suc k) xs ys)

-- the Hamming distance
abbrev pub distance : List ℕ → List ℕ → ℕ
distance xs ys = length (places 0 xs ys)

-- no codeword is within distance two of the bits w
abbrev pub Lone : List ℕ → Type 0
Lone w = (c : List ℕ) → Codeword c → distance c w ≤ 2 → ⊥
