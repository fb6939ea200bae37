-- EN 300 744, 4.3.4.2: the permutation H of the symbol interleaver. A shift register R' runs; the wires carry its bits
-- to the bits of R; an address is R and, in odd steps, one bit above it; the addresses that are places make up H, in
-- their order.
use Rattle.std.specs.Prelude.{◌≡◌, cond, List, [], ◌∷◌, ℕ, zero, suc, ◌+◌, ◌-◌, ◌*◌, ◌/◌, ◌%◌, ◌^◌}
use Rattle.std.specs.Prelude.{◌<◌, ltb}
use Rattle.std.specs.Prelude.{length, get_or}
use Rattle.std.specs.Int.Bits.{bit_xor}

-- what a transmission mode fixes
pub record Interleaver : Type 0 where
  -- the bits of the register R'
  pub bits : ℕ
  -- those whose XOR enters as its highest bit
  pub taps : List ℕ
  -- the bits of R that the bits of R' become, from the highest bit of R' down
  pub wires : List ℕ
  -- the places, which are the data cells of a symbol
  pub places : ℕ

-- the 2K mode
abbrev pub interleaver2k : Interleaver
interleaver2k =
    record {
      bits = 10;
      taps = 0 ∷ 3 ∷ [];
      wires = 0 ∷ 7 ∷ 5 ∷ 1 ∷ 8 ∷ 2 ∷ 6 ∷ 9 ∷ 3 ∷ 4 ∷ [];
      places = 1512;
    }

-- bit i of x
abbrev pub bit : ℕ → ℕ → ℕ
bit i x = x / 2 ^ i % 2

-- the XOR of some bits of x
unfoldable pub tapped : List ℕ → ℕ → ℕ
tapped [] x = 0
tapped (i ∷ taps) x = bit_xor (bit i x) (tapped taps x)

-- the bits of x, as many as there are wires, each carried to the bit that its wire names
unfoldable pub wired : List ℕ → ℕ → ℕ
wired [] x = 0
wired (w ∷ wires) x = bit (length wires) x * 2 ^ w + wired wires x

module _ (m : Interleaver) where
  -- the register shifted right, the XOR of its taps entering as its highest bit
  unfoldable pub step : ℕ → ℕ
  step x = x / 2 + tapped m.taps x * 2 ^ (m.bits - 1)

  -- the register R' in step i
  unfoldable pub register : ℕ → ℕ
  register zero = 0
  register (suc zero) = 0
  register (suc (suc zero)) = 1
  register (suc (suc (suc i))) = step (register (suc (suc i)))

  -- the address of step i where the register is x
  unfoldable pub address : ℕ → ℕ → ℕ
  address i x = i % 2 * 2 ^ m.bits + wired m.wires x

  -- a list with a in front of it, where that is a place
  abbrev pub placed : ℕ → List ℕ → List ℕ
  placed a l = cond (ltb a m.places) (a ∷ l) l

  -- the places among the addresses of the n steps from i on
  unfoldable pub places_from : ℕ → ℕ → List ℕ
  places_from i zero = []
  places_from i (suc n) = placed (address i (register i)) (places_from (suc i) n)

  -- H, from all steps, of which there are two for each number of the register
  unfoldable pub permutation : List ℕ
  permutation = places_from 0 (2 * 2 ^ m.bits)

  -- H(q)
  abbrev pub place : ℕ → ℕ
  place q = get_or permutation q 0

  -- p is a place once: that of cell `at` and of no other
  pub record Once (p : ℕ) : Type 0 where
    pub at : ℕ
    pub within : at < m.places
    pub there : place at ≡ p
    pub only : (q : ℕ) → q < m.places → place q ≡ p → q ≡ at
