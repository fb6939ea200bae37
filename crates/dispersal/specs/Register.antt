-- Document 01, 'Energy dispersal' (EN 300 744, 4.3.1): the register of 15 bits, and the whitening of bytes.
use Rattle.std.specs.Prelude.{List, [], ◌∷◌, ℕ, zero, suc, ◌+◌, ◌*◌, ◌/◌, ◌%◌, ◌^◌}
use Rattle.std.specs.Int.Bits.{bit_xor}

-- the register's start: 100101010000000
abbrev pub start : ℕ
start = 0x4A80

-- the output bit is bit 0 XOR bit 1
unfoldable pub output : ℕ → ℕ
output r = bit_xor (r % 2) (r / 2 % 2)

-- a step: a right shift, and the output bit re-enters at bit 14
unfoldable pub step : ℕ → ℕ
step r = output r * 2 ^ 14 + r / 2

-- n steps
unfoldable pub steps : ℕ → ℕ → ℕ
steps zero r = r
steps (suc n) r = steps n (step r)

-- the next k output bits as a number, the first one highest
unfoldable pub outputs : ℕ → ℕ → ℕ
outputs zero r = 0
outputs (suc k) r = output r * 2 ^ k + outputs k (step r)

-- bytes whitened from the register r on, high bit first
unfoldable pub whitened : ℕ → List ℕ → List ℕ
whitened r [] = []
whitened r (b ∷ bs) = bit_xor b (outputs 8 r) ∷ whitened (steps 8 r) bs
