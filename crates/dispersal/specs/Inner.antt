-- What the helpers' contracts say. No public promise rests on these.
use Rattle.std.specs.Prelude.{◌≡◌, List, [], ◌∷◌, ℕ, zero, suc, ◌+◌, ◌*◌, ◌/◌, ◌%◌, ◌^◌, ◌≤◌}
use Rattle.std.specs.Prelude.{length, take}
use Rattle.std.specs.Int.Bits.{bit_xor}
use Rattle.dispersal.specs.Register.{start, steps, outputs}

-- the low n bits of x in the opposite order
unfoldable pub mirror : ℕ → ℕ → ℕ
mirror zero x = 0
mirror (suc n) x = x % 2 * 2 ^ n + mirror n (x / 2)

-- the register's outputs from r on, eight a byte: n bytes
unfoldable pub stream : ℕ → ℕ → List ℕ
stream zero r = []
stream (suc n) r = outputs 8 r ∷ stream n (steps 8 r)

-- the bytes s, each XORed with the one at its place in m
unfoldable pub xored : List ℕ → List ℕ → List ℕ
xored [] m = []
xored (b ∷ s) [] = b ∷ s
xored (b ∷ s) (x ∷ m) = bit_xor b x ∷ xored s m

-- 120 bytes or more, of which the first 120 are the outputs from the start on
pub record Begun (s : List ℕ) : Type 0 where
  pub long : 120 ≤ length s
  pub first : take 120 s ≡ stream 120 start
