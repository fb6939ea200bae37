-- Document 01, 'TPS' and 'Refusal numbers', and document 02, E1, over the C interface: the decoder's promise, with its
-- answer as numbers; a refused call has no mended bit.
use Rattle.std.specs.Prelude.{◌≡◌, List, ℕ, Ok, Err}
use Rattle.ground.specs.Refusal.{code}
use Rattle.bch.specs.declared.Mended.{Mended}
use Rattle.bch.specs.Promise.{Decoded, decoded_number, mended_in, Decodes}
use Rattle.saltkernel.specs.declared.codes.SaltDecoded.{SaltDecoded}

-- mended bits by three numbers
abbrev pub mended_by : ℕ → ℕ → ℕ → Mended
mended_by count first second = record { count = count; first = first; second = second }

-- how many information bits an answer writes
abbrev pub bits_written : Decoded → ℕ
bits_written (Ok mended) = 53
bits_written (Err refusal) = 0

-- the numbers are what the answer says
pub record SaysDecoded (r : SaltDecoded) (a : Decoded) : Type 0 where
  pub says_number : r.number ≡ code (decoded_number a)
  pub says_count : r.count ≡ bits_written a
  pub says_mended : mended_by r.mended r.first r.second ≡ mended_in a

-- the numbers say an answer that meets the decoder's promise: of the bits w, what stood in the lent output, and what
-- is left there
pub record DecodesAs (w before : List ℕ) (r : SaltDecoded) (after : List ℕ) : Type 0 where
  pub answer : Decoded
  pub says : SaysDecoded r answer
  pub decodes : Decodes w before answer after
