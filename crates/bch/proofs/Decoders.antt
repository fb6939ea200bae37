-- Document 02, E7: the fast decoder and the slow one answer and leave the same for every input, refusals and mended
-- places included, since both promise `Decodes`, which one result alone meets. Assumes nothing.
use mathlib.Core.Path.{◌≡◌}
use mathlib.Core.List.{List}
use Prim.Native.Nat.{ℕ}
use Rattle.bch.specs.Promise.{Decoded, Decodes}
use Rattle.bch.proofs.Determined.{decode_determined}

pub slow_is_fast : (w o a b : List ℕ) (fast slow : Decoded) → Decodes w o fast a → Decodes w o slow b → (fast ≡ slow) × (a ≡ b)
slow_is_fast = decode_determined
