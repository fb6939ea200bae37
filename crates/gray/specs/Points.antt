-- Document 01, 'Gray mapping': over all 84 exact points hard demapping returns the bits, and every soft value is
-- positive for 0 and negative for 1.
use Rattle.std.specs.Prelude.{ℕ, ◌≤◌, Bool, true, false, ◌&&◌, cond, ◌≡◌, List, [], ◌∷◌, T, eqb, Float, length, Ok}
use Rattle.std.specs.Float.Ieee.{lt}
use Rattle.ground.specs.Answer.{written}
use Rattle.ground.specs.Cells.{plus_zero}
use Rattle.ground.specs.Refusal.{ACCEPTED}
use Rattle.gray.specs.Mapping.{cell_of, map_answer}
use Rattle.gray.specs.Hard.{demap_no, Demapped}
use Rattle.gray.specs.Soft.{soft_answer, soft_values_of}

-- a soft value is positive for the bit 0 and negative for the bit 1
abbrev pub sign_right : ℕ → Float → Bool
sign_right b v = cond (eqb b 0) (lt plus_zero v) (lt v plus_zero)

-- there is one for each bit, and it is so
abbrev pub signs_right : List ℕ → List Float → Bool
signs_right [] [] = true
signs_right [] (v ∷ s) = false
signs_right (b ∷ r) [] = false
signs_right (b ∷ r) (v ∷ s) = sign_right b v && signs_right r s

-- a group of bits has a point; hard demapping of that point into an output with room is accepted and leaves the bits;
-- and its soft values have the signs of the bits
pub record PointRight (bits : List ℕ) : Type 0 where
  pub x : Float
  pub y : Float
  pub point : map_answer bits ≡ Ok (cell_of x y)
  pub hard : (old new : List ℕ) → length bits ≤ length old → Demapped (cell_of x y) (length bits) old new
      → (demap_no (length bits) old ≡ ACCEPTED) × (new ≡ written bits old)
  pub signs : T (signs_right bits (soft_values_of (soft_answer (cell_of x y) (length bits))))
