-- The cases of the public functions' answers and of the lent output. Assumes nothing.
use Prim.Native.Nat.{ℕ}
use mathlib.Core.Path.{◌≡◌, refl}
use mathlib.Core.List.{List, [], ◌∷◌}
use lib.Ieee.{Float}
use Rattle.std.specs.Prelude.{Option, Result}
use Rattle.ground.specs.declared.Refusal.{Refusal}
use Rattle.ground.specs.Refusal.{ACCEPTED}
use Rattle.ground.specs.declared.Cell.{Cell}
use Rattle.ground.specs.declared.ConstellationOrder.{ConstellationOrder}
use Rattle.ground.specs.declared.ConstellationOrder.TheVariants.{Qpsk, Qam16, Qam64}
use Rattle.ground.proofs.Answers.{answer-says-number}
use Rattle.gray.specs.Levels.{order_of, axis_bits}
use Rattle.gray.specs.Mapping.{map_number_of, map_coordinates_of, cell_of, mapped}
use Rattle.gray.specs.Hard.{demap_answer, Demapped}
use Rattle.gray.specs.Soft.{softs_of, soft_at, values_of, soft_number_of, soft_values_of, soft_no, soft_answer}

-- ---- mapping
pub mapped-says-number : (number : Option Refusal) (x y : Float) → map_number_of (mapped number x y) ≡ number
mapped-says-number number x y = answer-says-number number (cell_of x y)

pub mapped_says_coordinates : (x y : Float) → map_coordinates_of (mapped ACCEPTED x y) ≡ x ∷ y ∷ []
mapped_says_coordinates x y = refl

-- ---- hard demapping

-- what the answer and the output are
abbrev pub Demaps : Cell → ℕ → List ℕ → Result ℕ Refusal → List ℕ → Type 0
Demaps cell v old r new = (r ≡ demap_answer v old) × Demapped cell v old new

-- ---- soft demapping
pub soft-says-number : (c : Cell) (v : ℕ) → soft_number_of (soft_answer c v) ≡ soft_no v
soft-says-number c v = answer-says-number (soft_no v) (soft_at (order_of v) c)

pub soft_values_at : (o : ConstellationOrder) (c : Cell) → values_of (soft_at o c) ≡ softs_of o c (axis_bits o)
soft_values_at Qpsk c = refl
soft_values_at Qam16 c = refl
soft_values_at Qam64 c = refl

pub soft_says_values : (c : Cell) (v : ℕ) → soft_no v ≡ ACCEPTED → soft_values_of (soft_answer c v) ≡ softs_of (order_of v) c (axis_bits (order_of v))
soft_says_values c v a = rw a (soft_values_at (order_of v) c)
