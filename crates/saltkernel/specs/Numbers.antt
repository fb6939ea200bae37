-- Document 01, 'Refusal numbers', over the C interface: an answer as numbers, 0 for accepted.
use Rattle.std.specs.Prelude.{◌≡◌, List, [], ◌∷◌, ◌++◌, ℕ, ◌-◌, Float, length, replicate, Result}
use Rattle.ground.specs.declared.Cell.{Cell}
use Rattle.ground.specs.declared.Refusal.{Refusal}
use Rattle.ground.specs.Refusal.{code}
use Rattle.ground.specs.Answer.{number_of, count_of}
use Rattle.ground.specs.Cells.{plus_zero}
use Rattle.dispersal.specs.declared.Fed.{Fed}
use Rattle.gray.specs.declared.Soft.{Soft}
use Rattle.gray.specs.Mapping.{map_number_of, map_coordinates_of}
use Rattle.gray.specs.Soft.{soft_number_of, soft_values_of}
use Rattle.saltkernel.specs.declared.SaltCounted.{SaltCounted}
use Rattle.saltkernel.specs.declared.SaltMapped.{SaltMapped}
use Rattle.saltkernel.specs.declared.whitener.SaltFed.{SaltFed}
use Rattle.saltkernel.specs.declared.constellation.SaltSoft.{SaltSoft}

-- the two numbers are what the answer says
pub record Says (r : SaltCounted) (a : Result ℕ Refusal) : Type 0 where
  pub says_number : r.number ≡ code (number_of a)
  pub says_count : r.count ≡ count_of a

-- the whitener and the two numbers are what the answer says
pub record SaysWhitened (r : SaltFed) (a : Fed) : Type 0 where
  pub says_whitener : r.whitener ≡ a.whitener
  pub says_answer : Says r.answer a.answer

-- the values, and +0.0 behind them up to n
abbrev pub padded_to : ℕ → List Float → List Float
padded_to n vs = vs ++ replicate (n - length vs) plus_zero

-- the number and the coordinates are what the answer says
pub record SaysPoint (r : SaltMapped) (a : Result Cell Refusal) : Type 0 where
  pub says_number : r.number ≡ code (map_number_of a)
  pub says_point : r.point.re ∷ r.point.im ∷ [] ≡ padded_to 2 (map_coordinates_of a)

-- the number, the count and the values are what the answer says
pub record SaysSoft (r : SaltSoft) (a : Result Soft Refusal) : Type 0 where
  pub says_number : r.number ≡ code (soft_number_of a)
  pub says_count : r.count ≡ length (soft_values_of a)
  pub says_values : r.values ≡ padded_to 6 (soft_values_of a)
