-- Document 01, 'Refusal numbers' and 'Pilot grid', over the C interface: the answers of the conversions and of the
-- boosted value as numbers, 0 for accepted; a refused call has the index 0, or the value +0.0, +0.0.
use Rattle.std.specs.Prelude.{◌≡◌, Result}
use Rattle.ground.specs.declared.Refusal.{Refusal}
use Rattle.ground.specs.declared.Cell.{Cell}
use Rattle.ground.specs.Refusal.{code}
use Rattle.ground.specs.Answer.{number_of}
use Rattle.carriers.specs.declared.Active.{Active}
use Rattle.carriers.specs.declared.Signed.{Signed}
use Rattle.carriers.specs.declared.Bin.{Bin}
use Rattle.carriers.specs.Answers.{active_index_of, signed_index_of, bin_index_of, boosted_cell_of}
use Rattle.saltkernel.specs.declared.SaltMapped.{SaltMapped}
use Rattle.saltkernel.specs.declared.pilots.SaltCarrier.{SaltCarrier}
use Rattle.saltkernel.specs.declared.pilots.SaltSigned.{SaltSigned}

-- the number and the index, or the value, are what the answer says
pub record SaysActive (r : SaltCarrier) (a : Result Active Refusal) : Type 0 where
  pub says_number : r.number ≡ code (number_of a)
  pub says_index : r.index ≡ active_index_of a

pub record SaysSigned (r : SaltSigned) (a : Result Signed Refusal) : Type 0 where
  pub says_number : r.number ≡ code (number_of a)
  pub says_index : r.index ≡ signed_index_of a

pub record SaysBin (r : SaltCarrier) (a : Result Bin Refusal) : Type 0 where
  pub says_number : r.number ≡ code (number_of a)
  pub says_index : r.index ≡ bin_index_of a

pub record SaysBoosted (r : SaltMapped) (a : Result Cell Refusal) : Type 0 where
  pub says_number : r.number ≡ code (number_of a)
  pub says_value : r.point ≡ boosted_cell_of a
