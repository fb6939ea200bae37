-- `tps::sender::tps_reference_signs` meets its contract: its signs are those of the pilot sequence, computed at the TPS
-- carriers. Assumes nothing.
use mathlib.Core.Path.{refl}
use lib.Ieee.{of_bits, neg}
use Rattle.carriers.specs.Mode.{tps2k}
use Rattle.carriers.specs.Sequence.{step, register, wk}
use Rattle.tps.specs.Send.{sign_of, start_signs}
use Rattle.tps.proofs.sender.tps_reference_signs.Goals as goal

pub returns : goal.returns
unfolding of_bits neg sign_of start_signs tps2k step register wk
returns c = refl
