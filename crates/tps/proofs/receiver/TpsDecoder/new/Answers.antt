-- `tps::receiver::TpsDecoder::new` meets its contract. Assumes nothing.
use mathlib.Core.Path.{refl}
use Rattle.ground.specs.Cells.{plus_zero}
use Rattle.tps.proofs.receiver.TpsDecoder.new.Goals as goal

pub returns : goal.returns
unfolding plus_zero
returns c = refl
