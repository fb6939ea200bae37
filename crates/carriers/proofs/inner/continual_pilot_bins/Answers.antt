-- `carriers::inner::continual_pilot_bins` meets its contract: the test over the whole table, which antt computes. Assumes nothing.
use mathlib.Core.Path.{refl}
use Rattle.carriers.specs.Mode.{continual2k}
use Rattle.carriers.specs.Count.{bin_of}
use Rattle.carriers.specs.Carriers.{continual_bins}
use Rattle.carriers.proofs.inner.continual_pilot_bins.Goals as goal

pub returns : goal.returns
unfolding continual2k bin_of continual_bins
returns c = refl
