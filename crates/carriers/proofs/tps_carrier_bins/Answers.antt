-- `carriers::tps_carrier_bins` meets its contract: each number of the table is named. Assumes nothing.
use borrow.Author.Rules.{rules}
use mathlib.Core.Path.{refl}
use Rattle.carriers.specs.Mode.{tps2k}
use Rattle.carriers.specs.Carriers.{tps_bins}
use Rattle.carriers.proofs.Named.{named}
use Rattle.carriers.proofs.tps_carrier_bins.Goals as goal

pub returns : goal.returns
unfolding tps2k tps_bins
returns c = named _ _ (λ n. record { 0 = n }) _ _ _ _ 0 c.tps_carrier_bins.ensures refl c.map.ensures.items (λ p x y q r. search rules)
