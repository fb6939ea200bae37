-- `carriers::continual_pilot_bins` meets its contract: each number of the table is named. Assumes nothing.
use borrow.Author.Rules.{rules}
use mathlib.Core.Path.{refl}
use Rattle.carriers.specs.Mode.{continual2k}
use Rattle.carriers.specs.Carriers.{continual_bins}
use Rattle.carriers.proofs.Named.{named}
use Rattle.carriers.proofs.continual_pilot_bins.Goals as goal

pub returns : goal.returns
unfolding continual2k continual_bins
returns c = named _ _ (λ n. record { 0 = n }) _ _ _ _ 0 c.continual_pilot_bins.ensures refl c.map.ensures.items (λ p x y q r. search rules)
