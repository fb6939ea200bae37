-- `carriers::continual_pilot_indices` meets its contract: each number of the table is named. Assumes nothing.
use borrow.Author.Rules.{rules}
use mathlib.Core.Path.{refl}
use Rattle.carriers.specs.Mode.{continual2k}
use Rattle.carriers.proofs.Named.{named}
use Rattle.carriers.proofs.continual_pilot_indices.Goals as goal

pub returns : goal.returns
unfolding continual2k
returns c = named _ _ (λ n. record { 0 = n }) _ _ _ _ 0 c.continual_pilot_indices.ensures refl c.map.ensures.items (λ p x y q r. search rules)
