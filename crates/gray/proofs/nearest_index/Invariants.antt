-- `gray::nearest_index` meets its contract: of the indices so far it has the first with the least distance. Assumes nothing.
use mathlib.Core.Path.{◌≡◌}
use Rattle.gray.specs.Inner.{distance_at, FirstBelow}
use Rattle.gray.proofs.nearest_index.Given as goal

abbrev pub invariant-loop-index : goal.invariant-loop-index
invariant-loop-index l = record { found : FirstBelow l.order l.x l.index l.nearest; apart : l.least ≡ distance_at l.order l.x l.nearest }
