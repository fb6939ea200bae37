-- `gray::distance` meets its contract: std's magnitude is ours. Assumes nothing.
use mathlib.Core.Path.{ap, ◌∙◌}
use Rattle.gray.specs.Hard.{distance}
use Rattle.gray.proofs.Distances.{abs-is}
use Rattle.gray.proofs.distance.Goals as goal

pub returns : goal.returns
returns c = c.abs.ensures.value ∙ abs-is _ ∙ ap (distance c.args.x) c.axis_point.ensures
