-- `carriers::next` meets its contract: it is the definition's own step, and stays in 11 bits. Assumes nothing.
use mathlib.Core.Path.{refl}
use Rattle.carriers.specs.Sequence.{step}
use Rattle.carriers.proofs.Sequence.{step-lt}
use Rattle.carriers.proofs.next.Goals as goal

pub returns : goal.returns
unfolding step
returns c = (refl, step-lt c.args.register)
