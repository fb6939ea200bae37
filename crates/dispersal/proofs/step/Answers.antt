-- `dispersal::step` meets its contract: the sum is the definition's own. Assumes nothing.
use borrow.Author.Rules.{rules}
use Rattle.dispersal.specs.Register.{output, step}
use Rattle.dispersal.proofs.step.Goals as goal

pub returns : goal.returns
unfolding step output
returns c = search rules
