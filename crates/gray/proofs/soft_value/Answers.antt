-- `gray::soft_value` meets its contract: both terms are the least. Assumes nothing.
use Rattle.gray.specs.Soft.{soft}
use Rattle.gray.proofs.soft_value.Goals as goal

pub returns : goal.returns
unfolding soft
returns c = cc
