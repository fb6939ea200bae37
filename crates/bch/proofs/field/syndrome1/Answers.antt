-- `bch::field::syndrome1` meets its contract. Assumes nothing.
use Rattle.bch.specs.Field.{syndrome1}
use Rattle.bch.proofs.field.syndrome1.Goals as goal

pub returns : goal.returns
unfolding syndrome1
returns c = c.sum_at.ensures
