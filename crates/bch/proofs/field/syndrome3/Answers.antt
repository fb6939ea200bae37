-- `bch::field::syndrome3` meets its contract. Assumes nothing.
use Rattle.bch.specs.Field.{syndrome3}
use Rattle.bch.proofs.field.syndrome3.Goals as goal

pub returns : goal.returns
unfolding syndrome3
returns c = c.sum_at.ensures
