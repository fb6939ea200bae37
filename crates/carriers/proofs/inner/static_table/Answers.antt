-- `carriers::inner::static_table` meets its contract: the test over the whole table, which antt computes, against the walk. Assumes nothing.
use Rattle.carriers.specs.Mode.{mode2k, continual2k}
use Rattle.carriers.specs.Count.{bin_of}
use Rattle.carriers.specs.Reserved.{gaps}
use Rattle.carriers.proofs.Facts.{facts2k, static_walked}
use Rattle.carriers.proofs.inner.static_table.Goals as goal

pub returns : goal.returns
unfolding continual2k bin_of gaps
returns c = static_walked mode2k facts2k
