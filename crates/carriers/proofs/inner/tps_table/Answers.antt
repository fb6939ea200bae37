-- `carriers::inner::tps_table` meets its contract: the test over the whole table, which antt computes, against the walk. Assumes nothing.
use Rattle.carriers.specs.Mode.{mode2k, tps2k}
use Rattle.carriers.specs.Count.{bin_of}
use Rattle.carriers.specs.Sequence.{step}
use Rattle.carriers.proofs.Facts.{facts2k}
use Rattle.carriers.proofs.Walk.{walk, tps-coded}
use Rattle.carriers.proofs.inner.tps_table.Goals as goal

pub returns : goal.returns
unfolding tps2k bin_of step walk
returns c = tps-coded mode2k facts2k
