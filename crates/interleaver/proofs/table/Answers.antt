-- `interleaver::table` meets its contract: the test over the whole table, which antt computes, against the walk. Assumes nothing.
use Rattle.interleaver.specs.Permutation.{interleaver2k, tapped, wired, step, address}
use Rattle.interleaver.proofs.Walk.{next, walk, walked, walked_is_permutation}
use Rattle.interleaver.proofs.table.Goals as goal

pub returns : goal.returns
unfolding tapped wired step address next walk walked
returns c = walked_is_permutation interleaver2k
