-- `carriers::inner::data_row` meets its contract: the test over each whole row, which antt computes, against the walk. Assumes nothing.
use Prim.Native.Nat.{◌%◌}
use native.Mathlib.Omega.{arith}
use Rattle.carriers.specs.Mode.{mode2k, continual2k, tps2k}
use Rattle.carriers.specs.Count.{bin_of}
use Rattle.carriers.specs.Carriers.{every_twelfth, data_bins}
use Rattle.carriers.specs.Reserved.{gaps}
use Rattle.carriers.proofs.Made.{join}
use Rattle.carriers.proofs.Facts.{joined, tested, facts2k, data-walked}
use Rattle.carriers.proofs.Phases.{in_rows}
use Rattle.carriers.proofs.inner.data_row.Goals as goal

pub returns : goal.returns
unfolding continual2k tps2k bin_of every_twelfth gaps join joined tested facts2k
returns c =
    in_rows (data_bins mode2k) _ _ _ _ _ (data-walked mode2k facts2k 0 (omega arith)) (data-walked mode2k facts2k 1 (omega arith))
    (data-walked mode2k facts2k 2 (omega arith)) (data-walked mode2k facts2k 3 (omega arith)) (c.args.phase % 4) (omega arith)
