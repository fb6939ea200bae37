-- `carriers::inner::reference_row` meets its contract: the test over each whole row, which antt computes, against the walk. Assumes nothing.
use mathlib.Core.List.{map}
use Prim.Native.Nat.{ℕ, ◌%◌}
use native.Mathlib.Omega.{arith}
use Rattle.carriers.specs.Mode.{mode2k, continual2k, tps2k}
use Rattle.carriers.specs.Count.{bin_of}
use Rattle.carriers.specs.Sequence.{step}
use Rattle.carriers.specs.Carriers.{every_twelfth, reference_actives}
use Rattle.carriers.specs.Reserved.{without}
use Rattle.carriers.specs.Pilots.{coded}
use Rattle.carriers.proofs.Made.{join}
use Rattle.carriers.proofs.Facts.{joined, tested, facts2k}
use Rattle.carriers.proofs.Walk.{walk, reference_coded}
use Rattle.carriers.proofs.Phases.{in_rows}
use Rattle.carriers.proofs.inner.reference_row.Goals as goal

pub returns : goal.returns
unfolding continual2k tps2k bin_of step every_twelfth without join joined tested facts2k walk
returns c =
    in_rows (λ (q : ℕ). map (coded mode2k) (reference_actives mode2k q)) _ _ _ _ _ (reference_coded mode2k facts2k 0 (omega arith))
    (reference_coded mode2k facts2k 1 (omega arith)) (reference_coded mode2k facts2k 2 (omega arith))
    (reference_coded mode2k facts2k 3 (omega arith)) (c.args.phase % 4) (omega arith)
