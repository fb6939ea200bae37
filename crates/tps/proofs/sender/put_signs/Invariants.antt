-- `tps::sender::put_signs` meets its contract: the cells are written from the output's front. Assumes nothing.
use mathlib.Core.Path.{◌≡◌}
use Prim.Native.Nat.{◌*◌}
use mathlib.Core.List.{map}
use lib.ListN.{length}
use Rattle.ground.proofs.Front.{front}
use Rattle.ground.specs.Cells.{flat}
use Rattle.tps.specs.Send.{sign_cell}
use Rattle.tps.proofs.sender.put_signs.Given as goal

abbrev pub invariant-loop-k : goal.invariant-loop-k
invariant-loop-k l = record {
  long : length l.out ≡ length l.initial.out;
  written : l.out ≡ front (flat (map sign_cell l.re-items)) (2 * l.k) l.initial.out;
}
