-- `ts::put_null_packets` meets its contract: at each turn one null packet more stands at the front. Assumes nothing.
use mathlib.Core.Path.{◌≡◌}
use Prim.Native.Nat.{◌*◌}
use Rattle.ground.proofs.Front.{front}
use Rattle.ts.specs.Stuffing.{nulls}
use Rattle.ts.proofs.put_null_packets.Given as goal

abbrev pub invariant-loop-i : goal.invariant-loop-i
invariant-loop-i l = l.out ≡ front (nulls l.n) (188 * l.i) l.initial.out
