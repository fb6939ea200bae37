-- `ts::ts_depacketize` meets its contract: at each turn one payload more stands at the front of the output. Assumes nothing.
use mathlib.Core.Path.{◌≡◌}
use mathlib.Core.List.{List}
use Prim.Native.Nat.{ℕ, ◌*◌}
use lib.ListN.{drop}
use Rattle.ground.specs.Chunks.{chunks}
use Rattle.ground.proofs.Front.{front}
use Rattle.ts.proofs.ts_depacketize.Given as goal

abbrev pub invariant-loop-i : goal.invariant-loop-i
invariant-loop-i l = l.out ≡ front (chunks (λ (j : ℕ) (p : List ℕ). drop 1 p) 188 l.n 0 l.packets) (187 * l.i) l.initial.out
