-- `carriers::decode` meets its contract: after k turns the bins and the values of the first k numbers stand at the fronts. Assumes nothing.
use mathlib.Core.Path.{◌≡◌}
use mathlib.Core.List.{map}
use Prim.Native.Nat.{◌*◌}
use Rattle.ground.proofs.Front.{front}
use Rattle.carriers.specs.Mode.{mode2k}
use Rattle.carriers.specs.Pilots.{code_bin, code_cells}
use Rattle.carriers.proofs.decode.Given as goal

abbrev pub invariant-loop-k : goal.invariant-loop-k
invariant-loop-k l =
    (l.bins ≡ front (map (code_bin mode2k) l.codes) l.k l.initial.bins) × (l.values ≡ front (code_cells mode2k l.codes) (2 * l.k) l.initial.values)
