-- `carriers::wk_prbs` meets its contract: before each turn the register has made as many steps as bits are written. Assumes nothing.
use mathlib.Core.Path.{◌≡◌}
use Prim.Native.Nat.{◌<◌}
use lib.ListN.{length}
use Rattle.ground.proofs.Front.{front}
use Rattle.carriers.specs.Sequence.{register, wk_from}
use Rattle.carriers.proofs.wk_prbs.Given as goal

abbrev pub invariant-loop-bit : goal.invariant-loop-bit
invariant-loop-bit l =
    (l.register < 2048) × (l.register ≡ register l.bit-index)
    × (l.out ≡ front (wk_from 0 (length l.initial.out)) l.bit-index l.initial.out)
