-- `ground::inner::all_bits` meets its contract: the OR of the items seen, and the items left, are bits where all are. Assumes nothing.
use mathlib.Core.Path.{◌≡◌}
use mathlib.Core.Bool.{◌&&◌}
use Prim.Native.Nat.{◌≤◌}
use lib.Dec.{ltb}
use lib.ListN.{length, drop}
use Rattle.ground.specs.Bits.{are_bits}
use Rattle.ground.proofs.inner.all_bits.Given as goal

abbrev pub invariant-loop-bit : goal.invariant-loop-bit
invariant-loop-bit l = (l.bit-index ≤ length l.bits) × (ltb l.seen 2 && are_bits (drop l.bit-index l.bits) ≡ are_bits l.bits)
