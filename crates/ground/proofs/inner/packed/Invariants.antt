-- `ground::inner::packed` meets its contract: the number so far, and the bits left, make the whole number. Assumes nothing.
use mathlib.Core.Path.{◌≡◌}
use Prim.Native.Nat.{◌≤◌, ◌<◌, ◌^◌}
use lib.ListN.{length, drop}
use Rattle.ground.specs.Digits.{value_of}
use Rattle.ground.proofs.inner.packed.Given as goal

abbrev pub invariant-loop-bit : goal.invariant-loop-bit
invariant-loop-bit l = (l.bit-index ≤ length l.bits) × (l.number < 2 ^ l.bit-index) × (value_of l.number (drop l.bit-index l.bits) ≡ value_of 0 l.bits)
