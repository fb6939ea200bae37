-- `gray::axis_index` meets its contract: a bit more is brought in a turn. Assumes nothing.
use Prim.Native.Nat.{◌^◌, ◌<◌}
use mathlib.Core.Path.{◌≡◌}
use Rattle.ground.specs.Digits.{value_of}
use Rattle.gray.specs.Mapping.{every_other}
use Rattle.gray.proofs.axis_index.Given as goal

abbrev pub invariant-loop-place : goal.invariant-loop-place
invariant-loop-place l = (l.index ≡ value_of 0 (every_other l.place l.first l.bits)) × (l.index < 2 ^ l.place)
