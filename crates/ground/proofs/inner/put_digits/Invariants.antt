-- `ground::inner::put_digits` meets its contract: the output is filled from its front. Assumes nothing.
use mathlib.Core.Path.{◌≡◌}
use Prim.Native.Nat.{◌≤◌}
use lib.ListN.{length}
use Rattle.ground.specs.Digits.{digits_of}
use Rattle.ground.proofs.Front.{front}
use Rattle.ground.proofs.inner.put_digits.Given as goal

abbrev pub invariant-loop-i : goal.invariant-loop-i
invariant-loop-i l =
    (l.i ≤ length l.initial.out) × (length l.out ≡ length l.initial.out) × (l.out ≡ front (digits_of (length l.initial.out) l.number) l.i l.initial.out)
