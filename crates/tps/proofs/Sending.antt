-- Where sending is accepted, by the tests of a call. Assumes nothing.
use mathlib.Core.Path.{◌≡◌, refl}
use mathlib.Core.List.{List}
use Prim.Native.Nat.{ℕ, ◌≤◌}
use lib.Ieee.{Float}
use lib.ListN.{length}
use borrow.Author.Tests.{le-ltb}
use Rattle.ground.specs.Refusal.{ACCEPTED}
use Rattle.carriers.specs.Mode.{Mode, tps_size}
use Rattle.tps.specs.Send.{send_no}

pub send_accepted : (m : Mode) (bit : ℕ) (o : List Float) → bit ≤ 1 → tps_size m ≤ length o → send_no m bit o ≡ ACCEPTED
send_accepted m bit o h l = simp (le-ltb 1 bit h, le-ltb (length o) (tps_size m) l) refl
