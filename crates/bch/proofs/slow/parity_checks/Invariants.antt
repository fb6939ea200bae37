-- `bch::slow::parity_checks` meets its contract: after i turns the first i bits are divided. Assumes nothing.
use mathlib.Core.Path.{◌≡◌}
use Prim.Native.Nat.{◌^◌, ◌<◌}
use lib.ListN.{drop}
use Rattle.bch.specs.Code.{remainder_of}
use Rattle.bch.proofs.slow.parity_checks.Given as goal

abbrev pub invariant-loop-bit : goal.invariant-loop-bit
invariant-loop-bit l = (l.rest < 2 ^ 14) × (remainder_of l.rest (drop l.bit-index l.code.bits.now) ≡ remainder_of 0 l.code.bits.now)
