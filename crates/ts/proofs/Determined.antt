-- Two results that meet the promise of a call are equal, for each call. Assumes nothing.
use Prim.Native.Nat.{ℕ}
use mathlib.Core.List.{List}
use Rattle.ground.proofs.Answers.{OneAnswer, one_answer, OneResult, one-result}
use Rattle.ts.specs.Packets.{depacketize_answer, depacketize_leaves}
use Rattle.ts.specs.Stuffing.{null, stuff_answer, stuff_leaves}
use Rattle.ts.specs.Dispersal.{disperse_answer, disperse_leaves}
use Rattle.ts.specs.PacketizeDispersed.{packetize_dispersed_answer, packetize_dispersed_leaves}

pub packetize_dispersed_determined : (payload out : List ℕ) → OneResult (packetize_dispersed_answer payload out) (packetize_dispersed_leaves payload out)
packetize_dispersed_determined payload out = one-result (packetize_dispersed_answer payload out) (packetize_dispersed_leaves payload out)

pub depacketize_determined : (packets out : List ℕ) → OneResult (depacketize_answer packets out) (depacketize_leaves packets out)
depacketize_determined packets out = one-result (depacketize_answer packets out) (depacketize_leaves packets out)

pub null_determined : OneAnswer null
null_determined = one_answer null

pub stuff_determined : (used target : ℕ) (ts : List ℕ) → OneResult (stuff_answer used target ts) (stuff_leaves used target ts)
stuff_determined used target ts = one-result (stuff_answer used target ts) (stuff_leaves used target ts)

pub disperse_determined : (packets : List ℕ) → OneResult (disperse_answer packets) (disperse_leaves packets)
disperse_determined packets = one-result (disperse_answer packets) (disperse_leaves packets)
