-- `ts::dispersing::disperse_packets` meets its contract: at each turn one packet more is dispersed. Assumes nothing.
use mathlib.Core.Path.{◌≡◌}
use Prim.Native.Nat.{◌*◌}
use Rattle.ground.specs.Chunks.{chunks}
use Rattle.ground.proofs.Front.{front}
use Rattle.ts.specs.Dispersal.{dispersed_packet}
use Rattle.ts.proofs.dispersing.disperse_packets.Given as goal

abbrev pub invariant-loop-i : goal.invariant-loop-i
invariant-loop-i l = l.packets ≡ front (chunks dispersed_packet 188 l.n 0 l.initial.packets) (188 * l.i) l.initial.packets
