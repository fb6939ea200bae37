-- `ts::packetizing::put_packets` meets its contract: at each turn one packet more stands whitened at the front of the output. Assumes nothing.
use mathlib.Core.Path.{◌≡◌}
use Prim.Native.Nat.{◌*◌}
use lib.ListN.{length}
use Rattle.ts.proofs.WhitenedPackets.{whitened_packet}
use Rattle.ts.specs.Packets.{count}
use Rattle.ground.proofs.Front.{front}
use Rattle.ground.specs.Chunks.{chunks}
use Rattle.ts.proofs.packetizing.put_packets.Given as goal

abbrev pub invariant-loop-i : goal.invariant-loop-i
invariant-loop-i l = l.out ≡ front (chunks whitened_packet 187 (count (length l.payload)) 0 l.payload) (188 * l.i) l.initial.out
