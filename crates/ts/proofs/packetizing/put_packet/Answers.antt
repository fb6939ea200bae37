-- `ts::packetizing::put_packet` meets its contract: the first byte, and behind it the tail that was lent on, whitened. Assumes nothing.
use mathlib.Core.Path.{◌≡◌, ap, ◌∙◌}
use Prim.Native.Nat.{ℕ, ◌-◌}
use mathlib.Core.List.{List}
use native.Mathlib.Omega.{arith}
use lib.ListN.{length, set, length-set, length-take, length-drop}
use Rattle.ts.proofs.Dispersal.{packet-put}
use Rattle.ts.proofs.Packets.{padded-length}
use Rattle.ts.specs.Packets.{padded, packet}
use Rattle.ts.specs.Dispersal.{register_at}
use Rattle.dispersal.proofs.Streams.{stream-length}
use Rattle.ts.proofs.packetizing.put_packet.Goals as goal

pub put_tail-requires : goal.put_tail-requires
put_tail-requires c =
    (ap length c.behind_sync.ensures ∙ stream-length 187 (register_at c.args.i), c.requires.0, simp (length-take, length-drop, length-set) (omega (arith, c.requires.1)))

pub returns : goal.returns
unfolding packet
returns c =
    let p : List ℕ = c.args.payload.now in
    let o : List ℕ = c.args.out.now in
    let q : List ℕ = set o 0 c.sync.result in
    let lq : length q ≡ 188 = simp length-set c.requires.1 in
    packet-put c.args.i (length q - 1) 0x47 c.behind_sync.result.now o q (padded p) c.put_tail.new.tail c.behind_sync.ensures c.requires.1 (ap (set o 0) c.sync.ensures) (omega arith)
    (padded-length p c.requires.0) c.put_tail.ensures
