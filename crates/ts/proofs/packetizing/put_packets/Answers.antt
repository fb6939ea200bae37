-- `ts::packetizing::put_packets` meets its contract: at each turn one packet more stands whitened at the front of the output, and what is left makes the last. Assumes nothing.
use mathlib.Core.Path.{◌≡◌, ap, ◌∙◌}
use Prim.Native.Nat.{ℕ, ◌+◌, ◌*◌, ◌-◌, ◌/◌, ◌<◌}
use native.Mathlib.Omega.{arith}
use lib.ListN.{length}
use Rattle.ground.specs.Chunks.{chunks}
use Rattle.ground.proofs.Front.{front}
use Rattle.ts.specs.Packets.{count}
use Rattle.ts.proofs.WhitenedPackets.{whitened_packet, packet-next, packets_end}
use Rattle.ts.proofs.packetizing.put_packets.Goals as goal

pub loop-i-preserved : goal.loop-i-preserved
loop-i-preserved c =
    let l = c.loop-i in
    let d = c.put_packet in
    packet-next c.args.payload.now c.args.out.now l.i _ (187 * l.i + 187) l.out d.new.out (omega arith) (omega arith) (omega arith) l.invariant d.ensures

pub returns-then-last-out : goal.returns-then-last-out
returns-then-last-out c =
    let l = c.loop-i in
    let d = c.put_packet-then-last-out in
    let s = c.args.payload.now in
    let full : ℕ = length s / 187 in
    let more : full < count (length s) = omega arith in
    let all : l.i ≡ full = omega arith in
    let e = ap (λ (n : ℕ). front (chunks whitened_packet 187 (count (length s)) 0 s) (188 * n) c.args.out.now) all in
    packets_end s c.args.out.now (188 * (full + 1)) _ (omega arith) c.requires
    (packet-next s c.args.out.now full (length l.out - 188 * full) (length s) l.out d.new.out more (omega arith) (omega arith) (l.invariant ∙ e) d.ensures)

pub returns-else-last-out : goal.returns-else-last-out
returns-else-last-out c =
    let l = c.loop-i in
    packets_end c.args.payload.now c.args.out.now (188 * l.i) l.out (omega arith) c.requires l.invariant
