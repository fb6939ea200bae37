-- `ts::dispersing::disperse_packets` meets its contract: at each turn one packet more is dispersed. Assumes nothing.
use mathlib.Core.Path.{◌≡◌, ap, ◌∙◌}
use Prim.Native.Nat.{ℕ, ◌+◌, ◌-◌, ◌*◌, ◌/◌}
use native.Mathlib.Omega.{arith}
use lib.ListN.{length}
use Rattle.ground.specs.Chunks.{chunks}
use Rattle.ground.proofs.Chunks.{chunks-length, chunks-next}
use Rattle.ground.proofs.Front.{front-full}
use Rattle.ts.specs.Dispersal.{dispersed_packet}
use Rattle.ts.proofs.Dispersal.{dispersed_each, lent_packet}
use Rattle.ts.proofs.dispersing.disperse_packets.Goals as goal

pub loop-i-preserved : goal.loop-i-preserved
loop-i-preserved c =
    let l = c.loop-i in
    let o = c.args.packets.now in
    let d = c.disperse_packet in
    let n : ℕ = length o / 188 in
    let k : ℕ = 188 * l.i + 188 - 188 * l.i in
    let e = dispersed_each n o (omega arith) in
    let w : length (chunks dispersed_packet 188 n 0 o) ≡ 188 * n = chunks-length dispersed_packet 188 188 n 0 o e in
    let p = lent_packet (chunks dispersed_packet 188 n 0 o) o l.packets l.i k (omega (arith, w, c.requires)) (omega arith) (omega arith) l.invariant in
    chunks-next dispersed_packet 188 188 n l.i k o o l.packets d.new.packet e c.loop-i-test.true (omega arith) l.invariant (d.ensures ∙ ap (dispersed_packet l.i) p)

pub returns : goal.returns
returns c =
    let l = c.loop-i in
    let o = c.args.packets.now in
    let n : ℕ = length o / 188 in
    let w : length (chunks dispersed_packet 188 n 0 o) ≡ 188 * n = chunks-length dispersed_packet 188 188 n 0 o (dispersed_each n o (omega arith)) in
    front-full (chunks dispersed_packet 188 n 0 o) o l.packets (188 * l.i) (omega (arith, w)) (omega (arith, w, c.requires)) l.invariant
