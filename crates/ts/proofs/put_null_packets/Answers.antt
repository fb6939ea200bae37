-- `ts::put_null_packets` meets its contract: at each turn one null packet more stands at the front. Assumes nothing.
use mathlib.Core.Path.{◌≡◌, ◌∙◌}
use mathlib.Core.List.{List, []}
use Prim.Native.Nat.{ℕ, ◌*◌, ◌/◌}
use native.Mathlib.Omega.{arith}
use lib.ListN.{length}
use Rattle.ground.proofs.Chunks.{chunks-length, chunks-next}
use Rattle.ground.proofs.Front.{front-full}
use Rattle.ts.specs.Stuffing.{null, nulls}
use Rattle.ts.proofs.Stuffing.{nulls_each}
use Rattle.ts.proofs.put_null_packets.Goals as goal

pub loop-i-preserved : goal.loop-i-preserved
loop-i-preserved c =
    let l = c.loop-i in
    let o = c.args.out.now in
    let d = c.copy_from_slice in
    let n : ℕ = length o / 188 in
    chunks-next (λ (j : ℕ) (p : List ℕ). null) 188 188 n l.i _ [] o l.out d.new.self (nulls_each n) c.loop-i-test.true (omega arith) l.invariant (d.ensures.after ∙ c.ts_null_packet-packet.ensures)

pub returns : goal.returns
returns c =
    let l = c.loop-i in
    let o = c.args.out.now in
    let n : ℕ = length o / 188 in
    let w : length (nulls n) ≡ 188 * n = chunks-length (λ (j : ℕ) (p : List ℕ). null) 188 188 n 0 [] (nulls_each n) in
    front-full (nulls n) o l.out (188 * l.i) (omega (arith, w)) (omega (arith, w, c.requires)) l.invariant
