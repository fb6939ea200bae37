-- `ts::dispersing::disperse_packet` meets its contract: the first byte, and behind it the tail that was lent on and whitened. Assumes nothing.
use mathlib.Core.Path.{◌≡◌, ap, ◌∙◌}
use Prim.Native.Nat.{ℕ, ◌-◌}
use mathlib.Core.List.{List}
use native.Mathlib.Omega.{arith}
use lib.ListN.{length, get_or, set, length-set, length-take, length-drop}
use borrow.Rule.Slice.PartMut.{mid_of}
use Rattle.ts.proofs.Dispersal.{packet-put, own_packet}
use Rattle.ts.specs.Dispersal.{sync, dispersed_packet, register_at}
use Rattle.dispersal.proofs.Streams.{stream-length}
use Rattle.ts.proofs.dispersing.disperse_packet.Goals as goal

pub whiten-requires : goal.whiten-requires
whiten-requires c =
    let lent = ap length c.behind_sync.ensures ∙ stream-length 187 (register_at c.args.i) in
    simp (length-take, length-drop, length-set) (omega (arith, lent, c.requires))

pub returns : goal.returns
returns c =
    let i : ℕ = c.args.i in
    let p : List ℕ = c.args.packet.now in
    let q : List ℕ = set p 0 c.sync.result in
    let n : ℕ = length q - 1 in
    let lq : length q ≡ 188 = simp length-set c.requires in
    let en : n ≡ 187 = omega arith in
    packet-put i n (get_or p 0 0) c.behind_sync.result.now p q (mid_of 1 n q) c.whiten.new.bytes c.behind_sync.ensures c.requires (ap (set p 0) c.sync.ensures) en
    (simp (length-take, length-drop) (omega arith)) c.whiten.ensures
    ∙ ap (dispersed_packet i) (own_packet n (sync i (get_or p 0 0)) p q c.requires (ap (set p 0) c.sync.ensures) en)
