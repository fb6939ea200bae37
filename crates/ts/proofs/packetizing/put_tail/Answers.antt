-- `ts::packetizing::put_tail` meets its contract: the payload stands whitened at the tail's front, and the outputs behind it. Assumes nothing.
use mathlib.Core.List.{◌++◌}
use mathlib.Core.Path.{◌≡◌, ap, ◌∙◌}
use Prim.Native.Nat.{◌-◌}
use native.Mathlib.Omega.{arith}
use lib.ListN.{length, drop, length-drop, length-append}
use lib.Seq.{take_all}
use Rattle.dispersal.proofs.Whitening.{xored-length}
use Rattle.ts.proofs.Packets.{tail_put}
use Rattle.ts.proofs.packetizing.put_tail.Goals as goal

pub returns : goal.returns
returns c =
    let a = c in
    let w = c.whiten_into in
    let f = c.copy_from_slice in
    let p = a.args.payload.now in
    let m = a.args.outputs.now in
    let t = w.new.out in
    let lt : length t ≡ length p = ap length w.ensures ∙ xored-length p _ in
    let l : length (t ++ drop (length p) a.args.tail.now) ≡ 187 = simp (length-append, length-drop) (omega (arith, lt, a.requires)) in
    tail_put p m a.args.tail.now t f.new.self (length (t ++ drop (length p) a.args.tail.now) - length p) a.requires.1 a.requires.0 a.requires.2 (omega arith) w.ensures
    (f.ensures.after ∙ take_all (length m - length p) (drop (length p) m) (simp length-drop (omega arith)))
