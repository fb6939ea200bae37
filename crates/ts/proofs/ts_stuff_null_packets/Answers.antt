-- `ts::ts_stuff_null_packets` meets its contract: where the target is there already, nothing is added. Assumes nothing.
use native.Mathlib.Omega.{arith}
use Rattle.ts.proofs.Numbers.{stuff_accepted}
use Rattle.ts.proofs.Stuffing.{stuffed-none}
use Rattle.ts.proofs.ts_stuff_null_packets.Goals as goal

pub returns-then-target-used-clause-buffer : goal.returns-then-target-used-clause-buffer
returns-then-target-used-clause-buffer c =
    let a = c.args in
    let m = c.if-used-ne0.false in
    rw (stuff_accepted a.used a.target a.ts.now c.if-ts-used.false m (omega arith)) (stuffed-none a.used a.target a.ts.now m c.if-target-used.true)
