-- `ts::ts_depacketize` meets its contract: at each turn one payload more stands at the front of the output. Assumes nothing.
use mathlib.Core.Path.{sym, ◌∙◌}
use borrow.Author.Tests.{eqb-false}
use mathlib.Core.List.{List}
use Prim.Native.Nat.{ℕ, ◌/◌}
use native.Mathlib.Omega.{arith}
use lib.ListN.{length, drop}
use Rattle.ground.proofs.Chunks.{chunks-next, chunks_end}
use Rattle.ts.proofs.Packets.{payloads_each, lent_payload}
use Rattle.ts.proofs.Numbers.{depacketize_accepted}
use Rattle.ts.proofs.ts_depacketize.Goals as goal

pub loop-i-preserved : goal.loop-i-preserved
loop-i-preserved c =
    let l = c.loop-i in
    let a = c.args in
    let d = c.copy in
    let s = a.packets.now in
    let n : ℕ = length s / 188 in
    chunks-next (λ (j : ℕ) (p : List ℕ). drop 1 p) 188 187 n l.i _ s a.out.now l.out d.new.to (payloads_each n s (omega arith)) c.loop-i-test.true (omega arith) l.invariant
    (d.ensures ∙ lent_payload s l.i _ (omega arith))

pub returns-clause-output : goal.returns-clause-output
returns-clause-output c =
    let l = c.loop-i in
    let a = c.args in
    let s = a.packets.now in
    let n : ℕ = length s / 188 in
    rw (depacketize_accepted s a.out.now (eqb-false _ _ (sym c.is_empty.ensures ∙ c.if-is_empty.false)) c.if-packets-ne0.false c.if-out-n.false)
    (chunks_end (λ (j : ℕ) (p : List ℕ). drop 1 p) 188 187 n l.i s a.out.now l.out (payloads_each n s (omega arith)) (omega arith) l.invariant)
