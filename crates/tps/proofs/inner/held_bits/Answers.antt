-- `tps::inner::held_bits` meets its contract: the bits are held from the front. Assumes nothing.
use mathlib.Core.Path.{◌≡◌, ◌∙◌}
use native.Mathlib.Omega.{arith}
use lib.ListN.{length, get_or}
use Rattle.ground.proofs.Front.{front-next, front-full}
use Rattle.tps.specs.Receive.{held_bits}
use Rattle.tps.proofs.StandingBits.{held-length, held_at, stands-number, none-stands}
use borrow.Author.Rules.{rules}
use Rattle.tps.proofs.inner.held_bits.Goals as goal
use Rattle.tps.proofs.inner.held_bits.Goals.{then-bit-eq0, else-bit-eq0}

pub loop-i-preserved : goal.loop-i-preserved
loop-i-preserved c =
    let l = c.loop-i in
    let a = c.args in
    let z : length a.bits ≡ 68 = search rules in
    let n = held-length a.bits a.n z c.requires in
    let at = held_at a.bits a.n l.i z c.requires (omega arith) in
    let v : c.if-bit-eq0.held ≡ get_or (held_bits a.n a.bits) l.i 0 = elim c.if-bit-eq0.branch [
      | then-bit-eq0 w ↦ w.held-is ∙ none-stands a.n l.i (get_or a.bits l.i 0) w.if-bit-eq0.true ∙ at
      | else-bit-eq0 w ↦ w.held-is ∙ stands-number a.n l.i (get_or a.bits l.i 0) c.requires (omega arith) (omega (arith, w.if-bit-eq0.false)) ∙ at
    ] in
    front-next (held_bits a.n a.bits) _ l.held l.i 0 c.if-bit-eq0.held (omega arith) (omega arith) l.invariant v

pub returns : goal.returns
returns c =
    let a = c.args in
    let z : length a.bits ≡ 68 = search rules in
    let n = held-length a.bits a.n z c.requires in
    front-full (held_bits a.n a.bits) _ c.loop-i.held c.loop-i.i (omega arith) (omega arith) c.loop-i.invariant
