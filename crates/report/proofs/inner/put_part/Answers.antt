-- `report::inner::put_part` meets its contract: a character more a turn, which ends the line or is one of it. Assumes
-- nothing.
use Rattle.report.proofs.Telling.{reached_open, reached_ended}
use Rattle.report.proofs.inner.put_part.Goals.{then-character-eq10, else-character-eq10}
use Rattle.report.proofs.inner.put_part.Goals as goal

pub loop-character-preserved : goal.loop-character-preserved
loop-character-preserved g c =
    let t = g.K.Tells.teller in
    let l = c.loop-character in
    elim c.if-character-eq10.branch [
      | then-character-eq10 w ↦ rw (w.text-is, w.held-is, w.count-is, w.kept-is) (reached_ended t l.invariant c.loop-character-test.true w.if-character-eq10.true (rw w.answer_by.ensures at w.tell.ensures))
      | else-character-eq10 w ↦ rw (w.text-is, w.held-is, w.count-is, w.kept-is, w.hold-count.ensures) (reached_open t l.invariant c.loop-character-test.true w.if-character-eq10.false)
    ]
