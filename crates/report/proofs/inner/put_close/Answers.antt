-- `report::inner::put_close` meets its contract: the closing text stands behind that of an open line. Assumes nothing.
use Rattle.std.proofs.Common.{eq-eqb, ne_eqb}
use Rattle.report.proofs.Texts.{puts_none, puts_then}
use Rattle.report.proofs.inner.put_close.Goals.{then-line-ne0, else-line-ne0}
use Rattle.report.proofs.inner.put_close.Goals as goal

pub returns-clause-text : goal.returns-clause-text
returns-clause-text g c =
    let p = c.put_closing.ensures.text in
    elim c.if-line-ne0.branch [
      | then-line-ne0 w ↦
          let e = rw w.answer_by.ensures at w.tell.ensures in
          let t = puts_then e.written (puts_none w.tell.new.text) in
          simp (ne_eqb _ _ w.if-line-ne0.true) (puts_then t (rw (w.text-is, w.kept-is, e.kept) at p))
      | else-line-ne0 w ↦ simp (eq-eqb _ _ w.if-line-ne0.false) (rw (w.text-is, w.kept-is) at p)
    ]
