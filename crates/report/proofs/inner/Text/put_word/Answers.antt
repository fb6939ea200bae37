-- `report::inner::Text::put_word` meets its contract: the columns stand one behind the other. Assumes nothing.
use Rattle.std.proofs.Common.{append_assoc}
use Rattle.report.specs.Text.{line_text}
use Rattle.report.proofs.Texts.{puts_then}
use Rattle.report.proofs.inner.Text.put_word.Goals as goal

pub returns-clause-text : goal.returns-clause-text
unfolding line_text
returns-clause-text c =
    let frame = puts_then c.put.ensures (rw c.from.ensures at c.put_decimal-2.ensures.text) in
    let last = puts_then c.put-2.ensures (puts_then c.put_cell.ensures.text c.put-3.ensures) in
    rw (← c.mended_digit.ensures)
    (puts_then c.put_decimal.ensures.text (puts_then frame (simp append_assoc at (puts_then c.put_columns.ensures.text last))))
