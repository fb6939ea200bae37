-- `report::inner::Text::put_refused` meets its contract: the columns stand one behind the other. Assumes nothing.
use Rattle.report.specs.Text.{line_text}
use Rattle.report.proofs.Texts.{puts_then}
use Rattle.report.proofs.inner.Text.put_refused.Goals as goal

pub returns-clause-text : goal.returns-clause-text
unfolding line_text
returns-clause-text c =
    puts_then c.put_decimal.ensures.text
    (puts_then c.put.ensures (puts_then (rw c.from.ensures at c.put_decimal-2.ensures.text) c.put-2.ensures))
