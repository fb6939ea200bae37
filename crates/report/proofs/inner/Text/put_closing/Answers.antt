-- `report::inner::Text::put_closing` meets its contract: the columns stand one behind the other. Assumes nothing.
use Rattle.report.specs.Text.{closing}
use Rattle.report.proofs.Texts.{puts_then}
use Rattle.report.proofs.inner.Text.put_closing.Goals as goal

pub returns-clause-text : goal.returns-clause-text
unfolding closing
returns-clause-text c =
    puts_then c.put.ensures
    (puts_then c.put_decimal.ensures.text (puts_then c.put-2.ensures (puts_then c.put_decimal-2.ensures.text c.put-3.ensures)))
