-- `report::inner::Text::put_columns` meets its contract: the columns stand one behind the other. Assumes nothing.
use Rattle.report.proofs.Texts.{puts_then}
use Rattle.report.proofs.inner.Text.put_columns.Goals as goal

pub returns-clause-text : goal.returns-clause-text
returns-clause-text c =
    puts_then (rw c.points_column.ensures.text at c.put.ensures)
    (puts_then (rw c.rate_column.ensures.text at c.put-2.ensures) (rw c.guard_column.ensures.text at c.put-3.ensures))
