-- `report::inner::Text::put_decimal` meets its contract: `io` writes the definition's digits. Assumes nothing.
use Rattle.std.proofs.Common.{◌∙◌}
use Rattle.report.proofs.Decimal.{digits_are_decimal, fewest_20}
use Rattle.report.proofs.inner.Text.put_decimal.Goals as goal

pub returns-clause-text : goal.returns-clause-text
returns-clause-text c =
    let d = c.decimal-count in
    let n = c.args.number in
    let k = fewest_20 n d.result c.ranges.number.fits d.ensures.len in
    rw (d.ensures.digits ∙ digits_are_decimal n d.result k d.ensures.len) at c.put.ensures
