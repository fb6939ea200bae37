-- `report::read_line_by` meets its contract: each way out gives what the line says. Assumes nothing.
use Rattle.std.proofs.Common.{sym, ◌∙◌}
use Rattle.std.proofs.lemmas.Result.{err_from_is_err_and}
use Rattle.report.proofs.LineAnswers.{other_line_refused, digits_unpacked}
use Rattle.report.proofs.read_line_by.Goals as goal

pub returns-in_err-bits : goal.returns-in_err-bits
returns-in_err-bits c =
    let p = err_from_is_err_and c.from_residual.result c.from_residual.ensures.1 in
    rw (p.1, p.2) (other_line_refused c.args.line.now c.in_err-bits.field-0.0 (sym c.in_err-bits.was ∙ c.bits_of.ensures))

pub returns : goal.returns
returns c =
    digits_unpacked c.args.line.now c.in_ok-bits.bits c.unpack_by.result (sym c.in_ok-bits.was ∙ c.bits_of.ensures) c.unpack_by.ensures
