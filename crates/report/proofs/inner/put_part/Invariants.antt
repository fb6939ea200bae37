-- `report::inner::put_part` meets its contract: a character more a turn, which ends the line or is one of it. Assumes
-- nothing.
use Rattle.report.specs.OpenLine.{open_line}
use Rattle.report.proofs.Telling.{Reached}
use Rattle.report.proofs.inner.put_part.Given as goal

abbrev pub invariant-loop-character : goal.invariant-loop-character
invariant-loop-character g l =
    Reached g.K.Tells.teller l.fn.line l.initial.kept l.part l.initial.text l.character-index (open_line l.held l.count) l.kept l.text
