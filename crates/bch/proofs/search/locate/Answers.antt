-- `bch::search::locate` meets its contract: by the syndromes, which tell the remainder. Assumes nothing.
use mathlib.Core.Path.{sym, ◌∙◌}
use borrow.Author.Tests.{eqb-true}
use Rattle.bch.proofs.Pattern.{zero_syndrome_no_pattern}
use Rattle.bch.proofs.search.locate.Goals as goal

pub returns-then-eq : goal.returns-then-eq
returns-then-eq c =
    zero_syndrome_no_pattern c.args.s (sym c.syndrome1-s1.ensures ∙ eqb-true c.syndrome1-s1.result.digits 0 (sym c.eq.ensures ∙ c.if-eq.true)) c.if-s-eq0.false
