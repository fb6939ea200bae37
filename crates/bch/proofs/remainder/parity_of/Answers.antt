-- `bch::remainder::parity_of` meets its contract: each high part falls down, and the whole is the parity. Assumes
-- nothing.
use mathlib.Core.Path.{ap, ◌∙◌}
use Rattle.bch.proofs.Parity.{fold_at, terms33, terms22, terms14, folds_are_parity}
use Rattle.bch.proofs.remainder.parity_of.Goals as goal

pub returns : goal.returns
returns c =
    let z = c in
    c.folded.ensures
    ∙ ap (fold_at 14 terms14)
    (c.folded-fourth.ensures
    ∙ ap (fold_at 14 terms14)
    (c.folded-third.ensures
    ∙ ap (fold_at 22 terms22) (c.folded-second.ensures ∙ ap (fold_at 33 terms33) c.folded-first.ensures)))
    ∙ folds_are_parity z.args.info z.requires
