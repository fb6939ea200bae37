-- `bch::slow::next_change` meets its contract: the places that the loop has passed make no codeword. Assumes nothing.
use mathlib.Core.Path.{sym, ap, ◌∙◌}
use native.Mathlib.Omega.{arith}
use Rattle.bch.specs.NearCodeword.{is_codeword}
use Rattle.bch.proofs.TriedChanges.{flipped_lent, past_one, change_makes}
use Rattle.bch.proofs.slow.next_change.Goals as goal

pub invariant_of-parity_checks : goal.invariant_of-parity_checks
invariant_of-parity_checks c =
    let a = c.args.code in
    let h = flipped_lent a.bits.now c.changed-next.result c.loop-place.place a.size a.right c.changed-next.ensures in
    record { size = h.0; right = h.1 }

pub returns-then-parity_checks : goal.returns-then-parity_checks
returns-then-parity_checks c =
    let l = c.loop-place in
    change_makes c.args.code.bits.now c.args.from l.place l.invariant (omega arith)
    (sym (c.parity_checks.ensures ∙ ap is_codeword c.changed-next.ensures) ∙ c.if-parity_checks.true)

pub loop-place-preserved : goal.loop-place-preserved
loop-place-preserved c =
    let l = c.loop-place in
    past_one c.args.code.bits.now c.args.from l.place l.invariant (omega arith)
    (sym (c.parity_checks.ensures ∙ ap is_codeword c.changed-next.ensures) ∙ c.if-parity_checks.false)
