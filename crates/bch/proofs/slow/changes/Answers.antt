-- `bch::slow::changes` meets its contract: what is tried and makes a codeword is answered, and where nothing does, no
-- codeword is within distance two. Assumes nothing.
use mathlib.Core.Path.{sym, ◌∙◌}
use native.Mathlib.Omega.{arith}
use Rattle.ground.proofs.Bits.{bits_of_lem}
use Rattle.bch.proofs.NearCodeword.{codeword_by_test}
use Rattle.bch.proofs.TriedChanges.{flipped_lent, not-codeword, none_tried_lone}
use Rattle.bch.proofs.slow.changes.Goals as goal

pub returns-then-parity_checks : goal.returns-then-parity_checks
returns-then-parity_checks c = codeword_by_test c.args.code.bits.now (sym c.parity_checks.ensures ∙ c.if-parity_checks.true)

pub invariant_of-next_change : goal.invariant_of-next_change
invariant_of-next_change c =
    let a = c.args.code in
    let h = flipped_lent a.bits.now c.changed-next.result c.loop-first.first a.size a.right c.changed-next.ensures in
    record { size = h.0; right = h.1 }

pub returns : goal.returns
returns c =
    let a = c.args.code in
    let w = a.bits.now in
    none_tried_lone w (bits_of_lem w a.right) a.size (not-codeword w (sym c.parity_checks.ensures ∙ c.if-parity_checks.false))
    (λ i h. c.in_default.ensures.none i (omega arith) h) (λ i j x y. c.loop-first.invariant i j (omega arith) x y)
