-- `interleaver::spread` meets its contract: a turn is one move more. Assumes nothing.
use borrow.Author.Rules.{rules}
use native.Mathlib.Omega.{arith}
use lib.ListN.{length, get_or}
use Rattle.interleaver.proofs.Moving.{moved-next}
use Rattle.interleaver.proofs.spread.Goals as goal

pub loop-q-preserved : goal.loop-q-preserved
loop-q-preserved c =
    let a = c.args in
    let at = c.loop-q in
    let permutes = c.requires.0 in (
      search rules,
      moved-next (length a.places.now) (λ k. get_or a.places.now k 0) (λ k. k) a.cells.now a.out.now at.q at.out _ _
          (omega arith) (permutes.below at.q (omega arith)) (λ k l e. permutes.apart k at.q l (omega arith) e) at.invariant.1 c.cell_at.ensures (cc),
    )
