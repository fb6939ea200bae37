-- `interleaver::gather` meets its contract: a turn is one move more. Assumes nothing.
use borrow.Author.Rules.{rules}
use native.Mathlib.Omega.{arith}
use lib.ListN.{length, get_or}
use Rattle.interleaver.proofs.Moving.{moved-next}
use Rattle.interleaver.proofs.gather.Goals as goal

pub loop-q-preserved : goal.loop-q-preserved
loop-q-preserved c =
    let a = c.args in
    let at = c.loop-q in (
      search rules,
      moved-next (length a.places.now) (λ k. k) (λ k. get_or a.places.now k 0) a.cells.now a.out.now at.q at.out _ _
          (omega arith) (omega arith) (λ k l e. omega arith) at.invariant.1 (cc) c.put_cell.ensures,
    )
