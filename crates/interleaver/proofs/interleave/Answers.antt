-- `interleaver::interleave` meets its contract: on even symbols the cells are written at their places, on odd ones read there. Assumes nothing.
use native.Mathlib.Omega.{arith}
use Rattle.interleaver.specs.Permutation.{interleaver2k}
use Rattle.interleaver.proofs.Facts.{facts2k, lent_table}
use Rattle.interleaver.proofs.Calls.{leaves-done, spread_even, gathered_odd}
use Rattle.interleaver.proofs.interleave.Goals as goal

pub spread-requires : goal.spread-requires
spread-requires c =
    let lent = lent_table interleaver2k facts2k _ c.table-places.ensures in
    (lent.0, omega (arith, lent.1), omega (arith, lent.1))

pub gather-requires : goal.gather-requires
gather-requires c =
    let lent = lent_table interleaver2k facts2k _ c.table-places.ensures in
    (lent.0, omega (arith, lent.1), omega (arith, lent.1))

pub returns-then-symbol-eq0-clause-interleaves : goal.returns-then-symbol-eq0-clause-interleaves
returns-then-symbol-eq0-clause-interleaves c =
    let a = c.args in
    leaves-done interleaver2k a.symbol a.cells.now a.out.now _ (omega arith) (omega arith)
    (spread_even interleaver2k facts2k a.symbol _ c.table-places.ensures a.cells.now a.out.now _ c.if-symbol-eq0.true c.spread.ensures)

pub returns-else-symbol-eq0-clause-interleaves : goal.returns-else-symbol-eq0-clause-interleaves
returns-else-symbol-eq0-clause-interleaves c =
    let a = c.args in
    leaves-done interleaver2k a.symbol a.cells.now a.out.now _ (omega arith) (omega arith)
    (gathered_odd interleaver2k facts2k a.symbol _ c.table-places.ensures a.cells.now a.out.now _ c.if-symbol-eq0.false c.gather.ensures)
