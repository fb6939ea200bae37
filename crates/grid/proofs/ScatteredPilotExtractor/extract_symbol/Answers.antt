-- `grid::ScatteredPilotExtractor::extract_symbol` meets its contract: the row of its phase is lent whole. Assumes nothing.
use native.Mathlib.Omega.{arith}
use Rattle.carriers.specs.Mode.{mode2k}
use Rattle.carriers.proofs.Facts.{facts2k}
use Rattle.grid.proofs.Lent.{lent_row}
use Rattle.grid.proofs.ScatteredPilotExtractor.extract_symbol.Goals as goal

pub gather-requires : goal.gather-requires
gather-requires c =
    let lent = lent_row mode2k facts2k _ (omega arith) _ c.data_row.ensures in (lent.0, omega arith, omega (arith, lent.1))
