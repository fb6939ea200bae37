-- `grid::grid_extract` meets its contract: the table is lent whole. Assumes nothing.
use native.Mathlib.Omega.{arith}
use Rattle.carriers.specs.Mode.{mode2k}
use Rattle.carriers.specs.Carriers.{static_bins}
use Rattle.carriers.proofs.Facts.{facts2k, static2k}
use Rattle.carriers.proofs.Bins.{static_bins_many}
use Rattle.grid.proofs.Lent.{lent_bins, static_bins_in}
use Rattle.grid.proofs.grid_extract.Goals as goal

pub gather-requires : goal.gather-requires
gather-requires c =
    let lent = lent_bins mode2k _ (static_bins mode2k) 1660 c.static_table.ensures (static_bins_in mode2k facts2k) (static_bins_many mode2k facts2k static2k) in
    (lent.0, omega arith, omega (arith, lent.1))
