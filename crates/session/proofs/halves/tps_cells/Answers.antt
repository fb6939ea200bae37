-- `session::halves::tps_cells` meets its contract: the cells at the bins of the TPS carriers fill a place. Assumes nothing.
use mathlib.Core.Path.{refl}
use native.Mathlib.Omega.{arith}
use Rattle.carriers.proofs.Facts.{facts2k}
use Rattle.session.proofs.Places.{tps_lent, tps_gathered}
use borrow.Author.Rules.{rules}
use Rattle.session.proofs.halves.tps_cells.Goals as goal

pub gather-requires : goal.gather-requires
gather-requires c =
    let bins = tps_lent facts2k c.tps_carrier_bins-bins.result c.tps_carrier_bins-bins.ensures in
    (bins.0, search rules, omega arith)

pub returns : goal.returns
returns c =
    let bins = c.tps_carrier_bins-bins in
    tps_gathered facts2k c.args.symbol.now _ bins.result bins.ensures refl c.gather.ensures
