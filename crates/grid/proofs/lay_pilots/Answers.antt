-- `grid::lay_pilots` meets its contract: the reference pilots and the TPS carriers, each lent whole. Assumes nothing.
use mathlib.Core.Path.{ap, ◌∙◌}
use Rattle.carriers.specs.Mode.{mode2k}
use Rattle.carriers.proofs.Facts.{facts2k}
use Rattle.carriers.proofs.Roles.{tps-below}
use Rattle.grid.specs.Symbol.{piloted}
use Rattle.grid.proofs.Lent.{codes_piloted, row-set}
use Rattle.grid.proofs.lay_pilots.Goals as goal

pub returns : goal.returns
returns c =
    c.set_pilots-2.ensures
    ∙ codes_piloted mode2k facts2k mode2k.tps _ (tps-below mode2k facts2k) c.tps_table.ensures _
    ∙ ap (piloted mode2k mode2k.tps) (row-set mode2k facts2k _ _ _ _ c.reference_row.ensures c.set_pilots.ensures)
