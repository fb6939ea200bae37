-- `gray::nearest_index` meets its contract: of the indices so far it has the first with the least distance. Assumes nothing.
use native.Mathlib.Omega.{arith}
use mathlib.Core.Path.{ap, ◌∙◌, sym, ap₂}
use lib.Ieee.{lt}
use Rattle.gray.proofs.Levels.{some-levels}
use Rattle.gray.proofs.Nearest.{first_taken, first_left, first-of-all}
use Rattle.std.specs.Prelude.{length}
use Rattle.gray.proofs.nearest_index.Goals as goal
use Rattle.gray.proofs.nearest_index.Goals.{then-apart-least, else-apart-least}

pub loop-index-preserved : goal.loop-index-preserved
loop-index-preserved c =
    let a = c.args in
    let l = c.loop-index in
    let same = ap₂ lt c.distance-apart.ensures l.invariant.apart in
    elim c.if-apart-least.branch [
      | then-apart-least w ↦ rw (w.nearest-is, w.least-is) (record { found = first_taken a.order a.x l.index l.nearest l.invariant.found (sym same ∙ w.if-apart-least.true); apart = c.distance-apart.ensures })
      | else-apart-least w ↦ rw (w.nearest-is, w.least-is) (record { found = first_left a.order a.x l.index l.nearest l.invariant.found (sym same ∙ w.if-apart-least.false); apart = l.invariant.apart })
    ]

pub returns : goal.returns
returns c =
    let l = c.loop-index in
    first-of-all c.args.order c.args.x l.index l.nearest (omega (arith, ap length c.axis_levels-index-end.ensures, some-levels c.args.order)) l.invariant.found
