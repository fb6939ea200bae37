-- `carriers::reference_pilot_bins` meets its contract: the phase's row is decoded. Assumes nothing.
use borrow.Author.Tests.{le-ltb}
use mathlib.Core.Path.{ap, ◌∙◌}
use mathlib.Core.List.{List}
use Prim.Native.Nat.{ℕ, ◌%◌}
use lib.Ieee.{Float}
use Rattle.ground.specs.Answer.{written}
use Rattle.carriers.specs.Mode.{mode2k}
use Rattle.carriers.proofs.Facts.{facts2k}
use Rattle.carriers.proofs.Roles.{row-bins, row-cells}
use Rattle.carriers.proofs.reference_pilot_bins.Goals as goal

pub returns-clause-bins_after : goal.returns-clause-bins_after
returns-clause-bins_after c =
    let a = c.args in
    simp (le-ltb _ _ c.if-bins-lt-REFERENCE_PILOTS.false, le-ltb _ _ c.if-values-lt-REFERENCE_FLOATS.false)
    (c.decode.ensures.bins_after ∙ ap (λ (l : List ℕ). written l a.bins.now) (row-bins mode2k facts2k (a.phase % 4) _ c.reference_row.ensures))

pub returns-clause-values_after : goal.returns-clause-values_after
returns-clause-values_after c =
    let a = c.args in
    simp (le-ltb _ _ c.if-bins-lt-REFERENCE_PILOTS.false, le-ltb _ _ c.if-values-lt-REFERENCE_FLOATS.false)
    (c.decode.ensures.values_after ∙ ap (λ (l : List Float). written l a.values.now) (row-cells mode2k facts2k (a.phase % 4) _ c.reference_row.ensures))
