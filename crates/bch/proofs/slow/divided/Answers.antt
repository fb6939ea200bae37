-- `bch::slow::divided` meets its contract: a step of long division. Assumes nothing.
use mathlib.Core.Path.{ap, ◌∙◌}
use native.Mathlib.Omega.{arith}
use Rattle.bch.specs.Code.{step}
use Rattle.bch.proofs.TriedChanges.{step-below, step_reached}
use Rattle.bch.proofs.slow.divided.Goals as goal

pub returns-then-longer-lt16384 : goal.returns-then-longer-lt16384
returns-then-longer-lt16384 c = let a = c.args in step-below a.rest c.from.result c.if-longer-lt16384.true ∙ ap (step a.rest) c.from.ensures

pub returns : goal.returns
returns c =
    let a = c.args in
    step_reached a.rest c.from.result c.requires.0 (omega (arith, c.requires.1, c.from.ensures)) c.if-longer-lt16384.false ∙ ap (step a.rest) c.from.ensures
