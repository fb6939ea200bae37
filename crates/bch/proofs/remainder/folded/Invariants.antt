-- `bch::remainder::folded` meets its contract: the terms so far are folded down into the sum. Assumes nothing.
use mathlib.Core.Path.{◌≡◌}
use Rattle.bch.specs.Polynomial.{degrees_of, folded}
use Rattle.bch.proofs.remainder.folded.Given as goal

abbrev pub invariant-loop-degree : goal.invariant-loop-degree
invariant-loop-degree l = l.sum ≡ folded (degrees_of l.degree l.terms) l.low l.high
