-- `DvbTEnergyDispersal::advance_byte` meets its contract: at each turn the register is one step on. Assumes nothing.
use mathlib.Core.Path.{◌≡◌}
use Rattle.dispersal.specs.Register.{steps}
use Rattle.dispersal.proofs.DvbTEnergyDispersal.advance_byte.Given as goal

abbrev pub invariant-loop-i : goal.invariant-loop-i
invariant-loop-i l = l.reg ≡ steps l._i l.initial.reg
