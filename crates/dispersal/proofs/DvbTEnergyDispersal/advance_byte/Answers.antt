-- `DvbTEnergyDispersal::advance_byte` meets its contract: at each turn the register is one step on. Assumes nothing.
use mathlib.Core.Path.{refl, sym, ap, ◌∙◌, subst}
use Prim.Native.Nat.{ℕ, ◌%◌, ◌<◌, ◌^◌}
use native.Mathlib.Omega.{arith}
use Rattle.dispersal.specs.Register.{steps, step}
use Rattle.dispersal.proofs.Register.{steps-lt, steps_more}
use Rattle.dispersal.proofs.DvbTEnergyDispersal.advance_byte.Goals as goal

pub loop-i-init : goal.loop-i-init
unfolding steps
loop-i-init c = refl

pub step-reg-requires : goal.step-reg-requires
step-reg-requires c = let l = c.loop-i in subst (λ (r : ℕ). r < 2 ^ 15) (sym l.invariant) (steps-lt l._i (c.args.self.reg % 2 ^ 15) (omega arith))

pub loop-i-preserved : goal.loop-i-preserved
loop-i-preserved c = let l = c.loop-i in c.step-reg.ensures ∙ ap step l.invariant ∙ steps_more l._i (c.args.self.reg % 2 ^ 15)
