-- `bch::field::Element::sum_at` meets its contract: the sum so far, and Horner's rule on the digits left, make the whole.
-- Assumes nothing.
use Prim.Native.Nat.{◌-◌}
use Rattle.bch.specs.Field.{times_power, horner}
use Rattle.bch.proofs.TimesX.{power_additive}
use Rattle.bch.proofs.Horner.{Summing}
use Rattle.bch.proofs.field.Element.sum_at.Given as goal

abbrev pub invariant-loop : goal.invariant-loop
invariant-loop l =
    Summing (times_power l.k) (power_additive l.k) (horner (times_power l.k) l.n l.fn.self.digits l.digits) l.sum l.term.digits l.rest (l.n - l.counter)
