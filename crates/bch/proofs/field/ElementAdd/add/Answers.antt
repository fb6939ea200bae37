-- The sum of two elements is an element. Assumes nothing.
use lib.Bits.{xor_lt}
use Rattle.bch.proofs.field.ElementAdd.add.Goals as goal

pub invariant_of-result : goal.invariant_of-result
invariant_of-result c = let a = c.args in record { below = xor_lt 7 a.self.digits a.other.digits a.self.below a.other.below }
