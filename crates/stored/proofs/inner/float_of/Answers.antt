-- `stored::inner::float_of`: what it makes a float of is no NaN's pattern. Assumes nothing.
use Rattle.std.proofs.Common.{not, T, sym, ◌∙◌, subst, le-ltb}
use lib.Ieee.{binary32}
use lib.Ieee.Bits.{nan_bits_above}
use Rattle.stored.proofs.inner.float_of.Goals as goal

pub float_from_bits-result : goal.float_from_bits-result
float_from_bits-result c = subst (λ b. T (not b)) (sym (nan_bits_above binary32 c.args.bits ∙ le-ltb _ _ c.if-bits-gt2139095040.false)) tt
