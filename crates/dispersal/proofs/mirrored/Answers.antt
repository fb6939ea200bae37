-- `dispersal::mirrored` meets its contract: fifteen bits moved up by one are reversed as sixteen. Assumes nothing.
use mathlib.Core.Path.{◌∙◌}
use Prim.Native.Nat.{◌%◌, ◌^◌}
use Rattle.dispersal.proofs.Mirror.{reversed_sixteen}
use Rattle.dispersal.proofs.mirrored.Goals as goal

pub returns : goal.returns
returns c = c.reverse_bits.ensures ∙ reversed_sixteen (c.args.bits % 2 ^ 15)
