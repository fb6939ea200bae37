-- `report::reading::bits_of` meets its contract: the bits are filled from the front, four a turn. Assumes nothing.
use Rattle.std.proofs.Common.{◌≡◌, take, replicate}
use lib.Seq.{sets}
use Rattle.report.specs.Reading.{bits_of}
use Rattle.report.proofs.reading.bits_of.Given as goal

abbrev pub invariant-loop-i : goal.invariant-loop-i
invariant-loop-i l = l.bits ≡ sets (replicate 68 0) 0 (bits_of (take l.i l.line))
