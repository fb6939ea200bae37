-- `DvbTEnergyDispersal::feed_in_place` meets its contract: the bytes are whitened from their front on, and the mirrored
-- register stands behind them. Assumes nothing.
use mathlib.Core.Path.{◌≡◌}
use Prim.Native.Nat.{◌*◌}
use Rattle.ground.proofs.Front.{front}
use Rattle.dispersal.specs.Register.{steps, whitened}
use Rattle.dispersal.specs.Inner.{mirror}
use Rattle.dispersal.proofs.DvbTEnergyDispersal.feed_in_place.Given as goal

abbrev pub invariant-loop-byte : goal.invariant-loop-byte
invariant-loop-byte l = record {
  ahead : l.ahead ≡ mirror 15 (steps (8 * l.byte-index) (mirror 15 l.initial.ahead));
  bytes : l.bytes ≡ front (whitened (mirror 15 l.initial.ahead) l.initial.bytes) l.byte-index l.initial.bytes;
}
