-- `session::halves::replay` meets its contract: after n chunks the TPS decoder was fed the first n places, and what is left begins behind these.
-- Assumes nothing.
use mathlib.Core.Path.{◌≡◌}
use Prim.Native.Nat.{◌*◌}
use lib.ListN.{length, drop}
use Rattle.std.specs.Iterator.Adapters.{take_source}
use Rattle.std.specs.Slice.Iter.{chunks_exact_rest, chunks_exact_size}
use Rattle.carriers.specs.Mode.{mode2k}
use Rattle.tps.specs.Lent.{lent_decoder}
use Rattle.session.specs.Journal.{place, places_in, decoder_on}
use Rattle.session.proofs.halves.replay.Given as goal

abbrev pub invariant-loop-cells : goal.invariant-loop-cells
invariant-loop-cells l = record {
  size : chunks_exact_size (take_source l.cells-iterator) ≡ place mode2k;
  rest : chunks_exact_rest (take_source l.cells-iterator) ≡ drop (length l.yielded * place mode2k) l.frame;
  fed : lent_decoder mode2k l.prev l.bits l.count ≡ decoder_on mode2k (places_in mode2k (length l.yielded) l.frame);
}
