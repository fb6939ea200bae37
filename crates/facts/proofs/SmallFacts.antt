-- Document 01's ten small facts. Assumes nothing.
use mathlib.Core.Path.{refl}
use Rattle.dispersal.proofs.Whitening.{first_bytes}
use Rattle.carriers.proofs.SmallFacts.{wk-begins, four-bins, scattered-counts}
use Rattle.bch.proofs.Facts as bch
use Rattle.ts.proofs.Packets.{two_packets}
use Rattle.facts.specs.SmallFacts.{SmallFacts}

pub small-facts : SmallFacts
small-facts =
    record {
      first_dispersal_bytes = first_bytes;
      w_begins = wk-begins;
      actives_are_bins = four-bins;
      zero_parity = bch.zero_parity;
      s53_parity = bch.last-parity;
      three-are-no-word = bch.three-no-word;
      levels_of_four_bits = refl;
      levels_of_six_bits = refl;
      scattered_pilots = scattered-counts;
      payload_of_188 = two_packets;
    }
