-- Document 01, 'TPS', receiving: a receiver that is lent in parts, its previous symbol's cells as floats, re and im in
-- turn, its 68 bits and its count.
use Rattle.std.specs.Prelude.{List, [], ◌∷◌, ℕ, Float, Result, leb}
use Rattle.ground.specs.declared.Refusal.{Refusal}
use Rattle.ground.specs.Refusal.{LENGTH, FULL, ◌gives◌, first_of}
use Rattle.ground.specs.Answer.{short}
use Rattle.carriers.specs.Mode.{Mode, tps_size}
use Rattle.tps.specs.Word.{SYMBOLS}
use Rattle.tps.specs.declared.receiver.TpsDecoder.{TpsDecoder}
use Rattle.tps.specs.declared.receiver.Fed.{Fed}
use Rattle.tps.specs.Receive.{first_cells, bit_of, bit_answer}

module _ (m : Mode) where
  -- the answer to a symbol's cells where count symbols stand, by the floats of the symbol before
  abbrev pub next_answer : ℕ → List Float → List Float → Result ℕ Refusal
  next_answer count cells prev =
      bit_answer
      (first_of (short (tps_size m) cells gives LENGTH ∷ leb SYMBOLS count gives FULL ∷ []))
      (bit_of m count (first_cells m.tps_count cells) (first_cells m.tps_count prev))

  abbrev pub lent_decoder : List Float → List ℕ → ℕ → TpsDecoder
  lent_decoder prev bits count = record { prev = first_cells m.tps_count prev; bits = bits; count = count }

  -- an answer, with the receiver that the parts say after the call
  abbrev pub lent_fed : Result ℕ Refusal → List Float → List ℕ → ℕ → Fed
  lent_fed answer prev bits count = record { answer = answer; decoder = lent_decoder prev bits count }
