-- The refusals of sending, of receiving and of packing, said without the call: it is refused by a number exactly where
-- this is so. Assumes nothing.
use mathlib.Core.Path.{◌≡◌, refl, ◌∙◌}
use mathlib.Core.Logic.{◌↔◌}
use mathlib.Core.List.{List, [], ◌∷◌}
use Prim.Native.Nat.{ℕ, ◌<◌, ◌≤◌}
use lib.Dec.{leb}
use lib.Ieee.{Float}
use lib.ListN.{length}
use Rattle.std.specs.Prelude.{Result, Ok, Err}
use Rattle.ground.specs.declared.Refusal.{Refusal}
use Rattle.ground.specs.Refusal.{LENGTH, NOT_A_BIT, OUTPUT_SHORT, FULL, Test, ◌gives◌}
use Rattle.ground.specs.Answer.{number_of, short}
use Rattle.ground.proofs.Answers.{answer-says-number, counted-says-number}
use Rattle.ground.proofs.Exactly.{less_decides, at_most_decides, given-here, given-behind, said_exactly, fill_short_exactly}
use Rattle.carriers.specs.Mode.{Mode, tps_size}
use Rattle.tps.specs.declared.sender.TpsEncoder.{TpsEncoder}
use Rattle.tps.specs.declared.receiver.TpsDecoder.{TpsDecoder}
use Rattle.tps.specs.Word.{SYMBOLS}
use Rattle.tps.specs.Packing.{pack_no, pack_answer}
use Rattle.tps.specs.Send.{send_no, send_answer}
use Rattle.tps.specs.Receive.{bit_number, feed_no, fed_bit, feed_answer, standing, bits_no, bits_answer}

-- ---- sending

module _ (m : Mode) (e : TpsEncoder) (bit : ℕ) (o : List Float) where
  abbrev room : List Test
  room = short (tps_size m) o gives OUTPUT_SHORT ∷ []

  pub sending_not_a_bit : (number_of (send_answer m e bit o).answer ≡ NOT_A_BIT) ↔ (1 < bit)
  sending_not_a_bit = said_exactly (counted-says-number (send_no m bit o) m.tps_count) (given-here NOT_A_BIT room (less_decides 1 bit) tt)

  pub sending_output_short : (number_of (send_answer m e bit o).answer ≡ OUTPUT_SHORT) ↔ ((bit ≤ 1) × (length o < tps_size m))
  sending_output_short =
      said_exactly (counted-says-number (send_no m bit o) m.tps_count)
      (given-behind NOT_A_BIT OUTPUT_SHORT room (less_decides 1 bit) tt (λ b. fill_short_exactly (tps_size m) o))

-- ---- receiving

-- the number that an answer says is its refusal
pub bit-number-is : (a : Result ℕ Refusal) → bit_number a ≡ number_of a
bit-number-is (Ok b) = refl
bit-number-is (Err k) = refl

module _ (m : Mode) (d : TpsDecoder) (s : List Float) where
  abbrev full : List Test
  full = leb SYMBOLS d.count gives FULL ∷ []

  pub feeding_length : (bit_number (feed_answer m d s).answer ≡ LENGTH) ↔ (length s < tps_size m)
  feeding_length =
      said_exactly (bit-number-is (feed_answer m d s).answer ∙ answer-says-number (feed_no m d s) (fed_bit m d s)) (given-here LENGTH full (less_decides (length s) (tps_size m)) tt)

  pub feeding_full : (bit_number (feed_answer m d s).answer ≡ FULL) ↔ ((tps_size m ≤ length s) × (SYMBOLS ≤ d.count))
  feeding_full =
      said_exactly (bit-number-is (feed_answer m d s).answer ∙ answer-says-number (feed_no m d s) (fed_bit m d s))
      (given-behind LENGTH FULL full (less_decides (length s) (tps_size m)) tt (λ l. given-here FULL [] (at_most_decides SYMBOLS d.count) tt))

pub bits-output-short : (d : TpsDecoder) (o : List ℕ) → (number_of (bits_answer d o) ≡ OUTPUT_SHORT) ↔ (length o < standing d)
bits-output-short d o = said_exactly (counted-says-number (bits_no d o) (standing d)) (fill_short_exactly (standing d) o)

-- ---- packing

pub packing_output_short : (o : List ℕ) → (number_of (pack_answer o) ≡ OUTPUT_SHORT) ↔ (length o < SYMBOLS)
packing_output_short o = said_exactly (counted-says-number (pack_no o) SYMBOLS) (fill_short_exactly SYMBOLS o)
