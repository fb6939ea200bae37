-- Document 01, 'TPS', sending; EN 300 744, 4.6.3: the cells of the TPS carriers in rising active order, imaginary +0.0,
-- at symbol 0 the sign of w, bit ignored if 0 or 1; later a 1 flips all signs.
use Rattle.std.specs.Prelude.{cond, List, [], ◌∷◌, map, ℕ, zero, suc, eqb, ltb, Float, Option}
use Rattle.std.specs.Float.{binary32}
use Rattle.std.specs.Float.Ieee.{of_bits, neg}
use Rattle.ground.specs.declared.Refusal.{Refusal}
use Rattle.ground.specs.Refusal.{NOT_A_BIT, OUTPUT_SHORT, ◌gives◌, first_of}
use Rattle.ground.specs.Answer.{counted, kept, written, short}
use Rattle.ground.specs.declared.Cell.{Cell}
use Rattle.carriers.specs.Mode.{Mode, tps_size}
use Rattle.carriers.specs.Sequence.{wk}
use Rattle.ground.specs.Cells.{flat, plus_zero}
use Rattle.tps.specs.declared.sender.TpsEncoder.{TpsEncoder}
use Rattle.tps.specs.declared.sender.Sent.{Sent}

-- the sign of a bit of w: +1 for 0, -1 for 1
unfoldable pub sign_of : ℕ → Float
sign_of zero = of_bits binary32 0x3F800000
sign_of (suc w) = of_bits binary32 0xBF800000

abbrev pub sign_cell : Float → Cell
sign_cell s = record { re = s; im = plus_zero }

module _ (m : Mode) where
  -- the signs of w at the TPS carriers
  unfoldable pub start_signs : List Float
  start_signs = map (λ a. sign_of (wk a)) m.tps

  -- a sender has started where `started` is anything but 0
  abbrev pub fresh_encoder : TpsEncoder
  fresh_encoder = record { signs = start_signs; started = 0 }

  -- the signs with which a bit is sent: at symbol 0 those of w, later those of the symbol before, all flipped by a 1
  abbrev pub signs_of : TpsEncoder → ℕ → List Float
  signs_of e bit = cond (eqb e.started 0) start_signs (cond (eqb bit 1) (map neg e.signs) e.signs)

  abbrev pub send_no : ℕ → List Float → Option Refusal
  send_no bit out = first_of (ltb 1 bit gives NOT_A_BIT ∷ short (tps_size m) out gives OUTPUT_SHORT ∷ [])

  -- what sending a bit answers, how many cells, with the sender after it
  abbrev pub send_answer : TpsEncoder → ℕ → List Float → Sent
  send_answer e bit out =
      record {
        answer = counted (send_no bit out) m.tps_count;
        encoder = kept (send_no bit out) (record { signs = signs_of e bit; started = 1 }) e;
      }

  -- and what it leaves in the lent output
  abbrev pub send_leaves : TpsEncoder → ℕ → List Float → List Float
  send_leaves e bit out = kept (send_no bit out) (written (flat (map sign_cell (signs_of e bit))) out) out
