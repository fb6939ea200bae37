-- Document 01, 'Energy dispersal': the register as a state by value, and what each whitening answers and leaves.
use Rattle.std.specs.Prelude.{List, ℕ, ◌*◌, ◌%◌, ◌^◌, length, Option}
use Rattle.ground.specs.Answer.{counted, kept, written, fill_no}
use Rattle.ground.specs.declared.Refusal.{Refusal}
use Rattle.dispersal.specs.declared.DvbTEnergyDispersal.{DvbTEnergyDispersal}
use Rattle.dispersal.specs.declared.Fed.{Fed}
use Rattle.dispersal.specs.Register.{steps, whitened}

-- the register that a whitener holds: its low 15 bits
abbrev pub register_of : DvbTEnergyDispersal → ℕ
register_of d = d.reg % 2 ^ 15

-- ---- bytes whitened where they stand: the whitener behind them, and the bytes
abbrev pub feed_in_place_answer : DvbTEnergyDispersal → List ℕ → DvbTEnergyDispersal
feed_in_place_answer d bytes = record { reg = steps (8 * length bytes) (register_of d) }

abbrev pub feed_in_place_leaves : DvbTEnergyDispersal → List ℕ → List ℕ
feed_in_place_leaves d bytes = whitened (register_of d) bytes

-- ---- bytes whitened into a lent output: its number, the whitener and the bytes written, and the output
abbrev pub feed_no : List ℕ → List ℕ → Option Refusal
feed_no bytes out = fill_no (length bytes) out

abbrev pub feed_answer : DvbTEnergyDispersal → List ℕ → List ℕ → Fed
feed_answer d bytes out = record {
  whitener = kept (feed_no bytes out) (feed_in_place_answer d bytes) d;
  answer = counted (feed_no bytes out) (length bytes);
}

abbrev pub feed_leaves : DvbTEnergyDispersal → List ℕ → List ℕ → List ℕ
feed_leaves d bytes out = kept (feed_no bytes out) (written (feed_in_place_leaves d bytes) out) out
