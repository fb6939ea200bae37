-- Two results that meet the promise of a call are equal, for each public call; and each refusal is given exactly where
-- document 01 says. For any mode. Assumes nothing.
use mathlib.Core.Path.{◌≡◌}
use mathlib.Core.Logic.{◌↔◌, ◌⊎◌}
use mathlib.Core.List.{List, [], ◌∷◌}
use Prim.Native.Nat.{ℕ, ◌*◌, ◌<◌, ◌≤◌}
use lib.IntN.{ℤ, nat_abs}
use lib.Dec.{leb}
use lib.Ieee.{Float}
use lib.ListN.{length}
use Rattle.ground.specs.Answer.{short, fill_no, fill_answer, fill_leaves}
use Rattle.ground.specs.Refusal.{LENGTH, NOT_A_BIT, OUTPUT_SHORT, ◌gives◌}
use Rattle.ground.proofs.Answers.{OneAnswer, one_answer, OneResult, one-result}
use Rattle.ground.proofs.Exactly.{less_decides, at_most_decides, given-here, given-either, fill_short_exactly}
use Rattle.carriers.specs.Mode.{Mode}
use Rattle.carriers.specs.Count.{active_of}
use Rattle.carriers.specs.Sequence.{wk_from}
use Rattle.carriers.specs.Carriers.{scattered, data_bins, static_bins, continual_bins, tps_bins}
use Rattle.carriers.specs.Answers.{
  as_actives,
  as_bins,
  active_to_signed_no,
  active_to_signed_answer,
  signed_to_bin_no,
  signed_to_bin_answer,
  bin_to_active_no,
  bin_to_active_answer,
  boosted_no,
  boosted_answer,
  reference_no,
  reference_answer,
  reference_bins_leaves,
  reference_values_leaves,
}

-- ---- the pilot sequence and a pilot's value

pub wk_determined : (out : List ℕ) → OneAnswer (wk_from 0 (length out))
wk_determined out = one_answer (wk_from 0 (length out))

pub boosted_determined : (w : ℕ) → OneAnswer (boosted_answer w)
boosted_determined w = one_answer (boosted_answer w)

pub boosted_bit_exactly : (w : ℕ) → (boosted_no w ≡ NOT_A_BIT) ↔ (1 < w)
boosted_bit_exactly w = given-here NOT_A_BIT [] (less_decides 1 w) tt

module _ (m : Mode) where
  -- ---- the three counts

  pub active_to_signed_determined : (a : ℕ) → OneAnswer (active_to_signed_answer m a)
  active_to_signed_determined a = one_answer (active_to_signed_answer m a)

  pub signed_to_bin_determined : (z : ℤ) → OneAnswer (signed_to_bin_answer m z)
  signed_to_bin_determined z = one_answer (signed_to_bin_answer m z)

  pub bin_to_active_determined : (b : ℕ) → OneAnswer (bin_to_active_answer m b)
  bin_to_active_determined b = one_answer (bin_to_active_answer m b)

  pub active_length_exactly : (a : ℕ) → (active_to_signed_no m a ≡ LENGTH) ↔ (m.actives ≤ a)
  active_length_exactly a = given-here LENGTH [] (at_most_decides m.actives a) tt

  pub signed_length_exactly : (z : ℤ) → (signed_to_bin_no m z ≡ LENGTH) ↔ (m.center < nat_abs z)
  signed_length_exactly z = given-here LENGTH [] (less_decides m.center (nat_abs z)) tt

  -- a bin that no active carrier has
  pub bin_length_exactly : (b : ℕ) → (bin_to_active_no m b ≡ LENGTH) ↔ ((m.bins ≤ b) ⊎ (m.actives ≤ active_of m b))
  bin_length_exactly b =
      given-either LENGTH (leb m.actives (active_of m b) gives LENGTH ∷ []) (at_most_decides m.bins b)
      (given-here LENGTH [] (at_most_decides m.actives (active_of m b)) tt)

  -- ---- lists of carriers

  pub continual_indices_determined : OneAnswer (as_actives m.continual)
  continual_indices_determined = one_answer (as_actives m.continual)

  pub tps_indices_determined : OneAnswer (as_actives m.tps)
  tps_indices_determined = one_answer (as_actives m.tps)

  pub continual_bins_determined : OneAnswer (as_bins (continual_bins m))
  continual_bins_determined = one_answer (as_bins (continual_bins m))

  pub tps_bins_determined : OneAnswer (as_bins (tps_bins m))
  tps_bins_determined = one_answer (as_bins (tps_bins m))

  module _ (out : List ℕ) where
    -- a list l of which a call writes n items: the scattered pilots, the data bins of a phase and of the static grid
    pub list_determined : (n : ℕ) (l : List ℕ) → OneResult (fill_answer n out) (fill_leaves n l out)
    list_determined n l = one-result (fill_answer n out) (fill_leaves n l out)

    pub scattered_determined : (p : ℕ)
        → OneResult (fill_answer (length (scattered m p)) out) (fill_leaves (length (scattered m p)) (scattered m p) out)
    scattered_determined p = list_determined (length (scattered m p)) (scattered m p)

    pub data_bins_determined : (p : ℕ) → OneResult (fill_answer m.data_count out) (fill_leaves m.data_count (data_bins m p) out)
    data_bins_determined p = list_determined m.data_count (data_bins m p)

    pub static_bins_determined : OneResult (fill_answer m.static_count out) (fill_leaves m.static_count (static_bins m) out)
    static_bins_determined = list_determined m.static_count (static_bins m)

    pub scattered_short_exactly : (p : ℕ) → (fill_no (length (scattered m p)) out ≡ OUTPUT_SHORT) ↔ (length out < length (scattered m p))
    scattered_short_exactly p = fill_short_exactly (length (scattered m p)) out

    pub data_bins_short_exactly : (fill_no m.data_count out ≡ OUTPUT_SHORT) ↔ (length out < m.data_count)
    data_bins_short_exactly = fill_short_exactly m.data_count out

    pub static_bins_short_exactly : (fill_no m.static_count out ≡ OUTPUT_SHORT) ↔ (length out < m.static_count)
    static_bins_short_exactly = fill_short_exactly m.static_count out

  -- ---- the reference pilots of phase p, their bins into b and their values into v

  module _ (b : List ℕ) (v : List Float) where
    pub reference_determined : (p : ℕ)
        → OneResult {B = List ℕ × List Float} (reference_answer m b v) (reference_bins_leaves m p b v, reference_values_leaves m p b v)
    reference_determined p =
        one-result {B = List ℕ × List Float} (reference_answer m b v) (reference_bins_leaves m p b v, reference_values_leaves m p b v)

    pub reference_short_exactly : (reference_no m b v ≡ OUTPUT_SHORT)
        ↔ ((length b < m.reference_count) ⊎ (length v < 2 * m.reference_count))
    reference_short_exactly =
        given-either OUTPUT_SHORT (short (2 * m.reference_count) v gives OUTPUT_SHORT ∷ []) (less_decides (length b) m.reference_count)
        (given-here OUTPUT_SHORT [] (less_decides (length v) (2 * m.reference_count)) tt)
