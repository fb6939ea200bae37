-- Two results that meet the promise of a call are equal, for each public call; and each refusal is given exactly where
-- document 01 says. For any mode. Assumes nothing.
use mathlib.Core.Path.{◌≡◌, refl}
use mathlib.Core.Bool.{Bool, true, false}
use mathlib.Core.Logic.{◌↔◌, ◌⊎◌, inl, inr}
use mathlib.Core.List.{List, [], ◌∷◌}
use Prim.Native.Nat.{ℕ, ◌*◌, ◌<◌, ◌≤◌}
use lib.Ieee.{Float}
use lib.ListN.{length}
use Rattle.ground.specs.Answer.{short}
use Rattle.ground.specs.Refusal.{LENGTH, OUTPUT_SHORT, RETIRED, ◌gives◌, first_of}
use Rattle.ground.proofs.Answers.{OneAnswer, one_answer, OneResult, one-result}
use Rattle.ground.proofs.Exactly.{less_decides, given-here, given-behind, given_otherwise, fill_short_exactly}
use Rattle.carriers.specs.Mode.{Mode}
use Rattle.grid.specs.declared.ScatteredPilotMapper.{ScatteredPilotMapper}
use Rattle.grid.specs.declared.ScatteredPilotExtractor.{ScatteredPilotExtractor}
use Rattle.grid.specs.Calls.{
  phase_of,
  map_no,
  extract_no,
  map_answer,
  map_leaves,
  extract_answer,
  extract_leaves,
  grid_map_no,
  grid_map_answer,
  grid_extract_answer,
  grid_extract_leaves,
}

-- a mapper and an extractor that are new or were reset
pub mapper_determined : OneAnswer {A = ScatteredPilotMapper} (record { phase = 0 })
mapper_determined = one_answer (record { phase = 0 })

pub extractor_determined : OneAnswer {A = ScatteredPilotExtractor} (record { phase = 0 })
extractor_determined = one_answer (record { phase = 0 })

pub phase_determined : (p : ℕ) → OneAnswer (phase_of p)
phase_determined p = one_answer (phase_of p)

length_or_retired : (t : Bool) → let number = first_of (t gives LENGTH ∷ true gives RETIRED ∷ []) in (number ≡ LENGTH) ⊎ (number ≡ RETIRED)
length_or_retired true = inl refl
length_or_retired false = inr refl

module _ (m : Mode) (d o : List Float) where
  pub map_determined : (s : ScatteredPilotMapper) → OneResult (map_answer m s d o) (map_leaves m (phase_of s.phase) d o)
  map_determined s = one-result (map_answer m s d o) (map_leaves m (phase_of s.phase) d o)

  pub extract_determined : (s : ScatteredPilotExtractor) → OneResult (extract_answer m s d o) (extract_leaves m (phase_of s.phase) d o)
  extract_determined s = one-result (extract_answer m s d o) (extract_leaves m (phase_of s.phase) d o)

  pub grid_map_determined : OneResult (grid_map_answer m d) o
  grid_map_determined = one-result (grid_map_answer m d) o

  pub grid_extract_determined : OneResult (grid_extract_answer m d o) (grid_extract_leaves m d o)
  grid_extract_determined = one-result (grid_extract_answer m d o) (grid_extract_leaves m d o)

  -- ---- refusals, of mapping onto the static grid, which is never accepted

  pub grid_map_length_exactly : (grid_map_no m d ≡ LENGTH) ↔ (length d < 2 * m.static_count)
  grid_map_length_exactly = given-here LENGTH (true gives RETIRED ∷ []) (less_decides (length d) (2 * m.static_count)) tt

  pub grid_map_retired_exactly : (grid_map_no m d ≡ RETIRED) ↔ (2 * m.static_count ≤ length d)
  grid_map_retired_exactly = given_otherwise LENGTH RETIRED (true gives RETIRED ∷ []) (less_decides (length d) (2 * m.static_count)) tt refl

  pub grid_map_always_refused : (grid_map_no m d ≡ LENGTH) ⊎ (grid_map_no m d ≡ RETIRED)
  grid_map_always_refused = length_or_retired (short (2 * m.static_count) d)

  -- ---- refusals, of mapping n data cells of a phase, and of extracting n: those of a phase and of the static grid

  module _ (n : ℕ) where
    pub map_length_exactly : (map_no m n d o ≡ LENGTH) ↔ (length d < 2 * n)
    map_length_exactly = given-here LENGTH (short (2 * m.bins) o gives OUTPUT_SHORT ∷ []) (less_decides (length d) (2 * n)) tt

    pub map_short_exactly : (map_no m n d o ≡ OUTPUT_SHORT) ↔ ((2 * n ≤ length d) × (length o < 2 * m.bins))
    map_short_exactly =
        given-behind LENGTH OUTPUT_SHORT (short (2 * m.bins) o gives OUTPUT_SHORT ∷ []) (less_decides (length d) (2 * n)) tt
        (λ enough. fill_short_exactly (2 * m.bins) o)

    pub extract_length_exactly : (extract_no m n d o ≡ LENGTH) ↔ (length d < 2 * m.bins)
    extract_length_exactly = given-here LENGTH (short (2 * n) o gives OUTPUT_SHORT ∷ []) (less_decides (length d) (2 * m.bins)) tt

    pub extract_short_exactly : (extract_no m n d o ≡ OUTPUT_SHORT) ↔ ((2 * m.bins ≤ length d) × (length o < 2 * n))
    extract_short_exactly =
        given-behind LENGTH OUTPUT_SHORT (short (2 * n) o gives OUTPUT_SHORT ∷ []) (less_decides (length d) (2 * m.bins)) tt
        (λ enough. fill_short_exactly (2 * n) o)
