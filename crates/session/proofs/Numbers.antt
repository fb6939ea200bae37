-- A feed and a step back have each number exactly where document 01 and document 02's E8 say; and what they promise where they are refused, and where not.
-- Assumes nothing.
use mathlib.Core.Path.{◌≡◌}
use mathlib.Core.Bool.{not}
use mathlib.Core.Logic.{◌⊎◌, ◌↔◌}
use mathlib.Core.List.{List, [], ◌∷◌}
use Prim.Native.Nat.{ℕ, ◌<◌, ◌≤◌}
use lib.Dec.{T, eqb, ltb}
use lib.Ieee.{Float}
use Rattle.std.specs.Prelude.{Option, Some, Ok}
use Rattle.ground.specs.declared.Refusal.{Refusal}
use Rattle.ground.specs.Refusal.{ACCEPTED, LENGTH, OUTPUT_SHORT, FULL, EMPTY, code, Test, ◌gives◌, first_of}
use Rattle.ground.proofs.Exactly.{
  Decides,
  less_decides,
  at_most_decides,
  equal_decides,
  not_decides,
  both_decides,
  given-here,
  given-either,
  given-behind,
  accepted-last,
}
use Rattle.carriers.specs.Mode.{Mode, symbol_size, data_size}
use Rattle.grid.specs.Calls.{extract_leaves}
use Rattle.session.specs.declared.Session.{Session}
use Rattle.tps.specs.Word.{SYMBOLS}
use Rattle.session.specs.Journal.{tps_cells, journal_size, in_place}
use Rattle.session.specs.Session.{
  FRAMES,
  next_phase,
  full,
  feed_no_of,
  open_of,
  fed_by,
  refused,
  feed_no,
  Feeds,
  crosses,
  lost,
  step_back_no_of,
  step_back_no,
  back_of,
  step_back_answer,
}

-- ---- the tests of the frame count

module _ (frames n : ℕ) where
  pub full_decides : Decides (full frames n) ((FRAMES ≤ frames) × (SYMBOLS ≤ n)) ((frames < FRAMES) ⊎ (n < SYMBOLS))
  full_decides = both_decides (at_most_decides FRAMES frames) (at_most_decides SYMBOLS n)

  pub crosses_decides : Decides (crosses frames n) ((n ≡ 1) × (1 ≤ frames)) ((n ≡ 1 → ⊥) ⊎ (frames < 1))
  crosses_decides = both_decides (equal_decides n 1) (at_most_decides 1 frames)

  pub lost_decides : (behind : ℕ)
      → Decides (lost frames behind n) (((n ≡ 1) × (1 ≤ frames)) × (behind ≡ 0 → ⊥)) (((n ≡ 1 → ⊥) ⊎ (frames < 1)) ⊎ (behind ≡ 0))
  lost_decides behind = both_decides crosses_decides (not_decides (equal_decides behind 0))

-- ---- a feed's number: by the lengths of the symbol, the lent data and the lent journal, the frame count, and how many symbols stand in the frame

module _ (m : Mode) (symbol out journal frames n : ℕ) where
  -- the last test, and those behind each other one
  abbrev last : List Test
  last = full frames n gives FULL ∷ []

  abbrev behind-data : List Test
  behind-data = ltb journal (journal_size m) gives OUTPUT_SHORT ∷ last

  abbrev behind_symbol : List Test
  behind_symbol = ltb out (data_size m) gives OUTPUT_SHORT ∷ behind-data

  pub feed-length : (feed_no_of m symbol out journal frames n ≡ LENGTH) ↔ (symbol < symbol_size m)
  unfolding feed_no_of
  feed-length = given-here LENGTH behind_symbol (less_decides symbol (symbol_size m)) tt

  pub feed-short : (feed_no_of m symbol out journal frames n ≡ OUTPUT_SHORT)
      ↔ ((symbol_size m ≤ symbol) × ((out < data_size m) ⊎ (journal < journal_size m)))
  unfolding feed_no_of
  feed-short =
      given-behind LENGTH OUTPUT_SHORT behind_symbol (less_decides symbol (symbol_size m)) tt (λ h.
      given-either OUTPUT_SHORT behind-data (less_decides out (data_size m)) (given-here OUTPUT_SHORT last (less_decides journal (journal_size m)) tt))

  -- the lengths suffice, and the last test is left
  suffice : {P : Type 0} (k : Option Refusal) → T (not (eqb (code k) (code LENGTH))) → T (not (eqb (code k) (code OUTPUT_SHORT))) → (first_of last ≡ k) ↔ P
      → (feed_no_of m symbol out journal frames n ≡ k) ↔ ((symbol_size m ≤ symbol) × ((data_size m ≤ out) × ((journal_size m ≤ journal) × P)))
  unfolding feed_no_of
  suffice k a b h =
      given-behind LENGTH k behind_symbol (less_decides symbol (symbol_size m)) a (λ i.
      given-behind OUTPUT_SHORT k behind-data (less_decides out (data_size m)) b (λ i.
      given-behind OUTPUT_SHORT k last (less_decides journal (journal_size m)) b (λ i. h)))

  pub feed-full : (feed_no_of m symbol out journal frames n ≡ FULL)
      ↔ ((symbol_size m ≤ symbol) × ((data_size m ≤ out) × ((journal_size m ≤ journal) × ((FRAMES ≤ frames) × (SYMBOLS ≤ n)))))
  feed-full = suffice FULL tt tt (given-here FULL [] (full_decides frames n) tt)

  pub feed-taken : (feed_no_of m symbol out journal frames n ≡ ACCEPTED)
      ↔ ((symbol_size m ≤ symbol) × ((data_size m ≤ out) × ((journal_size m ≤ journal) × ((frames < FRAMES) ⊎ (n < SYMBOLS)))))
  feed-taken = suffice ACCEPTED tt tt (accepted-last FULL (full_decides frames n) tt)

-- ---- a step back's number: by the length of the lent journal, the frame count, whether a later frame was begun, and how many symbols stand in the frame

module _ (m : Mode) (journal frames behind n : ℕ) where
  abbrev ends : List Test
  ends = lost frames behind n gives EMPTY ∷ []

  abbrev behind-journal : List Test
  behind-journal = eqb n 0 gives EMPTY ∷ ends

  pub step-short : (step_back_no_of m journal frames behind n ≡ OUTPUT_SHORT) ↔ (journal < journal_size m)
  unfolding step_back_no_of
  step-short = given-here OUTPUT_SHORT behind-journal (less_decides journal (journal_size m)) tt

  pub step-empty : (step_back_no_of m journal frames behind n ≡ EMPTY)
      ↔ ((journal_size m ≤ journal) × ((n ≡ 0) ⊎ (((n ≡ 1) × (1 ≤ frames)) × (behind ≡ 0 → ⊥))))
  unfolding step_back_no_of
  step-empty =
      given-behind OUTPUT_SHORT EMPTY behind-journal (less_decides journal (journal_size m)) tt (λ h.
      given-either EMPTY ends (equal_decides n 0) (given-here EMPTY [] (lost_decides frames n behind) tt))

  pub step-taken : (step_back_no_of m journal frames behind n ≡ ACCEPTED)
      ↔ ((journal_size m ≤ journal) × ((n ≡ 0 → ⊥) × (((n ≡ 1 → ⊥) ⊎ (frames < 1)) ⊎ (behind ≡ 0))))
  unfolding step_back_no_of
  step-taken =
      given-behind OUTPUT_SHORT ACCEPTED behind-journal (less_decides journal (journal_size m)) tt (λ h.
      given-behind EMPTY ACCEPTED ends (equal_decides n 0) tt (λ i. accepted-last EMPTY (lost_decides frames n behind) tt))

-- ---- the promises by cases of the number

module _ (m : Mode) (s : Session) (symbol out journal : List Float) where
  pub fed-refused : (k : Refusal) → feed_no m s symbol out journal ≡ Some k → Feeds m s symbol out journal (refused k s) out journal
  fed-refused k e = record { result = simp e; data_cells = simp e; journal_cells = simp e }

  pub fed-accepted :
      feed_no m s symbol out journal ≡ ACCEPTED
      → Feeds m s symbol out journal (fed_by m (open_of m s) (tps_cells m symbol)) (extract_leaves m (next_phase s) symbol out)
      (in_place m (open_of m s).frames (open_of m s).count (tps_cells m symbol) journal)
  fed-accepted e = record { result = simp e; data_cells = simp e; journal_cells = simp e }

module _ (m : Mode) (s : Session) (journal : List Float) where
  pub stepped_refused_lem : (k : Refusal) → step_back_no m s journal ≡ Some k → step_back_answer m s journal ≡ refused k s
  stepped_refused_lem k e = simp e

  pub stepped_taken : step_back_no m s journal ≡ ACCEPTED → step_back_answer m s journal ≡ record { answer = Ok tt; session = back_of m s journal }
  stepped_taken e = simp e
