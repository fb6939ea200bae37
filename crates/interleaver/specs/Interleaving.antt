-- Document 02, E6; EN 300 744, 4.3.4.2: the cells of a symbol in their coded order and in the order in which they are
-- sent. Even symbols: cell q is sent at place H(q). Odd symbols: at place q cell H(q) is sent. A cell is two f32.
use Rattle.std.specs.Prelude.{◌≡◌, List, [], ◌∷◌, ℕ, zero, suc, ◌*◌, ◌%◌, ◌<◌}
use Rattle.std.specs.Prelude.{Float, length, drop, Option, Result}
use Rattle.ground.specs.Answer.{counted, kept, short}
use Rattle.ground.specs.Cells.{cell_at}
use Rattle.ground.specs.Refusal.{LENGTH, OUTPUT_SHORT, ◌gives◌, first_of}
use Rattle.ground.specs.declared.Refusal.{Refusal}
use Rattle.interleaver.specs.Permutation.{Interleaver, place}

-- the first where a number is even, the second where it is odd
abbrev pub by_parity : {A : Type 1} → ℕ → A → A → A
by_parity zero even odd = even
by_parity (suc k) even odd = odd

-- what a call leaves that writes n cells, of which P is so: the output is as long as it was, and nothing behind the
-- cells changes
pub record Wrote (n : ℕ) (P : List Float → Type 0) (old new : List Float) : Type 0 where
  pub cells : P new
  pub long : length new ≡ length old
  pub behind : drop (2 * n) new ≡ drop (2 * n) old

module _ (m : Interleaver) where
  -- each cell of x stands in y at its place: y[H(q)] = x[q] for every q
  abbrev pub AtPlaces : List Float → List Float → Type 0
  AtPlaces x y = (q : ℕ) → q < m.places → cell_at y (place m q) ≡ cell_at x q

  -- y are the cells x of a symbol, interleaved: y[H(q)] = x[q] in even symbols, x[H(q)] = y[q] in odd ones
  abbrev pub Interleaved : ℕ → List Float → List Float → Type 0
  Interleaved symbol x y = by_parity (symbol % 2) (AtPlaces x y) (AtPlaces y x)

  -- y are the cells that give x where they are interleaved
  abbrev pub Deinterleaved : ℕ → List Float → List Float → Type 0
  Deinterleaved symbol x y = Interleaved symbol y x

  -- ---- the calls, of which both are refused alike: LENGTH for short cells, OUTPUT SHORT for a short output

  abbrev pub reorder_no : List Float → List Float → Option Refusal
  reorder_no x out =
      first_of (short (2 * m.places) x gives LENGTH ∷ short (2 * m.places) out gives OUTPUT_SHORT ∷ [])

  -- they answer the cells
  abbrev pub reorder_answer : List Float → List Float → Result ℕ Refusal
  reorder_answer x out = counted (reorder_no x out) m.places

  -- and leave them in the output
  abbrev pub Interleaves : ℕ → List Float → List Float → List Float → Type 0
  Interleaves symbol x old new =
      kept (reorder_no x old) (Wrote m.places (Interleaved symbol x) old new) (new ≡ old)

  abbrev pub Deinterleaves : ℕ → List Float → List Float → List Float → Type 0
  Deinterleaves symbol x old new =
      kept (reorder_no x old) (Wrote m.places (Deinterleaved symbol x) old new) (new ≡ old)
