-- What helpers' contracts cite: a table that is a permutation, and cells that were moved.
use Rattle.std.specs.Prelude.{◌≡◌, List, ℕ, ◌<◌, Float, length, get_or}
use Rattle.ground.specs.Cells.{cell_at}
use Rattle.interleaver.specs.Interleaving.{Wrote}

-- no two numbers of a list are equal, and all are below its length
pub record Apart (h : List ℕ) : Type 0 where
  pub below : (q : ℕ) → q < length h → get_or h q 0 < length h
  pub apart : (i j : ℕ) → i < j → j < length h → get_or h i 0 ≡ get_or h j 0 → ⊥

-- the first k moves are done: for each the cell of x where it was read stands where it was to be written
abbrev pub Moves : (ℕ → ℕ) → (ℕ → ℕ) → ℕ → List Float → List Float → Type 0
Moves to from k x y = (q : ℕ) → q < k → cell_at y (to q) ≡ cell_at x (from q)

-- the same, of an output of n cells with something behind them
abbrev pub Moved : ℕ → (ℕ → ℕ) → (ℕ → ℕ) → ℕ → List Float → List Float → List Float → Type 0
Moved n to from k x old new = Wrote n (Moves to from k x) old new
