-- Cells that are moved one after the other: one move more, wherever each is read and written, while no two are written at one place. Assumes nothing.
use mathlib.Core.Path.{◌≡◌, refl, sym, subst, ◌∙◌}
use mathlib.Core.List.{List}
use Prim.Native.Nat.{ℕ, zero, suc, ◌+◌, ◌*◌, ◌≤◌, ◌<◌}
use native.Mathlib.Numerals.{add-one}
use native.Mathlib.Omega.{arith}
use lib.Ieee.{Float}
use lib.ListN.{length, drop, set}
use lib.Seq.{drop-set-lt}
use borrow.Author.Count.{below_more}
use Rattle.ground.specs.declared.Cell.{Cell}
use Rattle.ground.specs.Cells.{cell_at, set_cell}
use Rattle.ground.proofs.Cells.{set_cell_same, set_cell_other, set_cell_length}
use Rattle.interleaver.specs.Inner.{Moved}

set_cell_behind : (s : List Float) (n b : ℕ) (c : Cell) → b < n → drop (2 * n) (set_cell s b c) ≡ drop (2 * n) s
set_cell_behind s n b c h =
    drop-set-lt (2 * n) (set s (2 * b) c.re) (2 * b + 1) c.im (omega arith) ∙ drop-set-lt (2 * n) s (2 * b) c.re (omega arith)

module _ (n : ℕ) (to from : ℕ → ℕ) (x old : List Float) where
  pub none-moved : Moved n to from 0 x old old
  none-moved = record { cells = λ q h. absurd (omega arith); long = refl; behind = refl }

  pub moved-next : (k : ℕ) (s t : List Float) (c : Cell) → 2 * n ≤ length old → to k < n → ((q : ℕ) → q < k → to q ≡ to k → ⊥)
      → Moved n to from k x old s → c ≡ cell_at x (from k) → t ≡ set_cell s (to k) c → Moved n to from (k + 1) x old t
  moved-next k s t c room h apart m ec et =
      rw et (record {
        cells =
            below_more _ _
            (λ q l. set_cell_other s (to k) c (to q) (λ g. apart q l (sym g)) ∙ m.cells q l)
            (set_cell_same s (to k) c (omega (arith, m.long)) ∙ ec);
        long = set_cell_length s (to k) c ∙ m.long;
        behind = set_cell_behind s n (to k) c h ∙ m.behind;
      })

  -- the list that so many moves lead to
  pub record After (k : ℕ) : Type 0 where
    pub new : List Float
    pub moved : Moved n to from k x old new

  pub moves_exist : 2 * n ≤ length old → ((k : ℕ) → k < n → to k < n) → ((i j : ℕ) → i < j → j < n → to i ≡ to j → ⊥) → (k : ℕ) → k ≤ n → After k
  moves_exist room below apart zero h = record { new = old; moved = none-moved }
  moves_exist room below apart (suc k) h =
      let a = moves_exist room below apart k (omega arith) in
      record {
        new = set_cell a.new (to k) (cell_at x (from k));
        moved =
            subst (λ (j : ℕ). Moved n to from j x old (set_cell a.new (to k) (cell_at x (from k)))) (add-one k)
            (moved-next k a.new _ (cell_at x (from k)) room (below k (omega arith)) (λ q l. apart q k l (omega arith)) a.moved refl refl);
      }
