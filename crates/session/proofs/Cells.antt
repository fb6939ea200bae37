-- The TPS cells of a symbol are a place long. Cells in a row, each w f32: how long they are, the row without its latest, and the places of a journal that
-- begins with them. Assumes nothing.
use mathlib.Core.Path.{◌≡◌, refl, sym, ap, ap₂, ◌∙◌}
use mathlib.Core.List.{List, [], ◌∷◌, ◌++◌}
use Prim.Native.Nat.{ℕ, ◌+◌, ◌*◌}
use native.Mathlib.Nat.{zero-mul, suc-mul}
use native.Mathlib.Omega.{arith}
use lib.Ieee.{Float}
use lib.ListN.{length, take, drop, length-append, length-map}
use lib.Seq.{take_at}
use Rattle.ground.specs.Cells.{cell_at, flat}
use Rattle.ground.proofs.Cells.{flat-length}
use Rattle.carriers.specs.Mode.{Mode}
use Rattle.carriers.specs.Carriers.{tps_bins}
use Rattle.carriers.proofs.Facts.{Facts}
use Rattle.carriers.proofs.Bins.{tps-bins-many}
use Rattle.grid.specs.Symbol.{cells_at}
use Rattle.tps.specs.Receive.{first_cells}
use Rattle.tps.proofs.FirstCells.{cells-length, cells-back, cells-flat}
use Rattle.session.specs.Journal.{tps_cells, place, places_in}
use Rattle.session.specs.History.{cells_of, row}
use Rattle.session.proofs.Journal.{cells-kept, last-place}

-- each of some cells is w long
abbrev pub Placed : ℕ → List (List Float) → Type 0
Placed w [] = Unit {0}
Placed w (c ∷ cs) = (length c ≡ w) × Placed w cs

module _ {m : Mode} (f : Facts m) where
  pub tps-length : (y : List Float) → length (tps_cells m y) ≡ place m
  unfolding tps_cells cells_at
  tps-length y = flat-length _ ∙ ap (λ (n : ℕ). 2 * n) (length-map (tps_bins m) (cell_at y) ∙ tps-bins-many m f)

  pub placed : (ys : List (List Float)) → Placed (place m) (cells_of m ys)
  placed [] = tt
  placed (y ∷ ys) = (tps-length y, placed ys)

pub cells-many : (m : Mode) (ys : List (List Float)) → length (cells_of m ys) ≡ length ys
cells-many m ys = length-map ys (tps_cells m)

-- ---- cells in a row

module _ (w : ℕ) where
  pub row-length : (cs : List (List Float)) → Placed w cs → length (row cs) ≡ length cs * w
  unfolding row
  row-length [] p = omega arith
  row-length (c ∷ cs) p = simp (length-append, row-length cs p.1, p.0) (omega arith)

  pub row-none : (j : List Float) → take (0 * w) j ≡ row []
  unfolding row
  row-none j = ap (λ (k : ℕ). take k j) (zero-mul w)

  module _ (c : List Float) (cs : List (List Float)) (j : List Float) (p : Placed w (c ∷ cs)) (e : take (length (c ∷ cs) * w) j ≡ row (c ∷ cs)) where
    row_ends : take (length cs * w + w) j ≡ row cs ++ c
    unfolding row
    row_ends = ap (λ (k : ℕ). take k j) (sym (suc-mul (length cs) w)) ∙ e

    pub row_kept : take (length cs * w) j ≡ row cs
    row_kept = cells-kept w j (row cs) c (length cs * w) row_ends (row-length cs p.1)

    pub row_last : drop (length cs * w) j ≡ c ++ drop (length cs * w + w) j
    row_last = last-place w j (row cs) c (length cs * w) row_ends (row-length cs p.1)

-- the places of a journal that begins with the cells in a row are the cells
pub places_row : (m : Mode) (cs : List (List Float)) (j : List Float) → Placed (place m) cs → take (length cs * place m) j ≡ row cs
    → places_in m (length cs) j ≡ cs
unfolding places_in
places_row m [] j p e = refl
places_row m (c ∷ cs) j p e =
    let w = place m in
    ap₂ (λ (x : List Float) (xs : List (List Float)). x ∷ xs)
    (ap (take w) (row_last w c cs j p e) ∙ take_at c (drop (length cs * w + w) j) w p.0)
    (places_row m cs j p.1 (row_kept w c cs j p e))

-- n cells are read from their own f32, whatever stands behind them
pub cells-front : (n : ℕ) (c q : List Float) → length c ≡ 2 * n → first_cells n (c ++ q) ≡ first_cells n c
cells-front n c q h =
    let l = first_cells n c in
    ap (λ (x : List Float). first_cells n (x ++ q)) (sym (cells-flat n c h))
    ∙ ap (λ (k : ℕ). first_cells k (flat l ++ q)) (sym (cells-length n c))
    ∙ cells-back l q
