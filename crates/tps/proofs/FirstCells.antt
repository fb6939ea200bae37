-- The first cells of a slice: what stands at each place, cells in a row read back, and the floats that they are.
-- Assumes nothing.
use mathlib.Core.Path.{◌≡◌, refl, sym, ap, ◌∙◌}
use mathlib.Core.List.{List, [], ◌∷◌, ◌++◌, append-nil}
use Prim.Native.Nat.{ℕ, zero, suc, ◌+◌, ◌*◌, ◌<◌, ◌≤◌}
use native.Mathlib.Nat.{not-suc-le-zero, le_of_suc-le-suc}
use native.Mathlib.Omega.{arith}
use lib.Ieee.{Float, nan}
use lib.ListN.{length, get_or, take, drop}
use lib.Seq.{get_or-drop, take_all}
use Rattle.ground.specs.declared.Cell.{Cell}
use Rattle.ground.specs.Cells.{cell_at, flat}
use Rattle.ground.proofs.Cells.{cell_of_lem}
use Rattle.tps.specs.Receive.{first_cells}

pub cells-length : (n : ℕ) (s : List Float) → length (first_cells n s) ≡ n
unfolding first_cells
cells-length zero s = refl
cells-length (suc n) s = ap suc (cells-length n (drop 2 s))

cell_later : (s : List Float) (k : ℕ) → cell_at (drop 2 s) k ≡ cell_at s (suc k)
cell_later s k =
    let i : 2 + 2 * k ≡ 2 * suc k = omega arith in
    let j : 2 + (2 * k + 1) ≡ 2 * suc k + 1 = omega arith in
    cell_of_lem (cell_at (drop 2 s) k) (cell_at s (suc k))
    (get_or-drop 2 s (2 * k) nan ∙ ap (λ (n : ℕ). get_or s n nan) i)
    (get_or-drop 2 s (2 * k + 1) nan ∙ ap (λ (n : ℕ). get_or s n nan) j)

pub cells_at_lem : (n : ℕ) (s : List Float) (k : ℕ) (z : Cell) → k < n → get_or (first_cells n s) k z ≡ cell_at s k
unfolding first_cells
cells_at_lem zero s k z h = absurd (not-suc-le-zero h)
cells_at_lem (suc n) s zero z h = refl
cells_at_lem (suc n) s (suc k) z h = cells_at_lem n (drop 2 s) k z (le_of_suc-le-suc h) ∙ cell_later s k

-- cells in a row are read back
pub cells-back : (l : List Cell) (q : List Float) → first_cells (length l) (flat l ++ q) ≡ l
unfolding first_cells flat
cells-back [] q = refl
cells-back (c ∷ l) q = ap (λ (r : List Cell). c ∷ r) (cells-back l q)

-- and so are those of floats that are the cells'
pub cells-front : (n : ℕ) (s p : List Float) → p ≡ flat (first_cells n s) → first_cells n p ≡ first_cells n s
cells-front n s p e =
    let m = first_cells n s in
    ap (first_cells n) (e ∙ sym (append-nil (flat m)))
    ∙ ap (λ (k : ℕ). first_cells k (flat m ++ [])) (sym (cells-length n s))
    ∙ cells-back m []

-- the floats of the first n cells are the first 2 n
pub cells-taken : (n : ℕ) (s : List Float) → 2 * n ≤ length s → flat (first_cells n s) ≡ take (2 * n) s
unfolding first_cells flat
cells-taken zero s h = refl
cells-taken (suc n) [] h = absurd (omega arith)
cells-taken (suc n) (x ∷ []) h = absurd (omega arith)
cells-taken (suc n) (x ∷ y ∷ s) h =
    let e : 2 * suc n ≡ suc (suc (2 * n)) = omega arith in
    ap (λ (t : List Float). x ∷ y ∷ t) (cells-taken n s (omega arith)) ∙ ap (λ (k : ℕ). take k (x ∷ y ∷ s)) (sym e)

pub cells-flat : (n : ℕ) (s : List Float) → length s ≡ 2 * n → flat (first_cells n s) ≡ s
cells-flat n s h = cells-taken n s (omega arith) ∙ take_all (2 * n) s (omega arith)
