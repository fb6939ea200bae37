-- Cells in a list of f32: a row of cells that is filled from its front, one cell more; and a cell that was set, or another one, read back.
-- Assumes nothing.
use mathlib.Core.Path.{◌≡◌, refl, sym, ap, ap₂, ◌∙◌}
use mathlib.Core.List.{List, [], ◌∷◌}
use Prim.Native.Nat.{ℕ, zero, suc, ◌+◌, ◌*◌, ◌≤◌, ◌<◌}
use native.Mathlib.Nat.{not-suc-le-zero, le_of_suc-le-suc}
use native.Mathlib.Omega.{arith}
use lib.Ieee.{Float, nan}
use lib.ListN.{length, get_or, set, length-set}
use lib.Seq.{get_or-set_same, get_or-set_other}
use Rattle.ground.specs.declared.Cell.{Cell}
use Rattle.ground.proofs.Front.{front, front-next}
use Rattle.ground.specs.Cells.{cell_at, set_cell, flat}

pub cell_of_lem : (a b : Cell) → a.re ≡ b.re → a.im ≡ b.im → a ≡ b
cell_of_lem a b r i = ap₂ (λ (x y : Float). record { re = x; im = y }) r i

pub flat-length : (l : List Cell) → length (flat l) ≡ 2 * length l
unfolding flat
flat-length [] = refl
flat-length (c ∷ l) = let ih : length (flat l) ≡ 2 * length l = flat-length l in omega arith

pub flat_re : (l : List Cell) (k : ℕ) (z : Cell) → k < length l → get_or (flat l) (2 * k) nan ≡ (get_or l k z).re
unfolding flat
flat_re [] k z h = absurd (not-suc-le-zero h)
flat_re (c ∷ l) zero z h = refl
flat_re (c ∷ l) (suc k) z h =
    let j : 2 * suc k ≡ suc (suc (2 * k)) = omega arith in
    ap (λ (n : ℕ). get_or (flat (c ∷ l)) n nan) j ∙ flat_re l k z (le_of_suc-le-suc h)

pub flat_im : (l : List Cell) (k : ℕ) (z : Cell) → k < length l → get_or (flat l) (2 * k + 1) nan ≡ (get_or l k z).im
unfolding flat
flat_im [] k z h = absurd (not-suc-le-zero h)
flat_im (c ∷ l) zero z h = refl
flat_im (c ∷ l) (suc k) z h =
    let j : 2 * suc k + 1 ≡ suc (suc (2 * k + 1)) = omega arith in
    ap (λ (n : ℕ). get_or (flat (c ∷ l)) n nan) j ∙ flat_im l k z (le_of_suc-le-suc h)

pub flat-at : (l : List Cell) (k : ℕ) (z : Cell) → k < length l → cell_at (flat l) k ≡ get_or l k z
flat-at l k z h = cell_of_lem (cell_at (flat l) k) (get_or l k z) (flat_re l k z h) (flat_im l k z h)

-- one cell more of a list, in the form of a loop's turn
pub copied_cell : (e o s : List Float) (b : ℕ) → 2 * b + 1 < length e → 2 * b + 1 < length o → s ≡ front e (2 * b) o
    → set_cell s b (cell_at e b) ≡ front e (2 * (b + 1)) o
copied_cell e o s b h l es =
    let j : 2 * b + 1 + 1 ≡ 2 * (b + 1) = omega arith in
    front-next e o (set s (2 * b) (get_or e (2 * b) nan)) (2 * b + 1) nan (get_or e (2 * b + 1) nan) h l
    (front-next e o s (2 * b) nan (get_or e (2 * b) nan) (omega arith) (omega arith) es refl) refl
    ∙ ap (λ (i : ℕ). front e i o) j

-- and of a row of cells
pub cell_next : (l : List Cell) (o s : List Float) (k : ℕ) (z c : Cell) → k < length l → 2 * length l ≤ length o
    → s ≡ front (flat l) (2 * k) o → c ≡ get_or l k z → set_cell s k c ≡ front (flat l) (2 * (k + 1)) o
cell_next l o s k z c h r es ec =
    let n : length (flat l) ≡ 2 * length l = flat-length l in
    ap (set_cell s k) (ec ∙ sym (flat-at l k z h)) ∙ copied_cell (flat l) o s k (omega arith) (omega arith) es

-- ---- a cell that was set

module _ (s : List Float) (b : ℕ) (c : Cell) where
  pub set_cell_same : 2 * b + 1 < length s → cell_at (set_cell s b c) b ≡ c
  set_cell_same h =
      cell_of_lem (cell_at (set_cell s b c) b) c
      (get_or-set_other (set s (2 * b) c.re) (2 * b + 1) (2 * b) c.im nan (omega arith) ∙ get_or-set_same s (2 * b) c.re nan (omega arith))
      (get_or-set_same (set s (2 * b) c.re) (2 * b + 1) c.im nan (simp length-set h))

  pub set_cell_other : (d : ℕ) → (b ≡ d → ⊥) → cell_at (set_cell s b c) d ≡ cell_at s d
  set_cell_other d n =
      cell_of_lem (cell_at (set_cell s b c) d) (cell_at s d)
      (get_or-set_other (set s (2 * b) c.re) (2 * b + 1) (2 * d) c.im nan (omega arith)
      ∙ get_or-set_other s (2 * b) (2 * d) c.re nan (λ e. n (omega arith)))
      (get_or-set_other (set s (2 * b) c.re) (2 * b + 1) (2 * d + 1) c.im nan (λ e. n (omega arith))
      ∙ get_or-set_other s (2 * b) (2 * d + 1) c.re nan (omega arith))

  pub set_cell_length : length (set_cell s b c) ≡ length s
  set_cell_length = simp length-set
