-- Cells stored in the front of a longer list: what is behind it stays; and the data cells that are read are the first of a longer list. So a symbol is
-- mapped in its front. For any mode that has its facts. Assumes nothing.
use mathlib.Core.Path.{◌≡◌, refl, sym, ap, ap₂, ◌∙◌}
use mathlib.Core.List.{List, ◌++◌, map}
use Prim.Native.Nat.{ℕ, zero, suc, ◌+◌, ◌*◌, ◌≤◌, ◌<◌}
use native.Mathlib.Omega.{arith}
use lib.Ieee.{Float, nan}
use lib.ListN.{length, get_or, set, take, drop, replicate, length-set, length-map, length-replicate}
use lib.Seq.{set-append_left, get_or-take}
use Rattle.ground.specs.declared.Cell.{Cell}
use Rattle.ground.specs.Cells.{cell_at, set_cell, plus_zero}
use Rattle.ground.proofs.Cells.{cell_of_lem}
use Rattle.carriers.specs.Mode.{Mode}
use Rattle.carriers.specs.Count.{bin_of}
use Rattle.carriers.specs.Carriers.{data_actives, reference_actives}
use Rattle.carriers.proofs.Facts.{Facts, data-many}
use Rattle.carriers.proofs.Coding.{Below}
use Rattle.carriers.proofs.Roles.{data-below, reference_below, tps-below}
use Rattle.grid.specs.Symbol.{placed, stored, piloted, cleared, symbol_of, mapped}
use Rattle.grid.proofs.Placed.{placed-length}
use Rattle.grid.proofs.Lent.{bins_in}

set_cell-append : (e r : List Float) (b : ℕ) (c : Cell) → 2 * b + 1 < length e → set_cell (e ++ r) b c ≡ set_cell e b c ++ r
set_cell-append e r b c h =
    ap (λ (s : List Float). set s (2 * b + 1) c.im) (set-append_left e r (2 * b) c.re (omega arith))
    ∙ set-append_left (set e (2 * b) c.re) r (2 * b + 1) c.im (simp length-set h)

placed-append : (l : List ℕ) (d e r : List Float) (n : ℕ) → ((k : ℕ) → k < n → 2 * get_or l k 0 + 1 < length e)
    → placed l d n (e ++ r) ≡ placed l d n e ++ r
unfolding placed
placed-append l d e r zero h = refl
placed-append l d e r (suc n) h =
    ap (λ (s : List Float). set_cell s (get_or l n 0) (cell_at d n)) (placed-append l d e r n (λ k i. h k (omega arith)))
    ∙ set_cell-append (placed l d n e) r (get_or l n 0) (cell_at d n) (omega (arith, h n (omega arith), placed-length l d e n))

cell_at-take : (d : List Float) (n k : ℕ) → 2 * k + 1 < n → cell_at (take n d) k ≡ cell_at d k
cell_at-take d n k h =
    cell_of_lem (cell_at (take n d) k) (cell_at d k) (get_or-take n d (2 * k) nan (omega arith)) (get_or-take n d (2 * k + 1) nan h)

placed-take : (l : List ℕ) (d o : List Float) (n k : ℕ) → 2 * k ≤ n → placed l (take n d) k o ≡ placed l d k o
unfolding placed
placed-take l d o n zero h = refl
placed-take l d o n (suc k) h =
    ap₂ (λ (s : List Float) (c : Cell). set_cell s (get_or l k 0) c) (placed-take l d o n k (omega arith)) (cell_at-take d n k (omega arith))

module _ (m : Mode) (f : Facts m) where
  stored-append : (x : List ℕ) (d e r : List Float) → Below m.actives x → length e ≡ 2 * m.bins → stored m x d (e ++ r) ≡ stored m x d e ++ r
  stored-append x d e r b n =
      placed-append (map (bin_of m) x) d e r (length x)
      (λ k i. let j : k < length (map (bin_of m) x) = omega (arith, length-map x (bin_of m)) in
      omega (arith, bins_in m f x b k j))

  -- the data of phase p, and then its pilots, in cells of +0.0
  abbrev laid : ℕ → List Float → List Float
  laid p d = stored m (data_actives m p) d (replicate (2 * m.bins) plus_zero)

  pub mapped_in_front : (p : ℕ) → p < 4 → (d o : List Float)
      → piloted m m.tps (piloted m (reference_actives m p) (laid p (take (2 * m.data_count) d))) ++ drop (2 * m.bins) o ≡ mapped m p d o
  unfolding mapped symbol_of cleared
  mapped_in_front p h d o =
      let z = replicate (2 * m.bins) plus_zero in
      let r = drop (2 * m.bins) o in
      let n : length z ≡ 2 * m.bins = length-replicate (2 * m.bins) plus_zero in
      let x = data_actives m p in
      let q = reference_actives m p in
      let s = stored m x d z in
      let i : length s ≡ 2 * m.bins = placed-length (map (bin_of m) x) d z (length x) ∙ n in
      let j : length (piloted m q s) ≡ 2 * m.bins = placed-length (map (bin_of m) q) _ s (length q) ∙ i in
      ap (λ (w : List Float). piloted m m.tps (piloted m q w) ++ r)
      (placed-take (map (bin_of m) x) d z (2 * m.data_count) (length x) (omega (arith, data-many m f p h)))
      ∙ sym (stored-append m.tps _ (piloted m q s) r (tps-below m f) j)
      ∙ ap (piloted m m.tps)
      (sym (stored-append q _ s r (reference_below m f p) i)
      ∙ ap (piloted m q) (sym (stored-append x d z r (data-below m f p) n) ∙ ap (λ (k : ℕ). stored m x d (z ++ drop k o)) (sym n)))
