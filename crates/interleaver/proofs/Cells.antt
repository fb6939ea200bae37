-- Two lists of f32 whose first n cells are the same: their fronts are equal, and so are the lists where nothing differs behind the cells. Assumes nothing.
use mathlib.Core.Path.{◌≡◌, sym, ap, ap₂, ◌∙◌}
use mathlib.Core.List.{List, ◌++◌}
use Prim.Native.Nat.{ℕ, zero, suc, ◌+◌, ◌*◌, ◌/◌, ◌%◌, ◌≤◌, ◌<◌}
use native.Mathlib.Omega.{arith}
use lib.Ieee.{Float, nan}
use lib.ListN.{length, get_or, take, drop, take-append-drop}
use lib.Seq.{ext_get_or, get_or-take, length-take-le}
use Rattle.ground.specs.declared.Cell.{Cell}
use Rattle.ground.specs.Cells.{cell_at}

-- the first n cells of two lists are the same
abbrev pub SameCells : ℕ → List Float → List Float → Type 0
SameCells n a b = (q : ℕ) → q < n → cell_at a q ≡ cell_at b q

module _ (n : ℕ) (a b : List Float) (same : SameCells n a b) where
  same_parts : (q r : ℕ) → q < n → r < 2 → get_or a (2 * q + r) nan ≡ get_or b (2 * q + r) nan
  same_parts q zero h l =
      let j : 2 * q + 0 ≡ 2 * q = omega arith in
      ap (λ (i : ℕ). get_or a i nan) j ∙ ap (λ (c : Cell). c.re) (same q h) ∙ ap (λ (i : ℕ). get_or b i nan) (sym j)
  same_parts q (suc zero) h l = ap (λ (c : Cell). c.im) (same q h)
  same_parts q (suc (suc r)) h l = absurd (omega arith)

  same_at : (i : ℕ) → i < 2 * n → get_or a i nan ≡ get_or b i nan
  same_at i h =
      let j : 2 * (i / 2) + i % 2 ≡ i = omega arith in
      ap (λ (k : ℕ). get_or a k nan) (sym j) ∙ same_parts (i / 2) (i % 2) (omega arith) (omega arith) ∙ ap (λ (k : ℕ). get_or b k nan) j

  pub same-front : 2 * n ≤ length a → 2 * n ≤ length b → take (2 * n) a ≡ take (2 * n) b
  same-front ha hb =
      let la : length (take (2 * n) a) ≡ 2 * n = length-take-le (2 * n) a ha in
      let lb : length (take (2 * n) b) ≡ 2 * n = length-take-le (2 * n) b hb in
      ext_get_or nan (take (2 * n) a) (take (2 * n) b) (la ∙ sym lb)
      (λ i h. get_or-take (2 * n) a i nan (omega arith) ∙ same_at i (omega arith) ∙ sym (get_or-take (2 * n) b i nan (omega arith)))

  pub same-list : 2 * n ≤ length a → 2 * n ≤ length b → drop (2 * n) a ≡ drop (2 * n) b → a ≡ b
  same-list ha hb behind =
      sym (take-append-drop (2 * n) a) ∙ ap₂ (λ (s t : List Float). s ++ t) (same-front ha hb) behind ∙ take-append-drop (2 * n) b
