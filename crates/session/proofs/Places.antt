-- The TPS cells of a symbol are gathered at the bins of the TPS carriers; a place of the journal that is lent and comes back, and one that is read.
-- Assumes nothing.
use mathlib.Core.Path.{◌≡◌, refl, ap, ◌∙◌}
use mathlib.Core.List.{List, ◌++◌, append-nil}
use Prim.Native.Nat.{ℕ, zero, suc, ◌-◌, ◌*◌}
use native.Mathlib.Omega.{arith}
use lib.Ieee.{Float}
use lib.ListN.{length, drop, length-drop, drop_of_length-le}
use lib.Seq.{take_all}
use borrow.Rule.Slice.PartMut.{mid_of}
use Rattle.ground.specs.Answer.{written}
use Rattle.carriers.specs.Mode.{Mode}
use Rattle.carriers.specs.Carriers.{tps_bins}
use Rattle.carriers.proofs.Facts.{Facts}
use Rattle.carriers.proofs.Bins.{tps-bins-many}
use Rattle.grid.specs.Symbol.{Bins, cells_at}
use Rattle.grid.proofs.Lent.{tps_bins_in, lent_bins}
use Rattle.tps.specs.Receive.{first_cells}
use Rattle.session.specs.Journal.{tps_cells, place, prev_in}
use Rattle.session.proofs.Cells.{tps-length}

-- ---- the TPS cells of a symbol

pub tps_lent : {m : Mode} (f : Facts m) (bins : List ℕ) → bins ≡ tps_bins m → Bins m bins × (length bins ≡ m.tps_count)
tps_lent {m} f bins e = lent_bins m bins (tps_bins m) m.tps_count e (tps_bins_in m f) (tps-bins-many m f)

pub tps_gathered : {m : Mode} (f : Facts m) (symbol o : List Float) (bins : List ℕ) {out : List Float} → bins ≡ tps_bins m → length o ≡ place m
    → out ≡ written (cells_at symbol bins) o → out ≡ tps_cells m symbol
unfolding tps_cells
tps_gathered {m} f symbol o bins e l g =
    let n : length (cells_at symbol (tps_bins m)) ≡ place m = tps-length f symbol in
    g ∙ ap (λ (b : List ℕ). written (cells_at symbol b) o) e
    ∙ ap (λ (r : List Float). cells_at symbol (tps_bins m) ++ r) (drop_of_length-le o {i = length (cells_at symbol (tps_bins m))} (omega arith))
    ∙ append-nil (cells_at symbol (tps_bins m))

-- ---- a place of the journal

-- a part that is lent up to the end
pub part-rest : (journal : List Float) (from : ℕ) → mid_of from (length journal - from) journal ≡ drop from journal
part-rest journal from = take_all (length journal - from) (drop from journal) (simp length-drop (omega arith))

pub prev_later : (m : Mode) (n : ℕ) (frame : List Float) → (n ≡ 0 → ⊥)
    → prev_in m n frame ≡ first_cells m.tps_count (drop ((n - 1) * place m) frame)
unfolding prev_in
prev_later m zero frame h = absurd (h refl)
prev_later m (suc n) frame h = let e : suc n - 1 ≡ n = omega arith in rw e
