-- What the code of an accepted feed leaves, step by step, is what a feed promises. Assumes nothing.
use mathlib.Core.Path.{◌≡◌, ap, ap₂, ◌∙◌}
use mathlib.Core.Bool.{false}
use mathlib.Core.Logic.{◌⊎◌, inl, inr}
use mathlib.Core.List.{List}
use Prim.Native.Nat.{ℕ, ◌%◌, ◌<◌, ◌≤◌}
use native.Mathlib.Omega.{arith}
use lib.Ieee.{Float}
use lib.ListN.{length}
use borrow.Author.Tests.{le-leb, lt-leb}
use Rattle.ground.proofs.Exactly.{at_most}
use Rattle.carriers.specs.Mode.{Mode, symbol_size, data_size}
use Rattle.grid.specs.Calls.{phase_of, extract_leaves}
use Rattle.tps.specs.Word.{SYMBOLS}
use Rattle.session.specs.declared.Session.{Session}
use Rattle.session.specs.declared.Called.{Called}
use Rattle.session.specs.Journal.{tps_cells, journal_size, in_place}
use Rattle.session.specs.Session.{standing, frame_of, next_phase, full, open_of, fed_by, Feeds}
use Rattle.session.proofs.Numbers.{full_decides, feed-taken, fed-accepted}

-- the symbol is in the phase of its frame: 68 is a multiple of 4
phase_by : (m : Mode) (s : Session) → (SYMBOLS ≤ s.count) ⊎ (s.count < SYMBOLS) → (open_of m s).count % 4 ≡ next_phase s
unfolding open_of
phase_by m s (inl h) = rw (le-leb SYMBOLS s.count h) (omega arith)
phase_by m s (inr h) = rw (lt-leb SYMBOLS s.count h) (omega arith)

module _ (m : Mode) (s : Session) (symbol out journal : List Float) where
  pub fed_done : symbol_size m ≤ length symbol → data_size m ≤ length out → journal_size m ≤ length journal → full (frame_of s) (standing s) ≡ false
      → {o : Session} → o ≡ open_of m s → {cells out' journal' : List Float} {r : Called ℕ} → out' ≡ extract_leaves m (phase_of o.count) symbol out
      → cells ≡ tps_cells m symbol → journal' ≡ in_place m o.frames o.count cells journal → r ≡ fed_by m o cells → Feeds m s symbol out journal r out' journal'
  fed_done h w j f e eo ec ej er =
      let a = fed-accepted m s symbol out journal ((feed-taken m _ _ _ _ _).1 (h, (w, (j, (full_decides (frame_of s) (standing s)).fails.0 f)))) in
      record {
        result = er ∙ ap₂ (fed_by m) e ec ∙ a.result;
        data_cells =
            eo ∙ ap (λ (x : Session). extract_leaves m (x.count % 4) symbol out) e
            ∙ ap (λ (k : ℕ). extract_leaves m k symbol out) (phase_by m s (at_most SYMBOLS s.count)) ∙ a.data_cells;
        journal_cells = ej ∙ ap₂ (λ (x : Session) (c : List Float). in_place m x.frames x.count c journal) e ec ∙ a.journal_cells;
      }
