-- Document 02, E8, at a frame's beginning: after any run an accepted feed with 68 standing begins the next frame at symbol 0 and phase 0, and an accepted step
-- back of the first symbol of a later frame leaves 68 standing in the frame before. Assumes nothing.
use mathlib.Core.Path.{◌≡◌, refl, sym, ap, ap₂, ◌∙◌}
use mathlib.Core.Bool.{Bool, true, false, cond}
use mathlib.Core.List.{List, [], ◌∷◌}
use Prim.Native.Nat.{ℕ, suc, ◌≤◌}
use native.Mathlib.Omega.{arith}
use lib.Ieee.{Float}
use lib.ListN.{length, take, drop}
use borrow.Author.Tests.{le-leb, leb-true}
use Rattle.ground.specs.Refusal.{ACCEPTED}
use Rattle.carriers.specs.Mode.{Mode}
use Rattle.carriers.proofs.Facts.{Facts}
use Rattle.grid.specs.Calls.{extract_leaves}
use Rattle.tps.specs.Word.{SYMBOLS}
use Rattle.tps.specs.Receive.{bit_number}
use Rattle.session.specs.declared.Session.{Session}
use Rattle.session.specs.declared.Called.{Called}
use Rattle.session.specs.Journal.{tps_cells, in_place}
use Rattle.session.specs.Session.{Feeds, step_back_answer, step_number}
use Rattle.session.specs.History.{Op, Run, standing_of, whole, opened, frame, frames_of, Shown, shown, shown_of}
use Rattle.session.proofs.Frames.{frame-few, frame-none}
use Rattle.session.proofs.Numbers.{fed-accepted}
use Rattle.session.proofs.Determined.{same-fed}
use Rattle.session.proofs.OneCall.{feed-says}
use Rattle.session.proofs.History.{history}
use Rattle.session.proofs.Demand.{demand_3_shown, demand_3_feed, demand_3_back}

-- ---- of the standing symbols

next-begins : (y : List Float) (ys : List (List Float)) → length (frame ys) ≡ SYMBOLS
    → (length (frame (y ∷ ys)) ≡ 1) × (frames_of (y ∷ ys) ≡ suc (frames_of ys))
unfolding frame frames_of
next-begins y ys e = let w : whole (frame ys) ≡ true = le-leb SYMBOLS (length (frame ys)) (omega arith) in (rw w, rw w)

none-opened : (ys : List (List Float)) → length (frame ys) ≡ SYMBOLS → length (opened (frame ys)) ≡ 0
none-opened ys e = let w : whole (frame ys) ≡ true = le-leb SYMBOLS (length (frame ys)) (omega arith) in rw w

later_by : (c : ℕ) (f : List (List Float)) (b : Bool) → whole f ≡ b → length f ≤ SYMBOLS → (length f ≡ 0 → c ≡ 0)
    → suc (length (cond b [] f)) ≡ 1 → 1 ≤ cond b (suc c) c → (length f ≡ SYMBOLS) × (suc c ≡ cond b (suc c) c)
later_by c f true e few none one later = (omega (arith, leb-true SYMBOLS (length f) e), refl)
later_by c f false e few none one later = absurd (omega (arith, none (omega arith)))

first_of_later : (ys : List (List Float)) → length (frame ys) ≡ 1 → 1 ≤ frames_of ys
    → (length (frame (drop 1 ys)) ≡ SYMBOLS) × (suc (frames_of (drop 1 ys)) ≡ frames_of ys)
unfolding frame frames_of
first_of_later [] one later = absurd (omega arith)
first_of_later (y ∷ ys) one later =
    later_by (frames_of ys) (frame ys) (whole (frame ys)) refl (frame-few ys) (λ e. (frame-none ys e).1) one later

-- ---- of a session

counts : (m : Mode) (s : Session) (j : List Float) (ys : List (List Float)) → shown m s j ≡ shown_of m ys → (s.count ≡ length (frame ys)) × (s.frames ≡ frames_of ys)
unfolding shown_of
counts m s j ys e = (ap (λ (x : Shown). x.count) e, ap (λ (x : Shown). x.frames) e)

module _ {m : Mode} (f : Facts m) {j₀ j : List Float} {os : List Op} {s : Session} (any : Run m j₀ os s j) where
  -- one symbol stands in it, in phase 0, and its TPS cells stand in the first place of the other half
  pub feed-begins-next : (y d : List Float) (l : ℕ) {r : Called ℕ} {d' p' : List Float} → Feeds m s y d (take l j) r d' p' → bit_number r.answer ≡ ACCEPTED
      → s.count ≡ SYMBOLS
      → (r.session.count ≡ 1) × (r.session.frames ≡ suc s.frames) × (d' ≡ extract_leaves m 0 y d)
      × (p' ≡ in_place m (suc s.frames) 0 (tps_cells m y) (take l j))
  feed-begins-next y d l {r} {d'} {p'} fed taken e =
      let st = standing_of m (length j₀) os in
      let h = (history f any).held in
      let old = counts m s j st.symbols (demand_3_shown f any) in
      let right = demand_3_feed f any y d l fed in
      let new = counts m r.session p' (y ∷ st.symbols) (right.stands taken) in
      let n = next-begins y st.symbols (sym old.0 ∙ e) in
      let number = feed-says f h (length y) (length d) (length (take l j)) ∙ sym right.number ∙ taken in
      let none : length (opened (frame st.symbols)) ≡ 0 = none-opened st.symbols (sym old.0 ∙ e) in (
        new.0 ∙ n.0,
        new.1 ∙ n.1 ∙ ap suc (sym old.1),
        (same-fed fed (fed-accepted m s y d (take l j) number)).1 ∙ ap (λ (k : ℕ). extract_leaves m k y d) (omega arith),
        right.journal_cells taken ∙ ap₂ (λ (a b : ℕ). in_place m a b (tps_cells m y) (take l j)) (n.1 ∙ ap suc (sym old.1)) none,
      )

  pub back_into_last : (l : ℕ) {r : Called (Unit {0})} → r ≡ step_back_answer m s (take l j) → step_number r.answer ≡ ACCEPTED → s.count ≡ 1 → 1 ≤ s.frames
      → (r.session.count ≡ SYMBOLS) × (suc r.session.frames ≡ s.frames)
  back_into_last l {r} e taken one later =
      let st = standing_of m (length j₀) os in
      let old = counts m s j st.symbols (demand_3_shown f any) in
      let new = counts m r.session (take l j) (drop 1 st.symbols) ((demand_3_back f any l e).stands taken) in
      let n = first_of_later st.symbols (sym old.0 ∙ one) (omega (arith, old.1)) in
      (new.0 ∙ n.0, ap suc new.1 ∙ n.1 ∙ sym old.1)
