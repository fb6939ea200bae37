-- A step back undoes a feed: after any run and an accepted feed a step back that is lent the journal is done, over a frame's beginning too, and then the
-- session and the used journal show what they did. Assumes nothing.
use mathlib.Core.Path.{◌≡◌, refl, sym, ap, ◌∙◌}
use mathlib.Core.Bool.{Bool, true, false}
use mathlib.Core.Logic.{inl, inr}
use mathlib.Core.List.{List, ◌∷◌}
use Prim.Native.Nat.{ℕ, suc, ◌≤◌, min, max}
use native.Mathlib.Omega.{arith}
use lib.Ieee.{Float}
use lib.ListN.{length, take}
use Rattle.ground.specs.Refusal.{ACCEPTED}
use Rattle.carriers.specs.Mode.{Mode}
use Rattle.carriers.proofs.Facts.{Facts}
use Rattle.tps.specs.Receive.{bit_number}
use Rattle.session.specs.declared.Session.{Session}
use Rattle.session.specs.Journal.{journal_size}
use Rattle.session.specs.Session.{step_number}
use Rattle.session.specs.History.{Op, feed, back, FeedCall, BackCall, Run, next, Standing, whole, frame, frames_of, frames_before, many, one_more, feed_no_after, step_back_no_after, after, standing_of, shown, shown_of}
use Rattle.session.proofs.Numbers.{crosses_decides}
use Rattle.session.proofs.Cases.{Kept, behind-none, goes_exactly}
use Rattle.session.proofs.Frames.{first_or_later}
use Rattle.session.proofs.Journal.{lent_length}
use Rattle.session.proofs.History.{history}
use Rattle.session.proofs.Demand.{demand_3_feed, demand_3_back, demand_3_shown}

-- the symbol that was fed last can be taken back
some-stands : (y : List Float) (ys : List (List Float)) → length (frame (y ∷ ys)) ≡ 0 → ⊥
unfolding frame
some-stands y ys e = omega arith

kept_by : (y : List Float) (st : Standing) (b : Bool) → whole (frame st.symbols) ≡ b → st.begun ≤ suc (frames_before st) → Kept (one_more y st)
unfolding frame frames_of
kept_by y st true e n = inr (rw e (behind-none (suc (frames_before st)) (max st.begun (suc (frames_before st))) (omega arith)))
kept_by y st false e n = inl (rw e ((crosses_decides (frames_before st) (suc (many st))).fails.0 (first_or_later st.symbols)))

latest_kept : (y : List Float) (st : Standing) → st.begun ≤ suc (frames_before st) → Kept (one_more y st)
latest_kept y st n = kept_by y st (whole (frame st.symbols)) refl n

module _ {m : Mode} (f : Facts m) {j₀ j j₁ j₂ : List Float} {os : List Op} {s s₁ s₂ : Session} {y : List Float} {room l k : ℕ} (any : Run m j₀ os s j)
    (c : FeedCall m y room l s j s₁ j₁) (fed : bit_number c.answer.answer ≡ ACCEPTED)
    (b : BackCall m k s₁ j₁ s₂ j₂) where
  fed_run : Run m j₀ (feed y room l ∷ os) s₁ j₁
  fed_run = next (feed y room l) any c

  feed_zero : feed_no_after m (length y) room (min l (length j₀)) (standing_of m (length j₀) os) ≡ ACCEPTED
  feed_zero =
      rw (← c.given_length, ← lent_length l (length j₀) j (history f any).held.size) (sym (demand_3_feed f any y c.given l c.promise).number ∙ fed)

  one_more_lem : standing_of m (length j₀) (feed y room l ∷ os) ≡ one_more y (standing_of m (length j₀) os)
  unfolding standing_of after
  one_more_lem = rw feed_zero

  -- a step back that is lent the journal is done, over a frame's beginning too
  pub step-back-goes : journal_size m ≤ length (take k j₁) → step_number b.answer.answer ≡ ACCEPTED
  step-back-goes r =
      let st = standing_of m (length j₀) os in
      (demand_3_back f fed_run k b.promise).number
      ∙ ap (step_back_no_after m (length (take k j₁))) one_more_lem
      ∙ (goes_exactly m (length (take k j₁)) (one_more y st)).1 (r, (some-stands y st.symbols, latest_kept y st (history f any).held.close))

  module _ (stepped : step_number b.answer.answer ≡ ACCEPTED) where
    step_zero : step_back_no_after m (min k (length j₀)) (one_more y (standing_of m (length j₀) os)) ≡ ACCEPTED
    step_zero =
        rw (← lent_length k (length j₀) j₁ (history f fed_run).held.size) (sym (rw one_more_lem at (demand_3_back f fed_run k b.promise).number) ∙ stepped)

    one_fewer_lem : (standing_of m (length j₀) (back k ∷ feed y room l ∷ os)).symbols ≡ (standing_of m (length j₀) os).symbols
    unfolding standing_of after
    one_fewer_lem = rw (feed_zero, step_zero)

    pub step_back_undoes : shown m s₂ j₂ ≡ shown m s j
    step_back_undoes =
        demand_3_shown f (next (back k) fed_run b) ∙ ap (shown_of m) one_fewer_lem ∙ sym (demand_3_shown f any)
