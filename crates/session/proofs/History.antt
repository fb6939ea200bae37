-- After any run of calls the session and its journal hold what stands. Symbols that are fed where enough is lent stand, and feeding the standing symbols in
-- order shows what stands. Assumes nothing.
use mathlib.Core.Path.{◌≡◌, refl, sym, ap, ◌∙◌, subst}
use mathlib.Core.Bool.{Bool, true, false, cond}
use mathlib.Core.Logic.{◌⊎◌, inl, inr}
use mathlib.Core.List.{List, [], ◌∷◌, ◌++◌, append-nil}
use Prim.Native.Nat.{ℕ, suc, ◌<◌, ◌≤◌, min}
use native.Mathlib.Omega.{arith}
use lib.Ieee.{Float}
use lib.ListN.{length}
use borrow.Author.Tests.{leb-false}
use Rattle.carriers.specs.Mode.{Mode, data_size}
use Rattle.carriers.proofs.Facts.{Facts}
use Rattle.session.specs.declared.Session.{Session}
use Rattle.tps.specs.Word.{SYMBOLS}
use Rattle.session.specs.Journal.{journal_size}
use Rattle.session.specs.Session.{FRAMES}
use Rattle.session.specs.History.{Op, Run, start, next, whole, frame, frames_of, after, standing_of, feeds, shown, shown_of}
use Rattle.session.specs.Demand.{Tall, Fits}
use Rattle.session.proofs.Cases.{taken_exactly}
use Rattle.session.proofs.OneCall.{Holds, holds-none, holds-shown, one_call}

pub history : {m : Mode} (f : Facts m) {j₀ j : List Float} {os : List Op} {s : Session} → Run m j₀ os s j
    → Holds m (length j₀) (standing_of m (length j₀) os) s j
unfolding standing_of
history {m} f {j₀} (start e) = rw e (holds-none m j₀ refl)
history f (next o r c) = one_call f o (history f r) c

-- ---- symbols that are fed

few-frames : (c : ℕ) (b : Bool) → cond b (suc c) c ≤ FRAMES → c ≤ FRAMES
few-frames c true h = omega arith
few-frames c false h = h

free-next : (c : ℕ) (xs : List (List Float)) (b : Bool) → whole xs ≡ b → cond b (suc c) c ≤ FRAMES → (c < FRAMES) ⊎ (length xs < SYMBOLS)
free-next c xs true e h = inl h
free-next c xs false e h = inr (leb-false SYMBOLS (length xs) e)

module _ (m : Mode) (room l lj : ℕ) (wide : data_size m ≤ room) (r : journal_size m ≤ min l lj) (os : List Op) where
  -- with enough lent they all stand, on top of what stood, as long as frame 1,000,000 has room for them
  pub fed_on_top : (ys : List (List Float)) → Tall m ys → frames_of (ys ++ (standing_of m lj os).symbols) ≤ FRAMES
      → (standing_of m lj (feeds room l ys ++ os)).symbols ≡ ys ++ (standing_of m lj os).symbols
  unfolding standing_of after frames_of
  fed_on_top [] t few = refl
  fed_on_top (y ∷ ys) t few =
      let zs = ys ++ (standing_of m lj os).symbols in
      let st = standing_of m lj (feeds room l ys ++ os) in
      let i : st.symbols ≡ zs = fed_on_top ys t.1 (few-frames (frames_of zs) (whole (frame zs)) few) in
      let fits : Fits m (length y) room (min l lj) st =
      record {
        tall = t.0;
        wide = wide;
        room = r;
        free =
            subst (λ (x : List (List Float)). (frames_of x < FRAMES) ⊎ (length (frame x) < SYMBOLS)) (sym i)
            (free-next (frames_of zs) (frame zs) (whole (frame zs)) refl few);
      }
      in
      rw ((taken_exactly m _ _ _ st).1 fits) (ap (λ (x : List (List Float)). y ∷ x) i)

-- a new session with a journal of its own that is fed the symbols in order shows them
pub fed-alone : {m : Mode} (f : Facts m) {j₁ k : List Float} {t : Session} (ys : List (List Float)) (room : ℕ) → journal_size m ≤ length j₁ → data_size m ≤ room
    → Tall m ys → frames_of ys ≤ FRAMES → Run m j₁ (feeds room (length j₁) ys) t k → shown m t k ≡ shown_of m ys
unfolding standing_of
fed-alone {m} f {j₁} {k} {t} ys room journal wide tall few fed =
    let e : (standing_of m (length j₁) (feeds room (length j₁) ys ++ [])).symbols ≡ ys ++ [] =
    fed_on_top m room (length j₁) (length j₁) wide (omega arith) [] ys tall (rw (append-nil ys) few)
    in
    holds-shown f (history f fed) ∙ ap (shown_of m) (rw (append-nil ys, append-nil (feeds room (length j₁) ys)) at e)
