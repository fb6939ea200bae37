-- Document 02, E8, what an analyst goes back to: after any run whose current frame is the furthest begun and not the first since the reset, 68 step backs that
-- are lent the journal are accepted, and feeding the same 68 symbols again shows what stood before. Assumes nothing.
use mathlib.Core.Path.{◌≡◌, sym, ap, ◌∙◌, subst}
use mathlib.Core.Logic.{◌⊎◌, inl, inr, ◌↔◌}
use mathlib.Core.List.{List, [], ◌∷◌, ◌++◌}
use Prim.Native.Nat.{ℕ, zero, suc, ◌+◌, ◌-◌, ◌*◌, ◌<◌, ◌≤◌, min}
use native.Mathlib.Nat.{eq-zero-or-pos}
use native.Mathlib.Numerals.{add-one}
use native.Mathlib.Omega.{arith}
use lib.Ieee.{Float}
use lib.ListN.{length, take, drop, replicate, length-drop, take-append-drop}
use lib.Seq.{drop-drop}
use Rattle.ground.specs.Refusal.{ACCEPTED}
use Rattle.ground.proofs.Exactly.{at_most}
use Rattle.carriers.specs.Mode.{Mode, data_size}
use Rattle.carriers.proofs.Facts.{Facts}
use Rattle.tps.specs.Word.{SYMBOLS}
use Rattle.session.specs.declared.Session.{Session}
use Rattle.session.specs.declared.Called.{Called}
use Rattle.session.specs.Journal.{journal_size}
use Rattle.session.specs.Session.{FRAMES, step_back_answer, step_number}
use Rattle.session.specs.History.{
  Op,
  back,
  Run,
  Standing,
  frame,
  frames_of,
  frames_before,
  behind_in,
  step_back_no_after,
  after,
  standing_of,
  feeds,
  shown,
  shown_of,
}
use Rattle.session.specs.Demand.{Tall}
use Rattle.session.proofs.Cases.{Kept, behind-some, behind-none, goes_exactly}
use Rattle.session.proofs.Journal.{lent_length}
use Rattle.session.proofs.Frames.{frame-none, frames-many}
use Rattle.session.proofs.History.{history, fed_on_top}
use Rattle.session.proofs.Demand.{demand_3_shown, demand_3_back, behind_is_begun}

tall-front : (m : Mode) (n : ℕ) (ys : List (List Float)) → Tall m ys → Tall m (take n ys)
tall-front m zero ys t = tt
tall-front m (suc n) [] t = tt
tall-front m (suc n) (y ∷ ys) t = (t.0, tall-front m n ys t.1)

-- ---- n fewer than 68 of the standing symbols taken back, where the current frame c is not the first

module _ (ys : List (List Float)) (later : 1 ≤ frames_of ys) (n : ℕ) (h : n < SYMBOLS) where
  some_now : (length (frame ys) ≡ 0) ⊎ (0 < length (frame ys)) → 1 ≤ length (frame ys)
  some_now (inl z) = absurd (omega (arith, (frame-none ys z).1))
  some_now (inr k) = k

  left : length (drop n ys) ≡ frames_of ys * SYMBOLS + length (frame ys) - n
  left = length-drop n ys ∙ ap (λ (k : ℕ). k - n) (frames-many ys)

  still_some : length (frame (drop n ys)) ≡ 0 → ⊥
  still_some z = omega (arith, some_now (eq-zero-or-pos (length (frame ys))), left, frames-many (drop n ys), (frame-none (drop n ys) z).1)

  -- the first symbol of a frame before c isn't reached
  not_first : frames_of (drop n ys) < frames_of ys → length (frame (drop n ys)) ≡ 1 → ⊥
  not_first l one = omega (arith, some_now (eq-zero-or-pos (length (frame ys))), left, frames-many (drop n ys))

  kept_by : (frames_of ys ≤ frames_of (drop n ys)) ⊎ (frames_of (drop n ys) < frames_of ys) → Kept (record { symbols = drop n ys; begun = frames_of ys })
  kept_by (inl k) = inr (behind-none (frames_of (drop n ys)) (frames_of ys) k)
  kept_by (inr k) = inl (inl (not_first k))

  goes : (m : Mode) (journal : ℕ) → journal_size m ≤ journal → step_back_no_after m journal (record { symbols = drop n ys; begun = frames_of ys }) ≡ ACCEPTED
  goes m journal r =
      (goes_exactly m journal (record { symbols = drop n ys; begun = frames_of ys })).1
      (r, (still_some, kept_by (at_most (frames_of ys) (frames_of (drop n ys)))))

-- ---- after any run

none_later : (st : Standing) → frames_before st ≤ st.begun → (st.begun ≤ frames_before st) ⊎ (frames_before st < st.begun)
    → behind_in (frames_before st) st.begun ≡ 0 → st.begun ≡ frames_before st
none_later st low (inl k) e = omega arith
none_later st low (inr k) e = absurd (omega (arith, behind-some (frames_before st) st.begun k))

-- the current frame is the furthest begun exactly where the session says so
pub furthest_exactly : {m : Mode} (f : Facts m) {j₀ j : List Float} {os : List Op} {s : Session} → Run m j₀ os s j
    → (s.behind ≡ 0) ↔ ((standing_of m (length j₀) os).begun ≡ frames_before (standing_of m (length j₀) os))
furthest_exactly {m} f {j₀} {j} {os} any =
    let st = standing_of m (length j₀) os in
    let h = (history f any).held in (
      λ e. none_later st h.low (at_most st.begun (frames_before st)) (sym (behind_is_begun f any) ∙ e),
      λ e. behind_is_begun f any ∙ behind-none (frames_before st) st.begun (omega arith),
    )

module _ {m : Mode} (f : Facts m) {j₀ j : List Float} {os : List Op} {s : Session} (any : Run m j₀ os s j)
    (furthest : (standing_of m (length j₀) os).begun ≡ frames_before (standing_of m (length j₀) os)) (later : 1 ≤ frames_before (standing_of m (length j₀) os))
    (l : ℕ) (room : journal_size m ≤ min l (length j₀)) where
  -- up to 68 step backs leave the symbols before those
  pub stand_back : (n : ℕ) → n ≤ SYMBOLS
      → standing_of m (length j₀) (replicate n (back l) ++ os)
      ≡ record { symbols = drop n (standing_of m (length j₀) os).symbols; begun = frames_before (standing_of m (length j₀) os) }
  unfolding standing_of after
  stand_back zero h = ap (λ (k : ℕ). record { symbols = (standing_of m (length j₀) os).symbols; begun = k }) furthest
  stand_back (suc n) h =
      let ys = (standing_of m (length j₀) os).symbols in
      let e : drop 1 (drop n ys) ≡ drop (suc n) ys = drop-drop 1 n ys ∙ ap (λ (k : ℕ). drop k ys) (add-one n) in
      rw (stand_back n (omega arith), goes ys later n h m (min l (length j₀)) room)
      (ap (λ (x : List (List Float)). record { symbols = x; begun = frames_of ys }) e)

  -- each of 68 step backs is accepted
  pub analyst_goes_back : (n : ℕ) → n < SYMBOLS → {s₁ : Session} {j₁ : List Float} → Run m j₀ (replicate n (back l) ++ os) s₁ j₁
      → {r : Called (Unit {0})} → r ≡ step_back_answer m s₁ (take l j₁) → step_number r.answer ≡ ACCEPTED
  analyst_goes_back n h {s₁} {j₁} run e =
      (demand_3_back f run l e).number
      ∙ ap (λ (k : ℕ). step_back_no_after m k (standing_of m (length j₀) (replicate n (back l) ++ os))) (lent_length l (length j₀) j₁ (history f run).held.size)
      ∙ ap (step_back_no_after m (min l (length j₀))) (stand_back n (omega arith))
      ∙ goes (standing_of m (length j₀) os).symbols later n h m (min l (length j₀)) room

  -- and feeding the same symbols again, up to 68, shows what stood before
  pub analyst_comes_again : (n wide : ℕ) → n ≤ SYMBOLS → data_size m ≤ wide → {t : Session} {k : List Float}
      → Run m j₀ (feeds wide l (take n (standing_of m (length j₀) os).symbols) ++ (replicate n (back l) ++ os)) t k → shown m t k ≡ shown m s j
  analyst_comes_again n wide h w run =
      let h₀ = history f any in
      let ys = (standing_of m (length j₀) os).symbols in
      let gone = replicate n (back l) ++ os in
      let b : (standing_of m (length j₀) gone).symbols ≡ drop n ys = ap (λ (x : Standing). x.symbols) (stand_back n h) in
      let e : take n ys ++ (standing_of m (length j₀) gone).symbols ≡ ys = ap (λ (x : List (List Float)). take n ys ++ x) b ∙ take-append-drop n ys in
      let few : frames_of (take n ys ++ (standing_of m (length j₀) gone).symbols) ≤ FRAMES =
      subst (λ (x : List (List Float)). frames_of x ≤ FRAMES) (sym e) h₀.held.early
      in
      demand_3_shown f run
      ∙ ap (shown_of m) (fed_on_top m wide l (length j₀) w room gone (take n ys) (tall-front m n ys h₀.tall) few ∙ e)
      ∙ sym (demand_3_shown f any)
