-- A feed and a step back are accepted exactly where the lengths and what stands allow it, and refused elsewhere. Assumes nothing.
use mathlib.Core.Path.{◌≡◌, refl}
use mathlib.Core.Bool.{true}
use mathlib.Core.Logic.{◌⊎◌, inl, inr, ◌↔◌}
use mathlib.Core.List.{List, []}
use Prim.Native.Nat.{ℕ, suc, ◌<◌, ◌≤◌}
use native.Mathlib.Omega.{arith}
use lib.Ieee.{Float}
use lib.ListN.{length}
use borrow.Author.Tests.{lt-ltb, le-ltb}
use Rattle.std.specs.Prelude.{Option, Some, None}
use Rattle.ground.specs.declared.Refusal.{Refusal}
use Rattle.ground.specs.Refusal.{ACCEPTED, EMPTY}
use Rattle.ground.proofs.Exactly.{at_most}
use Rattle.carriers.specs.Mode.{Mode}
use Rattle.session.specs.Journal.{journal_size}
use Rattle.session.specs.Session.{crosses}
use Rattle.session.specs.History.{Standing, frame, frames_before, behind_in, behind_of, many, feed_no_after, step_back_no_after}
use Rattle.session.specs.Demand.{Fits, Gone, Steps}
use Rattle.session.proofs.Numbers.{crosses_decides, feed-taken, step-empty, step-taken}
use Rattle.session.proofs.Frames.{frame-none}

-- a call that is accepted exactly where P holds is so, or is refused
by_number_lem : {P : Type 0} (n : Option Refusal) → (n ≡ ACCEPTED) ↔ P → P ⊎ ((k : Refusal) × (n ≡ Some k))
by_number_lem None h = inl (h.0 refl)
by_number_lem (Some k) h = inr (k, refl)

-- ---- a feed

module _ (m : Mode) (symbol out journal : ℕ) (st : Standing) where
  pub taken_exactly : (feed_no_after m symbol out journal st ≡ ACCEPTED) ↔ Fits m symbol out journal st
  taken_exactly =
      let h = feed-taken m symbol out journal (frames_before st) (many st) in (
        λ e. let (t, (w, (r, f))) = h.0 e in record { tall = t; wide = w; room = r; free = f },
        λ g. h.1 (g.tall, (g.wide, (g.room, g.free))),
      )

  pub feed_cases : Fits m symbol out journal st ⊎ ((k : Refusal) × (feed_no_after m symbol out journal st ≡ Some k))
  feed_cases = by_number_lem (feed_no_after m symbol out journal st) taken_exactly

-- ---- a step back

-- whether a later frame was begun
pub behind-some : (c begun : ℕ) → c < begun → behind_in c begun ≡ 1
behind-some c begun h = rw (lt-ltb c begun h)

pub behind-none : (c begun : ℕ) → begun ≤ c → behind_in c begun ≡ 0
behind-none c begun h = rw (le-ltb c begun h)

-- the latest isn't the first of a later frame, or the frame before that is kept
abbrev pub Kept : Standing → Type 0
Kept st = ((many st ≡ 1 → ⊥) ⊎ (frames_before st < 1)) ⊎ (behind_of st ≡ 0)

module _ (st : Standing) where
  kept_near : Kept st → Gone st → many st ≡ 1 → ⊥
  kept_near (inl (inl h)) g one = h one
  kept_near (inl (inr h)) g one = omega arith
  kept_near (inr h) g one = omega (arith, behind-some (frames_before st) st.begun (omega arith))

  module _ (close : st.begun ≤ suc (frames_before st)) (near : Gone st → many st ≡ 1 → ⊥) where
    kept_later : frames_before st < st.begun → (1 ≤ frames_before st) ⊎ (frames_before st < 1) → Kept st
    kept_later l (inl k) = inl (inl (λ one. near (omega arith, omega arith) one))
    kept_later l (inr k) = inl (inr k)

    near-kept : (st.begun ≤ frames_before st) ⊎ (frames_before st < st.begun) → Kept st
    near-kept (inl l) = inr (behind-none (frames_before st) st.begun l)
    near-kept (inr l) = kept_later l (at_most 1 (frames_before st))

    -- the first symbol of a later frame is one of the furthest begun
    last-by : many st ≡ 1 → 1 ≤ frames_before st → (st.begun ≤ frames_before st) ⊎ (frames_before st < st.begun) → st.begun ≤ frames_before st
    last-by one later (inl l) = l
    last-by one later (inr l) = absurd (near (omega arith, omega arith) one)

    pub near_last : crosses (frames_before st) (many st) ≡ true → st.begun ≤ frames_before st
    near_last x =
        let (one, later) = (crosses_decides (frames_before st) (many st)).holds.0 x in
        last-by one later (at_most st.begun (frames_before st))

module _ (m : Mode) (journal : ℕ) (st : Standing) where
  -- by the numbers that it looks at
  pub goes_exactly : (step_back_no_after m journal st ≡ ACCEPTED) ↔ ((journal_size m ≤ journal) × ((many st ≡ 0 → ⊥) × Kept st))
  goes_exactly = step-taken m journal (frames_before st) (behind_of st) (many st)

  -- and by what stands, where the furthest frame begun is the current one or the next
  module _ (close : st.begun ≤ suc (frames_before st)) where
    pub stepped_exactly : (step_back_no_after m journal st ≡ ACCEPTED) ↔ Steps m journal st
    stepped_exactly = (
      λ e. let (r, (s, k)) = goes_exactly.0 e in record { room = r; some = s; near = kept_near st k },
      λ g. goes_exactly.1 (g.room, (g.some, near-kept st close g.near (at_most st.begun (frames_before st)))),
    )

    pub step_cases : Steps m journal st ⊎ ((k : Refusal) × (step_back_no_after m journal st ≡ Some k))
    step_cases = by_number_lem (step_back_no_after m journal st) stepped_exactly

-- ---- EMPTY, by what stands

none_stand : (st : Standing) → many st ≡ 0 → st.symbols ≡ []
none_stand st e = (frame-none st.symbols e).0

none-many : (ys : List (List Float)) → ys ≡ [] → length (frame ys) ≡ 0
unfolding frame
none-many ys e = rw e

module _ (st : Standing) (low : frames_before st ≤ st.begun) (close : st.begun ≤ suc (frames_before st)) where
  behind_gone : 1 ≤ frames_before st → (behind_of st ≡ 0 → ⊥) → (st.begun ≤ frames_before st) ⊎ (frames_before st < st.begun) → Gone st
  behind_gone later b (inl l) = absurd (b (behind-none (frames_before st) st.begun l))
  behind_gone later b (inr l) = (omega arith, omega arith)

  ends_gone : (many st ≡ 0) ⊎ (((many st ≡ 1) × (1 ≤ frames_before st)) × (behind_of st ≡ 0 → ⊥)) → (st.symbols ≡ []) ⊎ (Gone st × (many st ≡ 1))
  ends_gone (inl z) = inl (none_stand st z)
  ends_gone (inr ((one, later), b)) = inr (behind_gone later b (at_most st.begun (frames_before st)), one)

  gone_ends : (st.symbols ≡ []) ⊎ (Gone st × (many st ≡ 1)) → (many st ≡ 0) ⊎ (((many st ≡ 1) × (1 ≤ frames_before st)) × (behind_of st ≡ 0 → ⊥))
  gone_ends (inl z) = inl (none-many st.symbols z)
  gone_ends (inr (g, one)) =
      inr ((one, omega arith), λ b. omega (arith, behind-some (frames_before st) st.begun (omega arith)))

pub empty_exactly : (m : Mode) (journal : ℕ) (st : Standing) → frames_before st ≤ st.begun → st.begun ≤ suc (frames_before st)
    → (step_back_no_after m journal st ≡ EMPTY) ↔ ((journal_size m ≤ journal) × ((st.symbols ≡ []) ⊎ (Gone st × (many st ≡ 1))))
empty_exactly m journal st low close =
    let h = step-empty m journal (frames_before st) (behind_of st) (many st) in (
      λ e. ((h.0 e).0, ends_gone st low close (h.0 e).1),
      λ p. h.1 (p.0, gone_ends st low close p.1),
    )
