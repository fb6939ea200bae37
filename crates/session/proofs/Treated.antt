-- Document 01 and document 02's E8: a session handed in with a count above 68 is treated as having 68, one with a frame count above 1,000,000 as having
-- 1,000,000, and any `behind` but 0 says that a later frame was begun: each call answers as on the session that it is treated as. Assumes nothing.
use mathlib.Core.Path.{◌≡◌}
use mathlib.Core.Logic.{◌⊎◌, inl, inr, ◌↔◌}
use mathlib.Core.List.{List}
use Prim.Native.Nat.{ℕ, ◌<◌, ◌≤◌}
use native.Mathlib.Omega.{arith}
use lib.Ieee.{Float}
use borrow.Author.Tests.{le-leb, lt-leb, le-ltb, lt-ltb, ne_eqb}
use Rattle.ground.proofs.Exactly.{at_most}
use Rattle.carriers.specs.Mode.{Mode}
use Rattle.tps.specs.Packing.{Unpacked}
use Rattle.tps.specs.Word.{SYMBOLS}
use Rattle.session.specs.declared.Session.{Session}
use Rattle.session.specs.Session.{standing, frame_of, next_phase, feed_no, open_of, step_back_no_of, step_back_no, back_to, back_of, Words}

-- the session that one handed in is treated as
abbrev pub treated : Session → Session
treated s = record { prev = s.prev; bits = s.bits; count = standing s; frames = frame_of s; behind = s.behind }

module _ (s : Session) where
  same-standing : standing (treated s) ≡ standing s
  same-standing = omega arith

  same-frame : frame_of (treated s) ≡ frame_of s
  same-frame = omega arith

  pub phase-treated : next_phase (treated s) ≡ next_phase s
  phase-treated = rw same-standing

module _ (m : Mode) (s : Session) where
  -- a feed has the same number, and goes to the same session
  pub feed-number-treated : (symbol out journal : List Float) → feed_no m (treated s) symbol out journal ≡ feed_no m s symbol out journal
  feed-number-treated symbol out journal = rw (same-frame s, same-standing s)

  open_by : (SYMBOLS ≤ s.count) ⊎ (s.count < SYMBOLS) → open_of m (treated s) ≡ open_of m s
  unfolding open_of
  open_by (inl h) = rw (le-leb SYMBOLS s.count h, le-leb SYMBOLS (standing s) (omega arith), same-frame s)
  open_by (inr h) =
      let e : standing s ≡ s.count = omega arith in
      rw (lt-leb SYMBOLS s.count h, lt-leb SYMBOLS (standing s) (omega arith), same-frame s, e)

  pub open_treated : open_of m (treated s) ≡ open_of m s
  open_treated = open_by (at_most SYMBOLS s.count)

  -- a step back has the same number, and leads to the same session
  pub step-number-treated : (journal : List Float) → step_back_no m (treated s) journal ≡ step_back_no m s journal
  step-number-treated journal = rw (same-frame s, same-standing s)

  pub back-treated : (journal : List Float) → back_of m (treated s) journal ≡ back_of m s journal
  unfolding back_of back_to
  back-treated journal = rw (same-frame s, same-standing s)

-- of whether a later frame was begun only that it isn't 0 counts
pub behind-treated : (m : Mode) (journal frames behind n : ℕ) → (behind ≡ 0 → ⊥) → step_back_no_of m journal frames behind n ≡ step_back_no_of m journal frames 1 n
unfolding step_back_no_of
behind-treated m journal frames behind n h = rw (ne_eqb behind 0 h)

-- and the word is the same
word-by : (s : Session) (r : Unpacked) → (SYMBOLS ≤ s.count) ⊎ (s.count < SYMBOLS) → Words (treated s) r ↔ Words s r
word-by s r (inl h) = rw (le-ltb s.count SYMBOLS h, le-ltb (standing s) SYMBOLS (omega arith)) (λ w. w, λ w. w)
word-by s r (inr h) = rw (lt-ltb s.count SYMBOLS h, lt-ltb (standing s) SYMBOLS (omega arith)) (λ w. w, λ w. w)

pub word-treated : (s : Session) (r : Unpacked) → Words (treated s) r ↔ Words s r
word-treated s r = word-by s r (at_most SYMBOLS s.count)
