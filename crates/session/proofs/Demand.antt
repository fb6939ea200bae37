-- Document 01, demand 3, with document 02's E8, over the promises of the session's calls: after any run of feeds, step backs and resets, refused ones among
-- them, the session and the current frame's used journal show what all standing symbols do when they are fed in order; a feed, a step back and a call for
-- the word answer what the extractor and the TPS decoder, reset at each frame, answer after the standing symbols. Assumes nothing.
use mathlib.Core.Path.{◌≡◌, sym, ap, ap₂, ◌∙◌, subst}
use mathlib.Core.Logic.{◌↔◌}
use mathlib.Core.List.{List}
use Prim.Native.Nat.{ℕ, ◌≤◌}
use lib.Ieee.{Float}
use lib.ListN.{length, take}
use Rattle.ground.specs.Refusal.{ACCEPTED}
use Rattle.carriers.specs.Mode.{Mode, data_size}
use Rattle.carriers.proofs.Facts.{Facts}
use Rattle.tps.specs.declared.receiver.TpsDecoder.{TpsDecoder}
use Rattle.tps.specs.Packing.{Unpacked}
use Rattle.tps.specs.Receive as receive
use Rattle.session.specs.declared.Session.{Session}
use Rattle.session.specs.declared.Called.{Called}
use Rattle.session.specs.Journal.{journal_size, frame_in, places_in, decoder_on}
use Rattle.session.specs.Session.{decoder_of, Feeds, step_back_answer, step_number, Words}
use Rattle.session.specs.History.{Op, Run, frame, frames_before, behind_of, standing_of, feeds, cells_of, decoder_after, Shown, shown, shown_of}
use Rattle.session.specs.Demand.{Fits, Steps, FeedRight, BackRight, WordRight}
use Rattle.session.proofs.Cases.{feed_cases, taken_exactly, step_cases, stepped_exactly}
use Rattle.session.proofs.Cells.{placed, cells-many, places_row}
use Rattle.session.proofs.Holding.{cells-held}
use Rattle.session.proofs.OneCall.{count_is, frames-are, holds-shown}
use Rattle.session.proofs.History.{history, fed-alone}
use Rattle.session.proofs.Feeding.{fed_right}
use Rattle.session.proofs.Stepping.{stepped_right}
use Rattle.session.proofs.Words.{word-one, word-full, word-incomplete, word_none}

-- what is compared is all of a session's state but how far was begun
pub same-session : (m : Mode) (j k : List Float) {s t : Session} → shown m s j ≡ shown m t k → s.behind ≡ t.behind → s ≡ t
same-session m j k {s} {t} e b =
    ap (λ (x : Shown). record { prev = x.prev; bits = x.bits; count = x.count; frames = x.frames; behind = s.behind }) e
    ∙ ap (λ (x : ℕ). record { prev = t.prev; bits = t.bits; count = t.count; frames = t.frames; behind = x }) b

module _ {m : Mode} (f : Facts m) {j₀ j : List Float} {os : List Op} {s : Session} (any : Run m j₀ os s j) where
  -- any run shows what stands
  pub demand_3_shown : shown m s j ≡ shown_of m (standing_of m (length j₀) os).symbols
  demand_3_shown = holds-shown f (history f any)

  -- and so what a new session does that is fed all that stands, in order
  pub demand_3 : {j₁ k : List Float} {t : Session} (room : ℕ) → journal_size m ≤ length j₁ → data_size m ≤ room
      → Run m j₁ (feeds room (length j₁) (standing_of m (length j₀) os).symbols) t k → shown m s j ≡ shown m t k
  demand_3 room journal wide fed =
      let h = history f any in
      demand_3_shown ∙ sym (fed-alone f (standing_of m (length j₀) os).symbols room journal wide h.tall h.held.early fed)

  -- what a session holds of how far was begun
  pub behind_is_begun : s.behind ≡ behind_of (standing_of m (length j₀) os)
  behind_is_begun = ap (λ (x : Session). x.behind) (history f any).held.session

  decoder_is : decoder_of s ≡ decoder_after m (standing_of m (length j₀) os).symbols
  decoder_is = ap decoder_of (history f any).held.session

  -- as a TPS decoder, the session is what that is after the cells in the used places of its frame in the journal
  pub session_in_journal : decoder_of s ≡ decoder_on m (places_in m s.count (frame_in m s.frames j))
  session_in_journal =
      let h = (history f any).held in
      let st = standing_of m (length j₀) os in
      let xs : List (List Float) = frame st.symbols in
      let n : length (cells_of m xs) ≡ length xs = cells-many m xs in
      decoder_is
      ∙ ap (decoder_on m) (sym (places_row m (cells_of m xs) (frame_in m (frames_before st) j) (placed f xs) (rw n h.cells)))
      ∙ ap₂ (λ (k i : ℕ). decoder_on m (places_in m k (frame_in m i j))) (n ∙ sym (count_is f h)) (sym (frames-are f h))

  -- a feed is right, and accepted exactly where the lengths suffice and not all of frame 1,000,000 stands
  module _ (y d : List Float) (l : ℕ) {r : Called ℕ} {d' p' : List Float} (fed : Feeds m s y d (take l j) r d' p') where
    pub demand_3_feed : FeedRight m (standing_of m (length j₀) os) s y d (take l j) r d' p'
    demand_3_feed =
        fed_right f (history f any) y d l fed (feed_cases m (length y) (length d) (length (take l j)) (standing_of m (length j₀) os))

    pub feed_refused_exactly : (receive.bit_number r.answer ≡ ACCEPTED)
        ↔ Fits m (length y) (length d) (length (take l j)) (standing_of m (length j₀) os)
    feed_refused_exactly =
        rw demand_3_feed.number (taken_exactly m (length y) (length d) (length (take l j)) (standing_of m (length j₀) os))

  -- a step back is right, and accepted exactly where the journal suffices, some symbol stands and the one before it is kept
  module _ (l : ℕ) {r : Called (Unit {0})} (e : r ≡ step_back_answer m s (take l j)) where
    pub demand_3_back : BackRight m (standing_of m (length j₀) os) s (take l j) r
    demand_3_back = stepped_right f (history f any) l e (step_cases m (length (take l j)) (standing_of m (length j₀) os) (history f any).held.close)

    pub back_refused_exactly : (step_number r.answer ≡ ACCEPTED) ↔ Steps m (length (take l j)) (standing_of m (length j₀) os)
    back_refused_exactly =
        rw demand_3_back.number (stepped_exactly m (length (take l j)) (standing_of m (length j₀) os) (history f any).held.close)

  -- a call for the word is one on the TPS decoder after the current frame's symbols, and is right
  module _ (r : Unpacked) (w : Words s r) where
    pub words_after : receive.Words (decoder_after m (standing_of m (length j₀) os).symbols) r
    words_after = subst (λ (x : TpsDecoder). receive.Words x r) decoder_is w

    pub demand_3_word : WordRight m (standing_of m (length j₀) os) r
    demand_3_word =
        let h = history f any in
        let d = decoder_after m (standing_of m (length j₀) os).symbols in
        let k = cells-held f (frame (standing_of m (length j₀) os).symbols) h.held.few in
        record {
          incomplete = word-incomplete _ d r h.held.few k words_after;
          full = λ l. word-full d r (rw l at k) words_after;
          one = λ l b c hb hc nb nc. word-one d (rw l at k) b c hb hc nb nc;
          none = word_none _ d r h.held.few k words_after;
        }
