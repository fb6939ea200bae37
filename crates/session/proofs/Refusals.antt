-- Each refusal of a feed, of a step back and of a call for the word after any run is given exactly where document 01 and document 02's E8 say: by the
-- lengths that are lent and by what stands. Assumes nothing.
use mathlib.Core.Path.{◌≡◌}
use mathlib.Core.Logic.Iff
use mathlib.Core.Logic.{◌⊎◌, ◌↔◌}
use mathlib.Core.List.{List, []}
use Prim.Native.Nat.{ℕ, ◌<◌, ◌≤◌}
use native.Mathlib.Omega.{arith}
use lib.Ieee.{Float}
use lib.ListN.{length, take}
use Rattle.std.specs.Prelude.{Err}
use Rattle.ground.specs.declared.Refusal.TheVariants.{NoWord, Reserved, Incomplete}
use Rattle.ground.specs.Refusal.{LENGTH, OUTPUT_SHORT, FULL, EMPTY}
use Rattle.ground.proofs.Exactly.{said_exactly}
use Rattle.carriers.specs.Mode.{Mode, symbol_size, data_size}
use Rattle.carriers.proofs.Facts.{Facts}
use Rattle.bch.specs.Code.{Lone}
use Rattle.tps.specs.Packing.{Unpacked}
use Rattle.tps.specs.Word.{SYMBOLS}
use Rattle.tps.specs.Receive as receive
use Rattle.tps.proofs.WordRefusals.{Reserves}
use Rattle.session.specs.declared.Session.{Session}
use Rattle.session.specs.declared.Called.{Called}
use Rattle.session.specs.Journal.{journal_size}
use Rattle.session.specs.Session.{FRAMES, Feeds, step_back_answer, step_number, Words}
use Rattle.session.specs.History.{Op, Run, frame, frames_before, many, standing_of}
use Rattle.session.specs.Demand.{Gone, received}
use Rattle.session.proofs.Numbers.{feed-length, feed-short, feed-full, step-short}
use Rattle.session.proofs.Cases.{empty_exactly}
use Rattle.session.proofs.Holding.{cells-held}
use Rattle.session.proofs.History.{history}
use Rattle.session.proofs.Words.{word-reserved}
use Rattle.session.proofs.Demand.{demand_3_feed, demand_3_back, words_after, demand_3_word}

module _ {m : Mode} (f : Facts m) {j₀ j : List Float} {os : List Op} {s : Session} (any : Run m j₀ os s j) where
  -- ---- a feed

  module _ (y d : List Float) (l : ℕ) {r : Called ℕ} {d' p' : List Float} (fed : Feeds m s y d (take l j) r d' p') where
    pub feed_length_exactly : (receive.bit_number r.answer ≡ LENGTH) ↔ (length y < symbol_size m)
    feed_length_exactly = said_exactly (demand_3_feed f any y d l fed).number (feed-length m _ _ _ _ _)

    pub feed_short_exactly : (receive.bit_number r.answer ≡ OUTPUT_SHORT)
        ↔ ((symbol_size m ≤ length y) × ((length d < data_size m) ⊎ (length (take l j) < journal_size m)))
    feed_short_exactly = said_exactly (demand_3_feed f any y d l fed).number (feed-short m _ _ _ _ _)

    -- the frame count is 1,000,000 and 68 stand in that frame
    pub feed_full_exactly : (receive.bit_number r.answer ≡ FULL)
        ↔ ((symbol_size m ≤ length y) × ((data_size m ≤ length d) × ((journal_size m ≤ length (take l j))
        × ((frames_before (standing_of m (length j₀) os) ≡ FRAMES) × (many (standing_of m (length j₀) os) ≡ SYMBOLS)))))
    feed_full_exactly =
        let h = (history f any).held in
        said_exactly (demand_3_feed f any y d l fed).number (Iff.trans (feed-full m _ _ _ _ _) (
          λ (t, (w, (r, (c, n)))). (t, (w, (r, (omega (arith, h.early), omega (arith, h.few))))),
          λ (t, (w, (r, (c, n)))). (t, (w, (r, (omega arith, omega arith)))),
        ))

  -- ---- a step back

  module _ (l : ℕ) {r : Called (Unit {0})} (e : r ≡ step_back_answer m s (take l j)) where
    pub back_short_exactly : (step_number r.answer ≡ OUTPUT_SHORT) ↔ (length (take l j) < journal_size m)
    back_short_exactly = said_exactly (demand_3_back f any l e).number (step-short m _ _ _ _)

    -- none stands, or one of the frame before the furthest begun, once a third has begun
    pub back_empty_exactly : (step_number r.answer ≡ EMPTY)
        ↔ ((journal_size m ≤ length (take l j))
        × (((standing_of m (length j₀) os).symbols ≡ []) ⊎ (Gone (standing_of m (length j₀) os) × (many (standing_of m (length j₀) os) ≡ 1))))
    back_empty_exactly =
        said_exactly (demand_3_back f any l e).number
        (empty_exactly m (length (take l j)) (standing_of m (length j₀) os) (history f any).held.low (history f any).held.close)

  -- ---- the word

  module _ (r : Unpacked) (w : Words s r) where
    pub word_incomplete_exactly : (r ≡ Err Incomplete) ↔ (many (standing_of m (length j₀) os) < SYMBOLS)
    word_incomplete_exactly = (demand_3_word f any r w).incomplete

    pub word_none_exactly : (r ≡ Err NoWord) ↔ ((many (standing_of m (length j₀) os) ≡ SYMBOLS) × Lone (received m (standing_of m (length j₀) os).symbols))
    word_none_exactly = (demand_3_word f any r w).none

    pub word_reserved_exactly : (r ≡ Err Reserved)
        ↔ ((many (standing_of m (length j₀) os) ≡ SYMBOLS) × Reserves (received m (standing_of m (length j₀) os).symbols))
    word_reserved_exactly =
        let h = history f any in
        word-reserved _ _ r h.held.few (cells-held f (frame (standing_of m (length j₀) os).symbols) h.held.few) (words_after f any r w)
