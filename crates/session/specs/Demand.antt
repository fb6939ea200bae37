-- Document 01, demand 3, with document 02's E8: what its theorems claim of a feed, of a step back and of a call for the
-- word where some symbols stand, where orion-sdr's two types are `decoder_after`, reset at each frame, and
-- `extractor_after` (History). All but a refused call's state is said of what is compared.
use Rattle.std.specs.Prelude.{◌≡◌, ◌⊎◌, ◌↔◌, List, [], ◌∷◌, ℕ, suc, ◌<◌, ◌≤◌, Float, length, drop, Err}
use Rattle.ground.specs.declared.Refusal.TheVariants.{NoWord, Incomplete}
use Rattle.ground.specs.Refusal.{ACCEPTED}
use Rattle.carriers.specs.Mode.{Mode, symbol_size, data_size}
use Rattle.bch.specs.Code.{Codeword, distance, Lone}
use Rattle.grid.specs.Calls.{extract_leaves, phase_of}
use Rattle.tps.specs.Packing.{Unpacked, Received}
use Rattle.tps.specs.Receive.{bit_number, feed_answer}
use Rattle.session.specs.declared.Session.{Session}
use Rattle.session.specs.declared.Called.{Called}
use Rattle.tps.specs.Word.{SYMBOLS}
use Rattle.session.specs.Journal.{tps_cells, journal_size, in_place}
use Rattle.session.specs.Session.{FRAMES, step_number}
use Rattle.session.specs.History.{
  Standing,
  opened,
  frame,
  many,
  frames_before,
  one_more,
  one_fewer,
  feed_no_after,
  step_back_no_after,
  decoder_after,
  decoder_before,
  extractor_after,
  shown,
  shown_of,
}

-- every symbol has at least the mode's cells
abbrev pub Tall : Mode → List (List Float) → Type 0
Tall m [] = Unit {0}
Tall m (y ∷ ys) = (symbol_size m ≤ length y) × Tall m ys

-- what a feed asks of the lengths of the symbol, the lent data and the lent journal, and of what stands: not all of
-- frame 1,000,000
pub record Fits (m : Mode) (symbol out journal : ℕ) (st : Standing) : Type 0 where
  pub tall : symbol_size m ≤ symbol
  pub wide : data_size m ≤ out
  pub room : journal_size m ≤ journal
  pub free : (frames_before st < FRAMES) ⊎ (many st < SYMBOLS)

-- the frame before the current one can't be gone back to: a third frame has begun since the reset, and the current one
-- is the one before the furthest begun
abbrev pub Gone : Standing → Type 0
Gone st = (2 ≤ st.begun) × (suc (frames_before st) ≡ st.begun)

-- what a step back asks of the length of the lent journal, and of what stands
pub record Steps (m : Mode) (journal : ℕ) (st : Standing) : Type 0 where
  pub room : journal_size m ≤ journal
  pub some : many st ≡ 0 → ⊥
  pub near : Gone st → many st ≡ 1 → ⊥

-- a feed of the symbol y to the session s with st standing, where the data d and the journal p are lent. Accepted, it
-- answers what the TPS decoder does, which a frame's beginning resets, leaves the data cells of the extractor after all
-- that stand, whatever output x that one wrote to, and the symbol stands; refused, it changes nothing
pub record FeedRight (m : Mode) (st : Standing) (s : Session) (y d p : List Float) (r : Called ℕ) (d' p' : List Float)
    : Type 0 where
  pub number : bit_number r.answer ≡ feed_no_after m (length y) (length d) (length p) st
  pub answer : bit_number r.answer ≡ ACCEPTED
      → r.answer ≡ (feed_answer m (decoder_before m st.symbols) (tps_cells m y)).answer
  pub stands : bit_number r.answer ≡ ACCEPTED → shown m r.session p' ≡ shown_of m (one_more y st).symbols
  pub data_cells : bit_number r.answer ≡ ACCEPTED → (x : List Float) → data_size m ≤ length x
      → d' ≡ extract_leaves m (phase_of (extractor_after m x st.symbols).phase) y d
  pub journal_cells : bit_number r.answer ≡ ACCEPTED
      → p' ≡ in_place m (frames_before (one_more y st)) (length (opened (frame st.symbols))) (tps_cells m y) p
  pub refused : (bit_number r.answer ≡ ACCEPTED → ⊥) → (r.session ≡ s) × (d' ≡ d) × (p' ≡ p)

-- a step back of the session s with st standing, where the journal p is lent: done, the latest symbol no longer
-- stands; refused, it changes nothing
pub record BackRight (m : Mode) (st : Standing) (s : Session) (p : List Float) (r : Called (Unit {0})) : Type 0 where
  pub number : step_number r.answer ≡ step_back_no_after m (length p) st
  pub stands : step_number r.answer ≡ ACCEPTED → shown m r.session p ≡ shown_of m (one_fewer st).symbols
  pub refused : (step_number r.answer ≡ ACCEPTED → ⊥) → r.session ≡ s

-- the bits s1..s67 of what was received in the current frame, with the symbols ys standing
abbrev pub received : Mode → List (List Float) → List ℕ
received m ys = drop 1 (decoder_after m ys).bits

-- a call for the word with st standing: INCOMPLETE exactly with fewer than 68 in the current frame; with 68, what the
-- codeword within two of the bits s1..s67 tells (a word and the places at which they differ, or that a code is
-- reserved), of which there is at most one, and NO WORD exactly when there is none
pub record WordRight (m : Mode) (st : Standing) (r : Unpacked) : Type 0 where
  pub incomplete : (r ≡ Err Incomplete) ↔ (many st < SYMBOLS)
  pub full : many st ≡ SYMBOLS
      → Received (received m st.symbols) r ⊎ (Lone (received m st.symbols) × (r ≡ Err NoWord))
  pub one : many st ≡ SYMBOLS → (b c : List ℕ) → Codeword b → Codeword c → distance b (received m st.symbols) ≤ 2
      → distance c (received m st.symbols) ≤ 2 → b ≡ c
  pub none : (r ≡ Err NoWord) ↔ ((many st ≡ SYMBOLS) × Lone (received m st.symbols))
