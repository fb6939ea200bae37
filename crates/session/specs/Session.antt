-- Document 01, 'Receive session', with document 02's E8: what each call answers, with the session after it, the lent
-- data and the lent journal. With n symbols standing in the current frame the phase is n mod 4. A count above 68 is
-- treated as 68, a frame count above 1,000,000 as 1,000,000, a held bit above 1 as 1, and bits not standing read 0;
-- any `behind` but 0 says that a later frame was begun.
use Rattle.std.specs.Prelude.{◌≡◌, Bool, cond, not, ◌&&◌, List, [], ◌∷◌, ℕ, ◌+◌, ◌-◌, ◌%◌, min, eqb, ltb, leb}
use Rattle.std.specs.Prelude.{Float, length, Option, Some, None, Result, Err}
use Rattle.ground.specs.declared.Refusal.{Refusal}
use Rattle.ground.specs.Refusal.{LENGTH, OUTPUT_SHORT, FULL, EMPTY, ◌gives◌, first_of}
use Rattle.ground.specs.Answer.{number_of, answer_by, kept}
use Rattle.carriers.specs.Mode.{Mode, symbol_size, data_size}
use Rattle.grid.specs.Calls.{extract_leaves}
use Rattle.tps.specs.declared.receiver.TpsDecoder.{TpsDecoder}
use Rattle.tps.specs.Packing.{Unpacked}
use Rattle.tps.specs.Receive as receive
use Rattle.session.specs.declared.Session.{Session}
use Rattle.session.specs.declared.Called.{Called}
use Rattle.tps.specs.Word.{SYMBOLS}
use Rattle.session.specs.Journal.{tps_cells, journal_size, in_place, frame_in, prev_in, places_in, decoder_on}

-- the largest frame count
abbrev pub FRAMES : ℕ
FRAMES = 1000000

-- how many symbols stand in the current frame, and how many frames are before it since the reset
abbrev pub standing : Session → ℕ
standing s = min SYMBOLS s.count

abbrev pub frame_of : Session → ℕ
frame_of s = min FRAMES s.frames

-- the phase of the next symbol; 68 is a multiple of 4, so that a frame begins with phase 0
abbrev pub next_phase : Session → ℕ
next_phase s = standing s % 4

-- a session as a TPS decoder, and a TPS decoder as a session in frame c
abbrev pub decoder_of : Session → TpsDecoder
decoder_of s = record { prev = s.prev; bits = s.bits; count = s.count }

abbrev pub session_in : ℕ → ℕ → TpsDecoder → Session
session_in c behind d = record { prev = d.prev; bits = d.bits; count = d.count; frames = c; behind = behind }

-- a session at the start of frame c, the furthest begun; a new one, and one that was reset, begins with the first
abbrev pub start_of : Mode → ℕ → Session
start_of m c = session_in c 0 (receive.fresh_decoder m)

abbrev pub fresh : Mode → Session
fresh m = start_of m 0

-- ---- a call by its refusal

-- one that is refused leaves the session as it is
abbrev pub refused : {A : Type 0} → Refusal → Session → Called A
refused refusal s = record { answer = Err refusal; session = s }

-- what a call of the session s answers, with the session after it: where it isn't refused what is done
abbrev pub called : {A : Type 0} → Option Refusal → Called A → Session → Called A
called None done s = done
called (Some refusal) done s = refused refusal s

-- ---- a feed

-- all of the last frame stands
abbrev pub full : ℕ → ℕ → Bool
full frames n = leb FRAMES frames && leb SYMBOLS n

module _ (m : Mode) where
  -- its refusal, by the lengths of the symbol, the lent data and the lent journal, the frame count, and how many
  -- symbols stand in the frame
  unfoldable pub feed_no_of : ℕ → ℕ → ℕ → ℕ → ℕ → Option Refusal
  feed_no_of symbol out journal frames n =
      first_of
      (ltb symbol (symbol_size m) gives LENGTH
      ∷ ltb out (data_size m) gives OUTPUT_SHORT
      ∷ ltb journal (journal_size m) gives OUTPUT_SHORT
      ∷ full frames n gives FULL
      ∷ [])

  abbrev pub feed_no : Session → List Float → List Float → List Float → Option Refusal
  feed_no s symbol out journal = feed_no_of (length symbol) (length out) (length journal) (frame_of s) (standing s)

  -- where the symbol goes: with 68 standing to the start of the next frame, else to the session itself
  unfoldable pub open_of : Session → Session
  open_of s = cond (leb SYMBOLS s.count) (start_of m (frame_of s + 1)) (session_in (frame_of s) s.behind (decoder_of s))

  -- what the TPS decoder answers there to the symbol's TPS cells, with the session after it
  unfoldable pub fed_by : Session → List Float → Called ℕ
  fed_by s cells =
      record {
        answer = (receive.feed_answer m (decoder_of s) cells).answer;
        session = session_in s.frames s.behind (receive.feed_answer m (decoder_of s) cells).decoder;
      }

  -- what a feed answers and leaves: the data cells are the extractor's, and the TPS cells stand in the symbol's place
  -- of the journal
  abbrev pub feed_answer : Session → List Float → List Float → List Float → Called ℕ
  feed_answer s symbol out journal =
      called (feed_no s symbol out journal) (fed_by (open_of s) (tps_cells m symbol)) s

  abbrev pub feed_data_leaves : Session → List Float → List Float → List Float → List Float
  feed_data_leaves s symbol out journal =
      kept (feed_no s symbol out journal) (extract_leaves m (next_phase s) symbol out) out

  abbrev pub feed_journal_leaves : Session → List Float → List Float → List Float → List Float
  feed_journal_leaves s symbol out journal =
      kept (feed_no s symbol out journal)
      (in_place m (open_of s).frames (open_of s).count (tps_cells m symbol) journal) journal

-- the promise of a feed
pub record Feeds (m : Mode) (s : Session) (symbol out journal : List Float) (r : Called ℕ) (out' journal' : List Float)
    : Type 0 where
  pub result : r ≡ feed_answer m s symbol out journal
  pub data_cells : out' ≡ feed_data_leaves m s symbol out journal
  pub journal_cells : journal' ≡ feed_journal_leaves m s symbol out journal

-- ---- a step back

-- the refusal that its answer says, if any, and the answer of one by its refusal
abbrev pub step_number : Result (Unit {0}) Refusal → Option Refusal
step_number answer = number_of answer

abbrev pub step_by : Option Refusal → Result (Unit {0}) Refusal
step_by refusal = answer_by refusal tt

-- the latest symbol is the first of a later frame, so that taking it back leads to the frame before
abbrev pub crosses : ℕ → ℕ → Bool
crosses frames n = eqb n 1 && leb 1 frames

-- and the frame before is no longer kept, since a later one than the current was begun
abbrev pub lost : ℕ → ℕ → ℕ → Bool
lost frames behind n = crosses frames n && not (eqb behind 0)

module _ (m : Mode) where
  -- its refusal, by the length of the lent journal, the frame count, whether a later frame was begun, and how many
  -- symbols stand in the frame
  unfoldable pub step_back_no_of : ℕ → ℕ → ℕ → ℕ → Option Refusal
  step_back_no_of journal frames behind n =
      first_of
      (ltb journal (journal_size m) gives OUTPUT_SHORT
      ∷ eqb n 0 gives EMPTY
      ∷ lost frames behind n gives EMPTY
      ∷ [])

  abbrev pub step_back_no : Session → List Float → Option Refusal
  step_back_no s journal = step_back_no_of (length journal) (frame_of s) s.behind (standing s)

  -- within its frame: the session with n standing, of one with more
  unfoldable pub back_to : ℕ → Session → List Float → Session
  back_to n s journal =
      record {
        prev = prev_in m n (frame_in m (frame_of s) journal);
        bits = receive.held_bits n s.bits;
        count = n;
        frames = frame_of s;
        behind = s.behind;
      }

  -- to the frame before, which is frame c: what the TPS decoder is after its 68 places, and a later frame was begun
  unfoldable pub back_over : ℕ → List Float → Session
  back_over c journal = session_in c 1 (decoder_on m (places_in m SYMBOLS (frame_in m c journal)))

  unfoldable pub back_of : Session → List Float → Session
  back_of s journal =
      cond (crosses (frame_of s) (standing s)) (back_over (frame_of s - 1) journal) (back_to (standing s - 1) s journal)

  -- what a step back answers, with the session after it; it writes nothing
  abbrev pub step_back_answer : Session → List Float → Called (Unit {0})
  step_back_answer s journal =
      record {
        answer = step_by (step_back_no s journal);
        session = kept (step_back_no s journal) (back_of s journal) s;
      }

-- ---- the word

-- what the TPS decoder answers, of the current frame's symbols
abbrev pub Words : Session → Unpacked → Type 0
Words s answer = receive.Words (decoder_of s) answer
