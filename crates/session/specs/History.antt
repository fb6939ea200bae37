-- Document 01, demand 3, with document 02's E8: what any run of feeds, step backs and resets leaves, refused ones among
-- them, said over the promises alone. Lists of operations and of symbols are newest first.
use Rattle.std.specs.Prelude.{◌≡◌, Bool, cond, List, [], ◌∷◌, ◌++◌, map, ℕ, suc, ◌*◌, ◌%◌, min, max, ltb, leb}
use Rattle.std.specs.Prelude.{Float, length, take, drop, Option}
use Rattle.ground.specs.declared.Refusal.{Refusal}
use Rattle.ground.specs.Answer.{kept}
use Rattle.ground.specs.declared.Cell.{Cell}
use Rattle.carriers.specs.Mode.{Mode}
use Rattle.grid.specs.declared.ScatteredPilotExtractor.{ScatteredPilotExtractor}
use Rattle.grid.specs.Calls.{extract_answer, extract_state_of}
use Rattle.tps.specs.declared.receiver.TpsDecoder.{TpsDecoder}
use Rattle.tps.specs.Word.{SYMBOLS}
use Rattle.session.specs.declared.Session.{Session}
use Rattle.session.specs.declared.Called.{Called}
use Rattle.session.specs.Journal.{tps_cells, place, frame_in, decoder_on}
use Rattle.session.specs.Session.{fresh, feed_no_of, Feeds, next_phase, step_back_no_of, step_back_answer}

-- ---- a run of calls

-- an operation: a feed of a symbol, a step back, a reset. `out` is how long the lent output is, `lent` how much of the
-- journal is lent, from its start: all of it where `lent` is at least its length
pub data Op : Type 0 where
  feed : (symbol : List Float) (out lent : ℕ) → Op
  back : (lent : ℕ) → Op
  reset : Op

-- a call that meets its promise, from the session s and the journal j to s' and j'; what isn't lent of the journal
-- stays
pub record FeedCall (m : Mode) (symbol : List Float) (room lent : ℕ) (s : Session) (j : List Float) (s' : Session)
    (j' : List Float) : Type 0 where
  pub given : List Float
  pub given_length : length given ≡ room
  pub answer : Called ℕ
  pub out : List Float
  pub part : List Float
  pub promise : Feeds m s symbol given (take lent j) answer out part
  pub session : s' ≡ answer.session
  pub journal : j' ≡ part ++ drop lent j

pub record BackCall (m : Mode) (lent : ℕ) (s : Session) (j : List Float) (s' : Session) (j' : List Float) : Type 0 where
  pub answer : Called (Unit {0})
  pub promise : answer ≡ step_back_answer m s (take lent j)
  pub session : s' ≡ answer.session
  pub journal : j' ≡ j

pub record ResetCall (m : Mode) (s : Session) (j : List Float) (s' : Session) (j' : List Float) : Type 0 where
  pub promise : s' ≡ fresh m
  pub journal : j' ≡ j

abbrev pub Call : Mode → Op → Session → List Float → Session → List Float → Type 0
Call m (feed symbol room lent) = FeedCall m symbol room lent
Call m (back lent) = BackCall m lent
Call m reset = ResetCall m

-- the operations, on a new session with the journal j₀, have led to the session s and the journal j
pub data Run (m : Mode) (j₀ : List Float) : List Op → Session → List Float → Type 0 where
  start : {s : Session} → s ≡ fresh m → Run m j₀ [] s j₀
  next : {os : List Op} {s : Session} {j : List Float} (o : Op) {s' : Session} {j' : List Float}
      → Run m j₀ os s j → Call m o s j s' j' → Run m j₀ (o ∷ os) s' j'

-- ---- what stands after it

-- the symbols that stand since the last reset, and the furthest frame begun since then
pub record Standing : Type 0 where
  pub symbols : List (List Float)
  pub begun : ℕ

abbrev pub none : Standing
none = record { symbols = []; begun = 0 }

-- 68 stand in the current frame, so that the next one begins a frame
abbrev pub whole : List (List Float) → Bool
whole f = leb SYMBOLS (length f)

-- those that stand before the next one in its frame, where f stand in the current frame: none where that is whole
abbrev pub opened : List (List Float) → List (List Float)
opened f = cond (whole f) [] f

-- those of the current frame
unfoldable pub frame : List (List Float) → List (List Float)
frame [] = []
frame (y ∷ ys) = y ∷ opened (frame ys)

-- how many frames are before it
unfoldable pub frames_of : List (List Float) → ℕ
frames_of [] = 0
frames_of (y ∷ ys) = cond (whole (frame ys)) (suc (frames_of ys)) (frames_of ys)

-- 1 where a later frame than frame c was begun, where `begun` is the furthest
abbrev pub behind_in : ℕ → ℕ → ℕ
behind_in c begun = cond (ltb c begun) 1 0

-- how many stand in the current frame, how many frames are before it, and whether a later one was begun
abbrev pub many : Standing → ℕ
many st = length (frame st.symbols)

abbrev pub frames_before : Standing → ℕ
frames_before st = frames_of st.symbols

abbrev pub behind_of : Standing → ℕ
behind_of st = behind_in (frames_before st) st.begun

-- one more, and one fewer
abbrev pub one_more : List Float → Standing → Standing
one_more y st = record { symbols = y ∷ st.symbols; begun = max st.begun (frames_of (y ∷ st.symbols)) }

abbrev pub one_fewer : Standing → Standing
one_fewer st = record { symbols = drop 1 st.symbols; begun = st.begun }

module _ (m : Mode) where
  -- the refusals of a feed and of a step back where st stands
  abbrev pub feed_no_after : ℕ → ℕ → ℕ → Standing → Option Refusal
  feed_no_after symbol out journal st = feed_no_of m symbol out journal (frames_before st) (many st)

  abbrev pub step_back_no_after : ℕ → Standing → Option Refusal
  step_back_no_after journal st = step_back_no_of m journal (frames_before st) (behind_of st) (many st)

  -- what stands after an operation, where st stood and the journal has lj f32
  unfoldable pub after : ℕ → Op → Standing → Standing
  after lj (feed symbol room lent) st =
      kept (feed_no_after (length symbol) room (min lent lj) st) (one_more symbol st) st
  after lj (back lent) st = kept (step_back_no_after (min lent lj) st) (one_fewer st) st
  after lj reset st = none

  unfoldable pub standing_of : ℕ → List Op → Standing
  standing_of lj [] = none
  standing_of lj (o ∷ os) = after lj o (standing_of lj os)

-- feeding the symbols in order, each with an output of `room` f32 and the journal lent up to `lent`
abbrev pub feeds : ℕ → ℕ → List (List Float) → List Op
feeds room lent ys = map (λ (y : List Float). feed y room lent) ys

-- ---- orion-sdr's two types on the standing symbols, each call by its own promise, and what is compared

-- cells in a row, the latest of which comes first here and last there
unfoldable pub row : List (List Float) → List Float
row [] = []
row (c ∷ cs) = row cs ++ c

-- the frame count, how many symbols stand in the current frame, the phase, the bits, the previous cells, and the used
-- journal of the current frame
pub record Shown : Type 0 where
  pub frames : ℕ
  pub count : ℕ
  pub phase : ℕ
  pub bits : List ℕ
  pub prev : List Cell
  pub journal : List Float

module _ (m : Mode) where
  -- the TPS cells of some symbols
  abbrev pub cells_of : List (List Float) → List (List Float)
  cells_of ys = map (tps_cells m) ys

  -- the TPS decoder after feeding it these, where it is reset at each frame; and as the next symbol finds it
  abbrev pub decoder_after : List (List Float) → TpsDecoder
  decoder_after ys = decoder_on m (cells_of (frame ys))

  abbrev pub decoder_before : List (List Float) → TpsDecoder
  decoder_before ys = decoder_on m (cells_of (opened (frame ys)))

  -- the extractor after extracting the symbols, each into an output like `out`
  unfoldable pub extractor_after : List Float → List (List Float) → ScatteredPilotExtractor
  extractor_after out [] = record { phase = 0 }
  extractor_after out (y ∷ ys) = extract_state_of (extract_answer m (extractor_after out ys) y out)

  -- what the symbols that stand show
  unfoldable pub shown_of : List (List Float) → Shown
  shown_of ys =
      record {
        frames = frames_of ys;
        count = length (frame ys);
        phase = length (frame ys) % 4;
        bits = (decoder_after ys).bits;
        prev = (decoder_after ys).prev;
        journal = row (cells_of (frame ys));
      }

  -- and a session with its journal, as far as its frame uses that
  abbrev pub used : Session → List Float → List Float
  used s j = take (s.count * place m) (frame_in m s.frames j)

  abbrev pub shown : Session → List Float → Shown
  shown s j =
      record {
        frames = s.frames;
        count = s.count;
        phase = next_phase s;
        bits = s.bits;
        prev = s.prev;
        journal = used s j;
      }
