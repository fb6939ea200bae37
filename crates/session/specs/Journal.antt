-- Document 01, 'Receive session', with document 02's E8: the journal keeps two frames, frame c in half c mod 2, with a
-- place for the TPS cells of each symbol, and the cells in the used places of a half say what the session holds there.
use Rattle.std.specs.Prelude.{List, [], ◌∷◌, ◌++◌, ℕ, zero, suc, ◌+◌, ◌*◌, ◌%◌, Float, take, drop, replicate}
use Rattle.ground.specs.declared.Cell.{Cell}
use Rattle.ground.specs.Cells.{zero_cell}
use Rattle.carriers.specs.Mode.{Mode, tps_size}
use Rattle.carriers.specs.Carriers.{tps_bins}
use Rattle.grid.specs.Symbol.{cells_at}
use Rattle.tps.specs.declared.receiver.TpsDecoder.{TpsDecoder}
use Rattle.tps.specs.Word.{SYMBOLS}
use Rattle.tps.specs.Receive as receive

module _ (m : Mode) where
  -- the TPS cells of a symbol, in rising active order, re and im in turn
  unfoldable pub tps_cells : List Float → List Float
  tps_cells symbol = cells_at symbol (tps_bins m)

  -- the f32 of a place, and of a journal
  abbrev pub place : ℕ
  place = tps_size m

  abbrev pub journal_size : ℕ
  journal_size = 2 * SYMBOLS * place

  -- where the place of symbol n of frame c begins
  abbrev pub place_of : ℕ → ℕ → ℕ
  place_of c n = (c % 2 * SYMBOLS + n) * place

  -- the cells t in that place
  unfoldable pub in_place : ℕ → ℕ → List Float → List Float → List Float
  in_place c n t journal = take (place_of c n) journal ++ (t ++ drop (place_of c n + place) journal)

  -- a journal from the first place of frame c on
  abbrev pub frame_in : ℕ → List Float → List Float
  frame_in c journal = drop (place_of c 0) journal

  -- the previous cells with n standing in a frame: those of the latest one's place, or +0.0 throughout if none stands
  unfoldable pub prev_in : ℕ → List Float → List Cell
  prev_in zero frame = replicate m.tps_count zero_cell
  prev_in (suc n) frame = receive.first_cells m.tps_count (drop (n * place) frame)

  -- the cells in a frame's first n places, the latest first
  unfoldable pub places_in : ℕ → List Float → List (List Float)
  places_in zero frame = []
  places_in (suc n) frame = take place (drop (n * place) frame) ∷ places_in n frame

  -- the TPS decoder after feeding it the cells of some symbols, latest first
  unfoldable pub decoder_on : List (List Float) → TpsDecoder
  decoder_on [] = receive.fresh_decoder m
  decoder_on (c ∷ cs) = (receive.feed_answer m (decoder_on cs) c).decoder
