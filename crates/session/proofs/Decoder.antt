-- What the TPS decoder holds after the cells of some symbols, each a place long: how many they are, their bits with 0 behind them, and the latest cells. A
-- journal that has them in a row gives it back. A session that holds the same is fed and stepped back as that decoder. Assumes nothing.
use mathlib.Core.Path.{◌≡◌, refl, sym, ap, ap₂, ◌∙◌}
use mathlib.Core.List.{List, [], ◌∷◌, ◌++◌, map}
use Prim.Native.Nat.{ℕ, suc, ◌+◌, ◌-◌, ◌*◌, ◌<◌, ◌≤◌, min}
use native.Mathlib.Nat.{suc-mul}
use native.Mathlib.Numerals.{add-one}
use native.Mathlib.Omega.{arith}
use lib.Ieee.{Float}
use lib.ListN.{length, take, drop, set, replicate, length-set}
use lib.Seq.{take-set-le, take_at, drop_at, drop-drop}
use borrow.Author.Tests.{le-leb, lt-leb}
use Rattle.ground.specs.Refusal.{ACCEPTED}
use Rattle.carriers.specs.Mode.{Mode}
use Rattle.tps.specs.declared.receiver.TpsDecoder.{TpsDecoder}
use Rattle.tps.specs.declared.receiver.Fed as tps
use Rattle.tps.specs.Receive as receive
use Rattle.tps.specs.Receive.{held_bits}
use Rattle.tps.proofs.Receiving.{feed-accepted, fed-bits-held}
use Rattle.tps.specs.Word.{SYMBOLS}
use Rattle.session.specs.Journal.{place, frame_in, prev_in, places_in, decoder_on}
use Rattle.session.specs.Session.{FRAMES, frame_of, session_in, start_of, open_of, back_to, back_over}
use Rattle.session.specs.History.{row}
use Rattle.session.proofs.Cells.{Placed, row_last, places_row, cells-front}

-- the decoder d has n standing, and its bits are held as they are
pub record BitsHeld (n : ℕ) (d : TpsDecoder) : Type 0 where
  pub count : d.count ≡ n
  pub size : length d.bits ≡ SYMBOLS
  pub bits : held_bits n d.bits ≡ d.bits

module _ (m : Mode) where
  -- ---- one symbol more

  module _ (n : ℕ) (d : TpsDecoder) (c : List Float) (p : length c ≡ place m) (h : BitsHeld n d) (l : n < SYMBOLS) where
    pub fed-number : receive.feed_no m d c ≡ ACCEPTED
    fed-number = feed-accepted m d c (omega (arith, p)) (omega (arith, h.count))

    fed_decoder : (receive.feed_answer m d c).decoder
        ≡ record {
          prev = receive.first_cells m.tps_count c;
          bits = set d.bits n (receive.fed_bit m d c);
          count = suc n;
        }
    fed_decoder = rw (fed-number, h.count, h.bits, add-one n)

    bits-held-next : BitsHeld (suc n) (receive.feed_answer m d c).decoder
    bits-held-next =
        let e : suc n ≡ d.count + 1 = omega (arith, h.count) in
        record {
          count = ap (λ (x : TpsDecoder). x.count) fed_decoder;
          size = ap (λ (x : TpsDecoder). length x.bits) fed_decoder ∙ length-set d.bits n (receive.fed_bit m d c) ∙ h.size;
          bits =
              ap (λ (k : ℕ). held_bits k (receive.feed_answer m d c).decoder.bits) e
              ∙ fed-bits-held m d c (omega (arith, p)) (omega (arith, h.count)) h.size;
        }

  pub bits_held : (cs : List (List Float)) → Placed (place m) cs → length cs ≤ SYMBOLS → BitsHeld (length cs) (decoder_on m cs)
  unfolding decoder_on held_bits
  bits_held [] p l = record { count = refl; size = refl; bits = refl }
  bits_held (c ∷ cs) p l = bits-held-next (length cs) (decoder_on m cs) c p.0 (bits_held cs p.1 (omega arith)) l

  -- feeding it one place more of a frame, where what is left of the frame behind the first i places is that place and what is left then
  pub replay_turn : (frame : List Float) (i : ℕ) (cells left' : List Float) {left : List Float} {d : TpsDecoder} {f : tps.Fed} → left ≡ drop (i * place m) frame
      → left ≡ cells ++ left' → length cells ≡ place m → d ≡ decoder_on m (places_in m i frame) → f ≡ receive.feed_answer m d cells
      → (left' ≡ drop (suc i * place m) frame) × (f.decoder ≡ decoder_on m (places_in m (suc i) frame))
  unfolding decoder_on places_in
  replay_turn frame i cells left' el ec n ed ef =
      let w = place m in
      let c : cells ≡ take w (drop (i * w) frame) = sym (ap (take w) (sym el ∙ ec) ∙ take_at cells left' w n) in
      let r : left' ≡ drop w (drop (i * w) frame) = sym (ap (drop w) (sym el ∙ ec) ∙ drop_at cells left' w n) in (
        r ∙ drop-drop w (i * w) frame ∙ ap (λ (k : ℕ). drop k frame) (sym (suc-mul i w)),
        ap (λ (x : tps.Fed). x.decoder) ef ∙ ap₂ (λ (x : TpsDecoder) (y : List Float). (receive.feed_answer m x y).decoder) ed c,
      )

  -- ---- where the next symbol goes, with the session in frame c

  module _ (c b : ℕ) (early : c ≤ FRAMES) (cs : List (List Float)) (p : Placed (place m) cs) (l : length cs ≤ SYMBOLS) where
    frame_is_own : frame_of (session_in c b (decoder_on m cs)) ≡ c
    frame_is_own = omega arith

    pub open_next : length cs ≡ SYMBOLS → open_of m (session_in c b (decoder_on m cs)) ≡ start_of m (suc c)
    unfolding open_of
    open_next e =
        let k : SYMBOLS ≤ (decoder_on m cs).count = omega (arith, (bits_held cs p l).count) in
        rw (le-leb SYMBOLS (decoder_on m cs).count k, frame_is_own, add-one c)

    pub open_same : length cs < SYMBOLS → open_of m (session_in c b (decoder_on m cs)) ≡ session_in c b (decoder_on m cs)
    unfolding open_of
    open_same e =
        let k : (decoder_on m cs).count < SYMBOLS = omega (arith, (bits_held cs p l).count) in
        rw (lt-leb SYMBOLS (decoder_on m cs).count k, frame_is_own)

  -- ---- a step back

  -- the previous cells are those of the latest place of a frame that begins with the cells in a row
  previous_is_latest : (cs : List (List Float)) (j : List Float) → Placed (place m) cs → length cs ≤ SYMBOLS → take (length cs * place m) j ≡ row cs
      → prev_in m (length cs) j ≡ (decoder_on m cs).prev
  unfolding prev_in decoder_on
  previous_is_latest [] j p l e = refl
  previous_is_latest (c ∷ cs) j p l e =
      ap (receive.first_cells m.tps_count) (row_last (place m) c cs j p e)
      ∙ cells-front m.tps_count c _ p.0
      ∙ ap (λ (d : TpsDecoder). d.prev) (sym (fed_decoder (length cs) (decoder_on m cs) c p.0 (bits_held cs p.1 (omega arith)) l))

  -- within frame a
  pub back_is_before : (a b : ℕ) → a ≤ FRAMES → (c : List Float) (cs : List (List Float)) (j : List Float) → Placed (place m) (c ∷ cs) → length cs < SYMBOLS
      → take (length cs * place m) (frame_in m a j) ≡ row cs
      → back_to m (length cs) (session_in a b (decoder_on m (c ∷ cs))) j ≡ session_in a b (decoder_on m cs)
  unfolding back_to decoder_on held_bits
  back_is_before a b early c cs j p l e =
      let d = decoder_on m cs in
      let n = length cs in
      let few : n ≤ SYMBOLS = omega arith in
      let own : min FRAMES a ≡ a = omega arith in
      let h : BitsHeld n d = bits_held cs p.1 few in
      let k : held_bits n (receive.feed_answer m d c).decoder.bits ≡ d.bits =
      ap (λ (x : TpsDecoder). held_bits n x.bits) (fed_decoder n d c p.0 h l)
      ∙ ap (λ (x : List ℕ). map (min 1) x ++ replicate (SYMBOLS - n) 0) (take-set-le n d.bits n (receive.fed_bit m d c) (omega arith)) ∙ h.bits
      in
      rw (own, previous_is_latest cs (frame_in m a j) p.1 few e, k, h.count)

  -- to the frame before, which is frame a
  pub over_is_whole : (a : ℕ) (cs : List (List Float)) (j : List Float) → Placed (place m) cs → length cs ≡ SYMBOLS
      → take (length cs * place m) (frame_in m a j) ≡ row cs → back_over m a j ≡ session_in a 1 (decoder_on m cs)
  unfolding back_over
  over_is_whole a cs j p l e =
      ap (λ (x : List (List Float)). session_in a 1 (decoder_on m x))
      (ap (λ (n : ℕ). places_in m n (frame_in m a j)) (sym l) ∙ places_row m cs (frame_in m a j) p e)
