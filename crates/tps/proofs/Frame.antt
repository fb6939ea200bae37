-- What the sender sends, the receiver reads back, for every 68 bits: s0 reads 0, and no bit is mended. A frame exists
-- for every list of bits, and one for every word, so that this is said of each. Assumes nothing.
use mathlib.Core.Path.{◌≡◌, refl, sym, ap, ◌∙◌, subst}
use mathlib.Core.List.{List, [], ◌∷◌, ◌++◌, map, reverse, reverse-cons, reverse-reverse}
use Prim.Native.Nat.{ℕ, ◌<◌, ◌≤◌, min}
use native.Mathlib.Omega.{arith}
use lib.Ieee.{Float}
use lib.ListN.{length, drop, replicate, length-replicate, length-reverse}
use lib.Seq.{take_all}
use Rattle.ground.specs.Bits.{Bits}
use Rattle.ground.specs.Cells.{plus_zero}
use Rattle.ground.proofs.Bits.{bits-append}
use Rattle.bch.specs.Code.{encode}
use Rattle.bch.specs.Promise.{mended_at}
use Rattle.bch.proofs.Places.{places_self}
use Rattle.carriers.specs.Mode.{Mode, tps_size}
use Rattle.tps.specs.declared.sender.TpsEncoder.{TpsEncoder}
use Rattle.tps.specs.declared.receiver.TpsDecoder.{TpsDecoder}
use Rattle.tps.specs.declared.word.TpsWord.{TpsWord}
use Rattle.tps.specs.Word.{SYMBOLS, information_of, word_bits, modulo4}
use Rattle.tps.specs.Packing.{Unpacked, mended_word, Unpacks}
use Rattle.tps.specs.Send.{fresh_encoder, send_answer, send_leaves}
use Rattle.tps.specs.Receive.{fresh_decoder, feed_answer, Words}
use Rattle.tps.specs.Frame.{Symbol, Frame, read_bits}
use Rattle.tps.specs.Frame.Frame.{start, next}
use Rattle.tps.proofs.Packing.{word-length, word-bits}
use Rattle.tps.proofs.RoundTrip.{unpack_packed}
use Rattle.tps.proofs.StandingBits.{bits_held, word_unpacked}
use Rattle.tps.proofs.SignRows.{TpsFacts}
use Rattle.tps.proofs.Symbols.{frame-holds}

-- ---- a frame is read back

pub frame-read : (m : Mode) → TpsFacts m → (bs : List ℕ) (e : TpsEncoder) (d : TpsDecoder) → Frame m bs e d → length bs ≡ SYMBOLS
    → (d.count ≡ SYMBOLS) × (d.bits ≡ read_bits bs)
frame-read m facts bs e d f l =
    let h = frame-holds m facts f (omega arith) in
    (h.count ∙ l, sym (take_all (length bs) d.bits (omega (arith, h.size))) ∙ h.read)

few : 0 ≤ 2
few = omega arith

-- a word whose bits were sent and fed comes back from the receiver, its frame number modulo 4, and no bit is mended
pub word_read : (m : Mode) → TpsFacts m → (w : TpsWord) (bs : List ℕ) (e : TpsEncoder) (d : TpsDecoder) (r : Unpacked) → w.cell_id < 256
    → Frame m bs e d → length bs ≡ SYMBOLS → read_bits bs ≡ word_bits w → Words d r → r ≡ mended_word (modulo4 w) (mended_at [])
word_read m facts w bs e d r h f l s k =
    let t = frame-read m facts bs e d f l in
    let b : Bits (word_bits w) = word-bits w in
    let g : map (min 1) d.bits ≡ word_bits w = ap (map (min 1)) (t.1 ∙ s) ∙ bits_held (word_bits w) b in
    let z = places_self 0 (drop 1 (word_bits w)) in
    let u : Unpacks (map (min 1) d.bits) r = word_unpacked d t.0 r k in
    unpack_packed w h (word_bits w) b (word-length w) r (subst (λ (ps : List ℕ). length ps ≤ 2) (sym z) few) (subst (λ (x : List ℕ). Unpacks x r) g u)
    ∙ ap (λ (ps : List ℕ). mended_word (modulo4 w) (mended_at ps)) z

-- ---- frames exist

module _ (m : Mode) where
  -- room for a symbol's cells
  abbrev room : List Float
  room = replicate (tps_size m) plus_zero

  symbol_exists : (bit : ℕ) → bit < 2 → (e : TpsEncoder) (d : TpsDecoder)
      → Symbol m bit e d (send_answer m e bit room).encoder (feed_answer m d (send_leaves m e bit room)).decoder
  symbol_exists bit h e d =
      record {
        out = room;
        left = send_leaves m e bit room;
        sent = send_answer m e bit room;
        fed = feed_answer m d (send_leaves m e bit room);
        is_bit = h;
        room = omega (arith, length-replicate (tps_size m) plus_zero);
        sends = refl;
        leaves = refl;
        feeds = refl;
        sender = refl;
        receiver = refl;
      }

  -- every list of bits, newest first, can be sent and fed
  pub frame_exists : (bs : List ℕ) → Bits bs → (e : TpsEncoder) × (d : TpsDecoder) × Frame m bs e d
  frame_exists [] h = (fresh_encoder m, fresh_decoder m, start refl refl)
  frame_exists (b ∷ bs) h =
      let f = frame_exists bs h.1 in (
        (send_answer m f.0 b room).encoder,
        (feed_answer m f.1 (send_leaves m f.0 b room)).decoder,
        next b f.2 (symbol_exists b h.0 f.0 f.1),
      )

-- bits that were sent oldest first are read as they are, behind s0
read_reversed : (xs : List ℕ) (b : ℕ) → read_bits (xs ++ (b ∷ [])) ≡ 0 ∷ reverse xs
unfolding read_bits
read_reversed [] b = refl
read_reversed (x ∷ []) b = refl
read_reversed (x ∷ y ∷ xs) b =
    ap (λ (l : List ℕ). l ++ (x ∷ [])) (read_reversed (y ∷ xs) b) ∙ ap (λ (l : List ℕ). 0 ∷ l) (sym (reverse-cons x (y ∷ xs)))

reverse_bits : (l : List ℕ) → Bits l → Bits (reverse l)
reverse_bits [] h = tt
reverse_bits (x ∷ l) h = subst Bits (sym (reverse-cons x l)) (bits-append (reverse l) (x ∷ []) (reverse_bits l h.1) (h.0, tt))

-- every word can be sent and fed
pub word-sent : (m : Mode) (w : TpsWord)
    → (bs : List ℕ) × (e : TpsEncoder) × (d : TpsDecoder) × Frame m bs e d × (length bs ≡ SYMBOLS) × (read_bits bs ≡ word_bits w)
word-sent m w =
    let bs = reverse (word_bits w) in
    let code = encode (information_of w) in
    let f = frame_exists m bs (reverse_bits (word_bits w) (word-bits w)) in (
      bs,
      f.0,
      f.1,
      f.2,
      length-reverse (word_bits w) ∙ word-length w,
      ap read_bits (reverse-cons 0 code) ∙ read_reversed (reverse code) 0 ∙ ap (λ (l : List ℕ). 0 ∷ l) (reverse-reverse code),
    )
