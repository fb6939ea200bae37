-- One symbol more, sent and fed, is one bit more: the first symbol, a later one, and so a frame. Assumes nothing.
use mathlib.Core.Path.{◌≡◌, refl, sym, ap, ap₂, ◌∙◌, subst}
use mathlib.Core.List.{List, [], ◌∷◌, ◌++◌, map}
use Prim.Native.Nat.{ℕ, ◌+◌, ◌<◌, ◌≤◌}
use native.Mathlib.Omega.{arith}
use lib.Ieee.{Float}
use lib.ListN.{length, drop, set, length-append, length-map}
use borrow.Author.Tests.{eq-eqb, ne_eqb}
use Rattle.ground.specs.Refusal.{ACCEPTED}
use Rattle.std.specs.Prelude.{Option, None}
use Rattle.ground.specs.declared.Refusal.{Refusal}
use Rattle.ground.specs.Answer.{kept, written}
use Rattle.ground.specs.declared.Cell.{Cell}
use Rattle.ground.specs.Cells.{flat}
use Rattle.ground.proofs.Cells.{flat-length}
use Rattle.carriers.specs.Mode.{Mode, tps_size}
use Rattle.tps.specs.declared.sender.TpsEncoder.{TpsEncoder}
use Rattle.tps.specs.declared.sender.Sent.{Sent}
use Rattle.tps.specs.declared.receiver.TpsDecoder.{TpsDecoder}
use Rattle.tps.specs.declared.receiver.Fed.{Fed}
use Rattle.tps.specs.Word.{SYMBOLS}
use Rattle.tps.specs.Send.{start_signs, sign_cell, fresh_encoder, signs_of, send_no}
use Rattle.tps.specs.Receive.{first_cells, held_bits, bit_of}
use Rattle.tps.specs.Frame.{Symbol, Frame, read_bits}
use Rattle.tps.specs.Frame.Frame.{start, next}
use Rattle.tps.proofs.Sending.{send_accepted}
use Rattle.tps.proofs.FirstCells.{cells-back}
use Rattle.tps.proofs.Receiving.{feed-accepted}
use Rattle.tps.proofs.SignRows.{TpsFacts, start-signs, Signs, bit_of_rows, turned_row, bit_of_rows_lem}
use Rattle.tps.proofs.FrameState.{FrameHolds, holds-at-start, sender, receiver, holds-next}

-- ---- one symbol, sent and fed

module _ (m : Mode) (bit : ℕ) (e e' : TpsEncoder) (d d' : TpsDecoder) (y : Symbol m bit e d e' d') where
  -- its signs, and their cells
  abbrev signs : List Float
  signs = signs_of m e bit

  abbrev cells : List Cell
  cells = map sign_cell signs

  accepted : send_no m bit y.out ≡ ACCEPTED
  accepted = send_accepted m bit y.out (omega (arith, y.is_bit)) y.room

  sent-sender : e' ≡ sender signs
  sent-sender = y.sender ∙ ap (λ (x : Sent). x.encoder) y.sends ∙ ap (λ (n : Option Refusal). kept n (sender signs) e) accepted

  sent-cells : y.left ≡ written (flat cells) y.out
  sent-cells = y.leaves ∙ ap (λ (n : Option Refusal). kept n (written (flat cells) y.out) y.out) accepted

  module _ (k : length signs ≡ m.tps_count) (l : d.count < SYMBOLS) where
    cells-size : length cells ≡ m.tps_count
    cells-size = length-map signs sign_cell ∙ k

    fed-cells : first_cells m.tps_count y.left ≡ cells
    fed-cells = ap₂ first_cells (sym cells-size) sent-cells ∙ cells-back cells (drop (length (flat cells)) y.out)

    fed-room : tps_size m ≤ length y.left
    fed-room =
        let a = ap length sent-cells in
        let f = flat-length cells in
        let p = length-append (flat cells) (drop (length (flat cells)) y.out) in
        omega (arith, cells-size)

    fed-receiver : (v : ℕ) → bit_of m d.count cells d.prev ≡ v → d' ≡ receiver signs d v
    fed-receiver v ev =
        y.receiver ∙ ap (λ (x : Fed). x.decoder) y.feeds
        ∙ ap (λ (n : Option Refusal). fed_on n (first_cells m.tps_count y.left)) (feed-accepted m d y.left fed-room l)
        ∙ ap (λ (c : List Cell). fed_on None c) fed-cells
        ∙ ap (λ (b : ℕ). receiver signs d b) ev
      where
        fed_on : Option Refusal → List Cell → TpsDecoder
        fed_on n c = kept n (record { prev = c; bits = set (held_bits d.count d.bits) d.count (bit_of m d.count c d.prev); count = d.count + 1 }) d

-- ---- the first symbol, and a later one

module _ (m : Mode) where
  first-signs : (e : TpsEncoder) (bit : ℕ) → e.started ≡ 0 → signs_of m e bit ≡ start_signs m
  first-signs e bit h = rw h refl

  later_signs : (e : TpsEncoder) (bit : ℕ) → e.started ≡ 1 → signs_of m e bit ≡ turned_row e.signs bit
  later_signs e bit h = rw h refl

  first_bit : (n : ℕ) (c p : List Cell) → n ≡ 0 → bit_of m n c p ≡ 0
  unfolding bit_of
  first_bit n c p h = simp (eq-eqb n 0 h) refl

  later_bit : (n : ℕ) (s p : List Float) (c : List Cell) (bit : ℕ) → (n ≡ 0 → ⊥) → c ≡ map sign_cell p → bit_of_rows m.tps_count s p ≡ bit
      → bit_of m n (map sign_cell s) c ≡ bit
  unfolding bit_of
  later_bit n s p c bit h ec e = simp (ne_eqb n 0 h, ec) e

  module _ (facts : TpsFacts m) where
    -- the receiver reads v of the bit's signs
    read_one : (bs : List ℕ) (bit : ℕ) (e e' : TpsEncoder) (d d' : TpsDecoder) → length bs < SYMBOLS → FrameHolds m bs e d → Symbol m bit e d e' d'
        → Signs m.tps_count (signs_of m e bit) → (v : ℕ) → bit_of m d.count (map sign_cell (signs_of m e bit)) d.prev ≡ v
        → v < 2 → read_bits (bit ∷ bs) ≡ read_bits bs ++ (v ∷ []) → FrameHolds m (bit ∷ bs) e' d'
    read_one bs bit e e' d d' l h y k v ev vb r =
        subst (λ (x : TpsEncoder). FrameHolds m (bit ∷ bs) x d') (sym (sent-sender m bit e e' d d' y))
        (subst (λ (x : TpsDecoder). FrameHolds m (bit ∷ bs) (sender (signs_of m e bit)) x)
        (sym (fed-receiver m bit e e' d d' y k.0 (omega (arith, h.count)) v ev))
        (holds-next m bs e d bit v (signs_of m e bit) h l k vb r))

    one_symbol : (bs : List ℕ) (bit : ℕ) (e e' : TpsEncoder) (d d' : TpsDecoder) → length bs < SYMBOLS → FrameHolds m bs e d → Symbol m bit e d e' d'
        → FrameHolds m (bit ∷ bs) e' d'
    unfolding read_bits
    one_symbol [] bit e e' d d' l h y =
        read_one [] bit e e' d d' l h y (subst (Signs m.tps_count) (sym (first-signs e bit h.started)) (start-signs m facts)) 0
        (first_bit d.count (map sign_cell (signs_of m e bit)) d.prev h.count) (omega arith) refl
    one_symbol (c ∷ bs) bit e e' d d' l h y =
        let f = later_signs e bit h.started in
        let t = bit_of_rows_lem m facts e.signs bit y.is_bit h.signs in
        read_one (c ∷ bs) bit e e' d d' l h y (subst (Signs m.tps_count) (sym f) t.0) bit
        (later_bit d.count (signs_of m e bit) e.signs d.prev bit (λ z. absurd (omega (arith, h.count, z))) h.previous
        (ap (λ (s : List Float). bit_of_rows m.tps_count s e.signs) f ∙ t.1))
        y.is_bit refl

    -- ---- a frame

    pub frame-holds : {bs : List ℕ} {e : TpsEncoder} {d : TpsDecoder} → Frame m bs e d → length bs ≤ SYMBOLS → FrameHolds m bs e d
    frame-holds (start {e} {d} ee ed) l =
        subst (λ (x : TpsEncoder). FrameHolds m [] x d) (sym ee)
        (subst (λ (x : TpsDecoder). FrameHolds m [] (fresh_encoder m) x) (sym ed) (holds-at-start m facts))
    frame-holds (next {bs} {e} {d} bit {e'} {d'} f y) l = one_symbol bs bit e e' d d' l (frame-holds f (omega arith)) y
