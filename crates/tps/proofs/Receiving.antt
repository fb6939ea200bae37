-- What feeding a symbol answers where it is accepted, and what the receiver holds after it; a receiver that is lent in
-- parts, and two results that meet its promise are equal. Assumes nothing.
use mathlib.Core.Path.{◌≡◌, refl, sym, ap, ap₂, ◌∙◌}
use mathlib.Core.Bool.{Bool, true, false, cond}
use mathlib.Core.List.{List, [], ◌∷◌, append-nil}
use Prim.Native.Nat.{ℕ, ◌+◌, ◌<◌, ◌≤◌, min}
use lib.Dec.{eqb}
use lib.Ieee.{Float, nan, lt}
use lib.ListN.{length, set}
use borrow.Author.Tests.{le-ltb, lt-leb}
use Rattle.std.specs.Prelude.{Option, None, Some, Result, Ok, leb}
use Rattle.ground.specs.declared.Refusal.{Refusal}
use Rattle.ground.specs.Refusal.{ACCEPTED, LENGTH, FULL, ◌gives◌}
use Rattle.ground.proofs.Exactly.{less_decides, at_most_decides, given-behind, accepted-last}
use Rattle.ground.specs.declared.Cell.{Cell}
use Rattle.ground.specs.Cells.{flat, plus_zero}
use Rattle.carriers.specs.Mode.{Mode, tps_size}
use Rattle.tps.specs.declared.receiver.TpsDecoder.{TpsDecoder}
use Rattle.tps.specs.declared.receiver.Fed.{Fed}
use Rattle.tps.specs.Word.{SYMBOLS}
use Rattle.tps.specs.Receive.{first_cells, correlation, held_bits, bit_of, bit_answer, feed_no, feed_answer}
use Rattle.tps.specs.Lent.{next_answer, lent_decoder, lent_fed}
use Rattle.tps.proofs.StandingBits.{held_next}
use Rattle.tps.proofs.FirstCells.{cells-back, cells-front, cells-flat}

held_cond : (b c : Bool) → min 1 (cond b 0 (cond c 1 0)) ≡ cond b 0 (cond c 1 0)
held_cond true c = refl
held_cond false true = refl
held_cond false false = refl

-- a received bit is held as it is
pub bit-held : (m : Mode) (n : ℕ) (c p : List Cell) → min 1 (bit_of m n c p) ≡ bit_of m n c p
unfolding bit_of
bit-held m n c p = held_cond (eqb n 0) (lt (correlation m.tps_count c p) plus_zero)

either_same : (b : Bool) (n : ℕ) → cond b n n ≡ n
either_same true n = refl
either_same false n = refl

-- a NaN sum gives 0
pub nan_sum_zero : (m : Mode) (n : ℕ) (c p : List Cell) → correlation m.tps_count c p ≡ nan → bit_of m n c p ≡ 0
unfolding bit_of lt
nan_sum_zero m n c p e = ap (λ (x : Float). cond (eqb n 0) 0 (cond (lt x plus_zero) 1 0)) e ∙ either_same (eqb n 0) 0

module _ (m : Mode) (d : TpsDecoder) (s : List Float) where
  module _ (h : tps_size m ≤ length s) where
    pub feed-accepted : d.count < SYMBOLS → feed_no m d s ≡ ACCEPTED
    feed-accepted l = simp (le-ltb (length s) (tps_size m) h, lt-leb SYMBOLS d.count l) refl

    pub feed-bit : d.count < SYMBOLS → (cells : List Cell) (bit : ℕ) (held : List ℕ) → cells ≡ first_cells m.tps_count s
        → bit ≡ bit_of m d.count cells d.prev → held ≡ held_bits d.count d.bits
        → record { answer = Ok bit; decoder = record { prev = cells; bits = set held d.count bit; count = d.count + 1 } } ≡ feed_answer m d s
    feed-bit l cells bit held ec eb eh = simp (eb, ec, eh, le-ltb (length s) (tps_size m) h, lt-leb SYMBOLS d.count l) refl

    pub nan_fed_zero : d.count < SYMBOLS → correlation m.tps_count (first_cells m.tps_count s) d.prev ≡ nan → (feed_answer m d s).answer ≡ Ok 0
    nan_fed_zero l e = rw (feed-accepted l) (ap Ok (nan_sum_zero m d.count (first_cells m.tps_count s) d.prev e))

    -- what stands after an accepted feed is held as it stands: 0 or 1 each, and 0 behind them
    pub fed-bits-held : d.count < SYMBOLS → length d.bits ≡ SYMBOLS
        → held_bits (d.count + 1) (feed_answer m d s).decoder.bits ≡ (feed_answer m d s).decoder.bits
    fed-bits-held l z =
        let c = first_cells m.tps_count s in
        rw (feed-accepted l) (held_next d.bits d.count (bit_of m d.count c d.prev) z l (bit-held m d.count c d.prev))

-- ---- a receiver that is lent in parts

-- an answer that is a bit has no refusal
accepted-bit : (no : Option Refusal) (v b : ℕ) → bit_answer no v ≡ Ok b → (no ≡ ACCEPTED) × (b ≡ v)
accepted-bit None v b e = (refl, cc)
accepted-bit (Some k) v b e = cc

-- a bit is answered where the cells are long enough and fewer than 68 symbols stand
pub next_accepted : (m : Mode) (count : ℕ) (s prev : List Float) (bit : ℕ) → next_answer m count s prev ≡ Ok bit
    → (tps_size m ≤ length s) × (count < SYMBOLS) × (bit ≡ bit_of m count (first_cells m.tps_count s) (first_cells m.tps_count prev))
next_accepted m count s prev bit e =
    let r = accepted-bit _ _ bit e in
    let x = (given-behind LENGTH ACCEPTED (leb SYMBOLS count gives FULL ∷ []) (less_decides (length s) (tps_size m)) tt
    (λ l. accepted-last FULL (at_most_decides SYMBOLS count) tt)).0 r.0 in
    (x.0, x.1, r.1)

module _ (m : Mode) where
  pub lent_bit : (prev : List Float) (bits : List ℕ) (count : ℕ) (s : List Float) → tps_size m ≤ length s → count < SYMBOLS → (bit : ℕ) (p : List Float) (held : List ℕ)
      → bit ≡ bit_of m count (first_cells m.tps_count s) (first_cells m.tps_count prev) → p ≡ flat (first_cells m.tps_count s) → held ≡ held_bits count bits
      → lent_fed m (Ok bit) p (set held count bit) (count + 1) ≡ feed_answer m (lent_decoder m prev bits count) s
  lent_bit prev bits count s h l bit p held eb ep eh =
      let ec = cells-front m.tps_count s p ep in
      feed-bit m (lent_decoder m prev bits count) s h l (first_cells m.tps_count p) bit held ec
      (eb ∙ ap (λ (x : List Cell). bit_of m count x (first_cells m.tps_count prev)) (sym ec)) eh

  -- the previous cells of a receiver by value, from their floats
  pub prev_back : (d : TpsDecoder) → length d.prev ≡ m.tps_count → first_cells m.tps_count (flat d.prev) ≡ d.prev
  prev_back d z = ap₂ first_cells (sym z) (sym (append-nil (flat d.prev))) ∙ cells-back d.prev []

  pub lent_determined : (f : Fed) (r q : Result ℕ Refusal) (p p' : List Float) (b b' : List ℕ) (n n' : ℕ) → length p ≡ tps_size m → length p' ≡ tps_size m
      → lent_fed m r p b n ≡ f → lent_fed m q p' b' n' ≡ f → (r ≡ q) × (p ≡ p') × (b ≡ b') × (n ≡ n')
  lent_determined f r q p p' b b' n n' l l' h k =
      let e : lent_fed m r p b n ≡ lent_fed m q p' b' n' = h ∙ sym k in
      let c : first_cells m.tps_count p ≡ first_cells m.tps_count p' = ap (λ (x : Fed). x.decoder.prev) e in (
        ap (λ (x : Fed). x.answer) e,
        sym (cells-flat m.tps_count p l) ∙ ap flat c ∙ cells-flat m.tps_count p' l',
        ap (λ (x : Fed). x.decoder.bits) e,
        ap (λ (x : Fed). x.decoder.count) e,
      )
