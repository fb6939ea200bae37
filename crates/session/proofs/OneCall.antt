-- What stands after one call, and that the session and the journal still hold it. Assumes nothing.
use mathlib.Core.Path.{◌≡◌, refl, ap, ap₂, ◌∙◌}
use mathlib.Core.Bool.{Bool, true, false, cond}
use mathlib.Core.Logic.{◌⊎◌, inl, inr}
use mathlib.Core.List.{List, [], ◌∷◌, ◌++◌}
use Prim.Native.Nat.{ℕ, suc, ◌-◌, ◌*◌, ◌%◌, ◌≤◌, min}
use native.Mathlib.Omega.{arith}
use lib.Ieee.{Float}
use lib.ListN.{length, take, drop, take-append-drop}
use borrow.Author.Tests.{leb-true}
use Rattle.std.specs.Prelude.{Some}
use Rattle.ground.specs.declared.Refusal.{Refusal}
use Rattle.ground.specs.Refusal.{ACCEPTED}
use Rattle.carriers.specs.Mode.{Mode}
use Rattle.carriers.proofs.Facts.{Facts}
use Rattle.tps.specs.Word.{SYMBOLS}
use Rattle.session.specs.declared.Session.{Session}
use Rattle.session.specs.declared.Called.{Called}
use Rattle.session.specs.Journal.{tps_cells, place, journal_size, frame_in, in_place, decoder_on}
use Rattle.session.specs.Session.{standing, frame_of, fresh, feed_no_of, feed_no, open_of, fed_by, crosses, step_back_no_of, step_back_no, back_to, back_over, back_of}
use Rattle.session.specs.History.{
  Op,
  feed,
  back,
  reset,
  FeedCall,
  BackCall,
  Call,
  Standing,
  none,
  whole,
  opened,
  frame,
  frames_of,
  behind_in,
  many,
  frames_before,
  one_fewer,
  feed_no_after,
  step_back_no_after,
  after,
  decoder_after,
  row,
  used,
  shown,
  shown_of,
}
use Rattle.session.specs.Demand.{Tall, Fits, Steps}
use Rattle.session.proofs.Numbers.{crosses_decides, fed-refused, fed-accepted, stepped_refused_lem, stepped_taken}
use Rattle.session.proofs.Cases.{taken_exactly, feed_cases, near_last, stepped_exactly, step_cases}
use Rattle.session.proofs.Determined.{same-fed}
use Rattle.session.proofs.Journal.{lent_length}
use Rattle.session.proofs.Cells.{tps-length, row-none}
use Rattle.session.proofs.Frames.{frame_before, before-few, opened-few, frame-few, first_or_later, place_lent}
use Rattle.session.proofs.Holding.{HoldsAt, cells-held, open_holds, fed_holds, back_within, back_over_lem}

-- the session and the journal hold what stands
pub record Holds (m : Mode) (lj : ℕ) (st : Standing) (s : Session) (j : List Float) : Type 0 where
  pub held : HoldsAt m lj (frames_before st) (frame st.symbols) (frame_before st.symbols) st.begun s j
  pub tall : Tall m st.symbols

-- none stands
pub holds-none : (m : Mode) {lj : ℕ} (j : List Float) → length j ≡ lj → Holds m lj none (fresh m) j
unfolding decoder_on row frame frames_of frame_before
holds-none m j e = record {
  held = record {
    session = refl;
    few = omega arith;
    early = omega arith;
    low = omega arith;
    close = omega arith;
    size = e;
    cells = row-none (place m) (frame_in m 0 j);
    few_before = omega arith;
    cells_before = λ z. row-none (place m) (frame_in m 1 j);
  };
  tall = tt;
}

module _ {m : Mode} (f : Facts m) where
  -- ---- the numbers

  module _ {lj c : ℕ} {xs ws : List (List Float)} {begun : ℕ} {s : Session} {j : List Float} (h : HoldsAt m lj c xs ws begun s j) where
    pub count_is : s.count ≡ length xs
    count_is = ap (λ (x : Session). x.count) h.session ∙ (cells-held f xs h.few).count

    pub standing_is : standing s ≡ length xs
    standing_is = omega (arith, count_is, h.few)

    pub frames-are : s.frames ≡ c
    frames-are = ap (λ (x : Session). x.frames) h.session

    frame_is : frame_of s ≡ c
    frame_is = omega (arith, frames-are, h.early)

    behind_is : s.behind ≡ behind_in c begun
    behind_is = ap (λ (x : Session). x.behind) h.session

    pub feed-says : (symbol out journal : ℕ) → feed_no_of m symbol out journal (frame_of s) (standing s) ≡ feed_no_of m symbol out journal c (length xs)
    feed-says symbol out journal = rw (frame_is, standing_is)

    pub step-says : (journal : ℕ) → step_back_no_of m journal (frame_of s) s.behind (standing s) ≡ step_back_no_of m journal c (behind_in c begun) (length xs)
    step-says journal = rw (frame_is, standing_is, behind_is)

    -- a step back that is done leads to the frame before, or not
    goes_over : (p : List Float) → crosses c (length xs) ≡ true → back_of m s p ≡ back_over m (c - 1) p
    unfolding back_of
    goes_over p e = rw (frame_is, standing_is, e)

    goes-within : (p : List Float) → crosses c (length xs) ≡ false → back_of m s p ≡ back_to m (length xs - 1) s p
    unfolding back_of
    goes-within p e = rw (frame_is, standing_is, e)

  -- what is held is shown
  pub holds-shown : {lj : ℕ} {st : Standing} {s : Session} {j : List Float} → Holds m lj st s j → shown m s j ≡ shown_of m st.symbols
  unfolding shown_of
  holds-shown {lj} {st} {s} {j} h =
      let k = h.held in
      let n : s.count ≡ many st = count_is k in
      let c : s.frames ≡ frames_before st = frames-are k in
      let u : used m s j ≡ take (many st * place m) (frame_in m (frames_before st) j) = ap₂ (λ (a b : ℕ). take (a * place m) (frame_in m b j)) n c in
      let b : s.bits ≡ (decoder_after m st.symbols).bits = ap (λ (x : Session). x.bits) k.session in
      let p : s.prev ≡ (decoder_after m st.symbols).prev = ap (λ (x : Session). x.prev) k.session in
      let i : standing s % 4 ≡ many st % 4 = ap (λ (x : ℕ). x % 4) (standing_is k) in
      rw (u ∙ k.cells, i, b, p, n, c)

  -- ---- a feed

  module _ {lj : ℕ} {st : Standing} {s : Session} {j : List Float} (h : Holds m lj st s j) {s' : Session} {j' : List Float} (y : List Float) (room l : ℕ)
      (c : FeedCall m y room l s j s' j') where
    feed-number : feed_no m s y c.given (take l j) ≡ feed_no_after m (length y) room (min l lj) st
    feed-number = rw (c.given_length, lent_length l lj j h.held.size) (feed-says h.held (length y) room (min l lj))

    fed-on : Fits m (length y) room (min l lj) st ⊎ ((k : Refusal) × (feed_no_after m (length y) room (min l lj) st ≡ Some k))
        → Holds m lj (after m lj (feed y room l) st) s' j'
    unfolding after frame frames_of frame_before
    fed-on (inl g) =
        let ys = st.symbols in
        let t = tps_cells m y in
        let e : feed_no_after m (length y) room (min l lj) st ≡ ACCEPTED = (taken_exactly m _ _ _ st).1 g in
        let p = same-fed c.promise (fed-accepted m s y c.given (take l j) (feed-number ∙ e)) in
        let o = open_holds f h.held g.free in
        let few = opened-few (frame ys) in
        let full-room : journal_size m ≤ lj = omega (arith, g.room) in
        let w = fed_holds f o few full-room y in
        let js : j' ≡ in_place m (frames_of (y ∷ ys)) (length (opened (frame ys))) t j =
        c.journal ∙ ap (λ (z : List Float). z ++ drop l j) p.2
        ∙ ap₂ (λ (a b : ℕ). in_place m a b t (take l j) ++ drop l j) (frames-are o) (count_is o)
        ∙ place_lent m (frames_of (y ∷ ys)) (length (opened (frame ys))) few t j (tps-length f y) l (omega (arith, h.held.size, g.room))
        in
        let ss : s' ≡ (fed_by m (open_of m s) t).session = c.session ∙ ap (λ (x : Called ℕ). x.session) p.0 in
        rw e (record { held = rw (js, ss) w; tall = (g.tall, h.tall) })
    fed-on (inr k) =
        let p = same-fed c.promise (fed-refused m s y c.given (take l j) k.0 (feed-number ∙ k.1)) in
        let js : j' ≡ j = c.journal ∙ ap (λ (z : List Float). z ++ drop l j) p.2 ∙ take-append-drop l j in
        let ss : s' ≡ s = c.session ∙ ap (λ (x : Called ℕ). x.session) p.0 in
        rw (k.1, js, ss) h

  -- ---- a step back

  module _ (lj begun : ℕ) (y : List Float) (ys : List (List Float)) (s : Session) (j : List Float) (l : ℕ) (r : journal_size m ≤ min l lj) where
    -- the frame before y was whole, or not
    back_by : (b : Bool) → whole (frame ys) ≡ b
        → HoldsAt m lj (cond b (suc (frames_of ys)) (frames_of ys)) (y ∷ cond b [] (frame ys)) (cond b (frame ys) (frame_before ys)) begun s j
        → (crosses (cond b (suc (frames_of ys)) (frames_of ys)) (suc (length (cond b [] (frame ys)))) ≡ true
        → begun ≤ cond b (suc (frames_of ys)) (frames_of ys))
        → HoldsAt m lj (frames_of ys) (frame ys) (frame_before ys) begun (back_of m s (take l j)) j
    back_by true e h g =
        let c = frames_of ys in
        let n : length (frame ys) ≡ SYMBOLS = omega (arith, leb-true SYMBOLS (length (frame ys)) e, frame-few ys) in
        let x : crosses (suc c) 1 ≡ true = (crosses_decides (suc c) 1).holds.1 (refl, omega arith) in
        let last : begun ≡ suc c = omega (arith, g x, h.low) in
        let i : suc c - 1 ≡ c = omega arith in
        let ss : back_of m s (take l j) ≡ back_over m c (take l j) = goes_over h (take l j) x ∙ ap (λ (k : ℕ). back_over m k (take l j)) i in
        rw ss (back_over_lem f y (frame ys) l r h last n (before-few ys))
    back_by false e h g =
        let c = frames_of ys in
        let n = length (frame ys) in
        let i : suc n - 1 ≡ n = omega arith in
        let x : crosses c (suc n) ≡ false = first_or_later ys in
        let ss : back_of m s (take l j) ≡ back_to m n s (take l j) = goes-within h (take l j) x ∙ ap (λ (k : ℕ). back_to m k s (take l j)) i in
        rw ss (back_within f y (frame ys) l r h)

  pub one_fewer_lem : {lj : ℕ} {s : Session} {j : List Float} (l : ℕ) (ys : List (List Float)) (begun : ℕ)
      → Holds m lj (record { symbols = ys; begun = begun }) s j → Steps m (min l lj) (record { symbols = ys; begun = begun })
      → Holds m lj (one_fewer (record { symbols = ys; begun = begun })) (back_of m s (take l j)) j
  unfolding frame frames_of frame_before
  one_fewer_lem l [] begun h g = absurd (g.some refl)
  one_fewer_lem {lj} {s} {j} l (y ∷ ys) begun h g =
      let last = near_last (record { symbols = y ∷ ys; begun = begun }) h.held.close g.near in
      record { held = back_by lj begun y ys s j l g.room (whole (frame ys)) refl h.held last; tall = h.tall.1 }

  module _ {lj : ℕ} {st : Standing} {s : Session} {j : List Float} (h : Holds m lj st s j) {s' : Session} {j' : List Float} (l : ℕ)
      (c : BackCall m l s j s' j') where
    step_number_lem : step_back_no m s (take l j) ≡ step_back_no_after m (min l lj) st
    step_number_lem = rw (lent_length l lj j h.held.size) (step-says h.held (min l lj))

    back_on : Steps m (min l lj) st ⊎ ((k : Refusal) × (step_back_no_after m (min l lj) st ≡ Some k)) → Holds m lj (after m lj (back l) st) s' j'
    unfolding after
    back_on (inl g) =
        let e : step_back_no_after m (min l lj) st ≡ ACCEPTED = (stepped_exactly m _ st h.held.close).1 g in
        let ss : s' ≡ back_of m s (take l j) =
        c.session ∙ ap (λ (x : Called (Unit {0})). x.session) (c.promise ∙ stepped_taken m s (take l j) (step_number_lem ∙ e))
        in
        rw (e, ss, c.journal) (one_fewer_lem l st.symbols st.begun h g)
    back_on (inr k) =
        let ss : s' ≡ s = c.session ∙ ap (λ (x : Called (Unit {0})). x.session) (c.promise ∙ stepped_refused_lem m s (take l j) k.0 (step_number_lem ∙ k.1)) in
        rw (k.1, ss, c.journal) h

  -- ---- any call

  pub one_call : {lj : ℕ} {st : Standing} {s s' : Session} {j j' : List Float} (o : Op) → Holds m lj st s j → Call m o s j s' j'
      → Holds m lj (after m lj o st) s' j'
  unfolding after
  one_call {lj} {st} (feed y room l) h c = fed-on h y room l c (feed_cases m (length y) room (min l lj) st)
  one_call {lj} {st} (back l) h c = back_on h l c (step_cases m (min l lj) st h.held.close)
  one_call {j = j} reset h c = rw (c.promise, c.journal) (holds-none m j h.held.size)
