-- A feed with some symbols standing answers what the TPS decoder does after those of its frame, in the extractor's phase, and the symbol stands.
-- Assumes nothing.
use mathlib.Core.Path.{◌≡◌, refl, sym, ap, ap₂, ◌∙◌}
use mathlib.Core.Logic.{◌⊎◌, inl, inr}
use mathlib.Core.List.{List, [], ◌∷◌}
use Prim.Native.Nat.{ℕ, ◌%◌, ◌<◌, ◌≤◌}
use native.Mathlib.Omega.{arith}
use lib.Ieee.{Float}
use lib.ListN.{length, take}
use borrow.Author.Tests.{le-ltb}
use Rattle.std.specs.Prelude.{Option, Some}
use Rattle.std.proofs.lemmas.Option.{none-some}
use Rattle.ground.specs.declared.Refusal.{Refusal}
use Rattle.ground.specs.Refusal.{ACCEPTED}
use Rattle.carriers.specs.Mode.{Mode, symbol_size, data_size}
use Rattle.carriers.proofs.Facts.{Facts}
use Rattle.grid.specs.Calls.{extract_leaves}
use Rattle.tps.specs.Word.{SYMBOLS}
use Rattle.tps.specs.Receive as receive
use Rattle.session.specs.declared.Session.{Session}
use Rattle.session.specs.declared.Called.{Called}
use Rattle.session.specs.Journal.{tps_cells, in_place}
use Rattle.session.specs.Session.{decoder_of, feed_no, open_of, fed_by, Feeds}
use Rattle.session.specs.History.{Standing, opened, frame, frames_of, one_more, feed_no_after, decoder_before, extractor_after}
use Rattle.session.specs.Demand.{Tall, Fits, FeedRight}
use Rattle.session.proofs.Numbers.{fed-refused, fed-accepted}
use Rattle.session.proofs.Cases.{taken_exactly}
use Rattle.session.proofs.Determined.{same-fed}
use Rattle.session.proofs.Cells.{tps-length}
use Rattle.session.proofs.Decoder.{fed-number}
use Rattle.session.proofs.Frames.{frame_before, opened-few, frames-many}
use Rattle.session.proofs.Holding.{cells-held, lent_holds, open_holds, fed_holds}
use Rattle.session.proofs.OneCall.{Holds, count_is, standing_is, frames-are, feed-says, holds-shown}

-- after n symbols the extractor is in phase n mod 4
extractor_phase : (m : Mode) (x : List Float) → data_size m ≤ length x → (ys : List (List Float)) → Tall m ys → (extractor_after m x ys).phase ≡ length ys % 4
unfolding extractor_after
extractor_phase m x h [] t = refl
extractor_phase m x h (y ∷ ys) t =
    let p : (extractor_after m x ys).phase ≡ length ys % 4 = extractor_phase m x h ys t.1 in
    simp (le-ltb (length y) (symbol_size m) t.0, le-ltb (length x) (data_size m) h, p) (omega arith)

-- the journal j is lent up to l
module _ {m : Mode} (f : Facts m) {lj : ℕ} {st : Standing} {s : Session} {j : List Float} (h : Holds m lj st s j) (y d : List Float) (l : ℕ) {r : Called ℕ}
    {d' p' : List Float} (c : Feeds m s y d (take l j) r d' p') where
  number_is : feed_no m s y d (take l j) ≡ feed_no_after m (length y) (length d) (length (take l j)) st
  number_is = feed-says f h.held (length y) (length d) (length (take l j))

  pub fed_right : Fits m (length y) (length d) (length (take l j)) st ⊎ ((k : Refusal) × (feed_no_after m (length y) (length d) (length (take l j)) st ≡ Some k))
      → FeedRight m st s y d (take l j) r d' p'
  unfolding fed_by frame frames_of frame_before
  fed_right (inl g) =
      let ys = st.symbols in
      let p = take l j in
      let t = tps_cells m y in
      let xs = opened (frame ys) in
      let n = length xs in
      let e : feed_no_after m (length y) (length d) (length p) st ≡ ACCEPTED = (taken_exactly m _ _ _ st).1 g in
      let q = same-fed c (fed-accepted m s y d p (number_is ∙ e)) in
      let o = open_holds f (lent_holds f l h.held g.room) g.free in
      let few : n < SYMBOLS = opened-few (frame ys) in
      let w = fed_holds f o few g.room y in
      let a : r.answer ≡ (receive.feed_answer m (decoder_before m ys) t).answer =
      ap (λ (x : Called ℕ). x.answer) q.0 ∙ ap (λ (x : Session). (receive.feed_answer m (decoder_of x) t).answer) o.session
      in
      let k : receive.bit_number r.answer ≡ ACCEPTED =
      ap receive.bit_number a
      ∙ ap (λ (z : Option Refusal). receive.bit_number (receive.bit_answer z (receive.fed_bit m (decoder_before m ys) t)))
      (fed-number m n (decoder_before m ys) t (tps-length f y) (cells-held f xs (omega arith)) few)
      in
      let js : p' ≡ in_place m (frames_of (y ∷ ys)) n t p = q.2 ∙ ap₂ (λ (a b : ℕ). in_place m a b t p) (frames-are f o) (count_is f o) in
      let ss : r.session ≡ (fed_by m (open_of m s) t).session = ap (λ (x : Called ℕ). x.session) q.0 in
      let v : Holds m (length p) (one_more y st) r.session p' = record { held = rw (js, ss) w; tall = (g.tall, h.tall) } in
      record {
        number = k ∙ sym e;
        answer = λ z. a;
        stands = λ z. holds-shown f v;
        data_cells =
            λ z x i.
            q.1
            ∙ ap (λ (v : ℕ). extract_leaves m v y d) (omega (arith, standing_is f h.held, frames-many ys, extractor_phase m x i ys h.tall));
        journal_cells = λ z. js;
        refused = λ z. absurd (z k);
      }
  fed_right (inr k) =
      let q = same-fed c (fed-refused m s y d (take l j) k.0 (number_is ∙ k.1)) in
      let a : receive.bit_number r.answer ≡ Some k.0 = ap (λ (x : Called ℕ). receive.bit_number x.answer) q.0 in
      record {
        number = a ∙ sym k.1;
        answer = λ z. absurd (none-some _ (sym z ∙ a));
        stands = λ z. absurd (none-some _ (sym z ∙ a));
        data_cells = λ z x h. absurd (none-some _ (sym z ∙ a));
        journal_cells = λ z. absurd (none-some _ (sym z ∙ a));
        refused = λ z. (ap (λ (x : Called ℕ). x.session) q.0, q.1, q.2);
      }
