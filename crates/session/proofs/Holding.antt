-- What a session and its journal hold, and each of its steps: a frame is opened, a symbol is fed, one is taken back within a frame and one over its
-- beginning; what is lent of the journal holds the same. Assumes nothing.
use mathlib.Core.Path.{◌≡◌, refl, sym, ap, ap₂, ◌∙◌, subst}
use mathlib.Core.Bool.{Bool, true, false, cond}
use mathlib.Core.Logic.{◌⊎◌, inl, inr}
use mathlib.Core.List.{List, [], ◌∷◌}
use Prim.Native.Nat.{ℕ, suc, ◌*◌, ◌<◌, ◌≤◌, min, max}
use native.Mathlib.Omega.{arith}
use lib.Ieee.{Float}
use lib.ListN.{length, take, length-take}
use borrow.Author.Tests.{leb-true, leb-false}
use Rattle.carriers.specs.Mode.{Mode}
use Rattle.carriers.proofs.Facts.{Facts}
use Rattle.tps.specs.Word.{SYMBOLS}
use Rattle.session.specs.declared.Session.{Session}
use Rattle.session.specs.Journal.{tps_cells, place, journal_size, frame_in, in_place, decoder_on}
use Rattle.session.specs.Session.{FRAMES, session_in, open_of, fed_by, back_to, back_over}
use Rattle.session.specs.History.{whole, opened, behind_in, cells_of, row}
use Rattle.session.proofs.Cells.{tps-length, placed, cells-many, row-none, row_kept}
use Rattle.session.proofs.Decoder.{BitsHeld, bits_held, open_next, open_same, back_is_before, over_is_whole}
use Rattle.session.proofs.Frames.{same_half, place-length, place-next, other-stays, lent_frame}
use Rattle.session.proofs.Cases.{behind-some, behind-none}

-- the session s is in frame c with the symbols xs standing in it, where `begun` is the furthest frame begun: it is what the TPS decoder is after xs, and the
-- frame's half of the journal j, of lj f32, begins with their cells. Unless a later frame was begun, the other half begins with those of ws
pub record HoldsAt (m : Mode) (lj c : ℕ) (xs ws : List (List Float)) (begun : ℕ) (s : Session) (j : List Float) : Type 0 where
  pub session : s ≡ session_in c (behind_in c begun) (decoder_on m (cells_of m xs))
  pub few : length xs ≤ SYMBOLS
  pub early : c ≤ FRAMES
  pub low : c ≤ begun
  pub close : begun ≤ suc c
  pub size : length j ≡ lj
  pub cells : take (length xs * place m) (frame_in m c j) ≡ row (cells_of m xs)
  pub few_before : length ws ≤ SYMBOLS
  pub cells_before : begun ≡ c → take (length ws * place m) (frame_in m (suc c) j) ≡ row (cells_of m ws)

module _ {m : Mode} (f : Facts m) where
  few-cells : (xs : List (List Float)) → length xs ≤ SYMBOLS → length (cells_of m xs) ≤ SYMBOLS
  few-cells xs l = omega (arith, cells-many m xs)

  pub cells-held : (xs : List (List Float)) → length xs ≤ SYMBOLS → BitsHeld (length xs) (decoder_on m (cells_of m xs))
  cells-held xs l = subst (λ (n : ℕ). BitsHeld n (decoder_on m (cells_of m xs))) (cells-many m xs) (bits_held m (cells_of m xs) (placed f xs) (few-cells xs l))

  -- what is lent of the journal, from its start
  pub lent_holds : {lj c : ℕ} {xs ws : List (List Float)} {begun : ℕ} {s : Session} {j : List Float} (l : ℕ) → HoldsAt m lj c xs ws begun s j
      → journal_size m ≤ length (take l j) → HoldsAt m (length (take l j)) c xs ws begun s (take l j)
  lent_holds {c = c} {xs} {ws} {j = j} l h r =
      let room : journal_size m ≤ min l (length j) = omega (arith, length-take l j) in
      record {
        session = h.session;
        few = h.few;
        early = h.early;
        low = h.low;
        close = h.close;
        size = refl;
        cells = lent_frame m c (length xs) l j h.few room ∙ h.cells;
        few_before = h.few_before;
        cells_before = λ z. lent_frame m (suc c) (length ws) l j h.few_before room ∙ h.cells_before z;
      }

  -- ---- a frame is opened

  module _ {lj c : ℕ} {xs ws : List (List Float)} {begun : ℕ} {s : Session} {j : List Float} (h : HoldsAt m lj c xs ws begun s j)
      (free : (c < FRAMES) ⊎ (length xs < SYMBOLS)) where
    early_next : length xs ≡ SYMBOLS → (c < FRAMES) ⊎ (length xs < SYMBOLS) → suc c ≤ FRAMES
    early_next n (inl l) = l
    early_next n (inr l) = absurd (omega arith)

    open_by : (b : Bool) → whole xs ≡ b
        → HoldsAt m lj (cond b (suc c) c) (cond b [] xs) (cond b xs ws) (max begun (cond b (suc c) c)) (open_of m s) j
    unfolding decoder_on row
    open_by true e =
        let n : length xs ≡ SYMBOLS = omega (arith, leb-true SYMBOLS (length xs) e) in
        let k : max begun (suc c) ≡ suc c = omega arith in
        let b : behind_in (suc c) (suc c) ≡ 0 = behind-none (suc c) (suc c) (omega arith) in
        rw k
        (record {
          session =
              ap (open_of m) h.session
              ∙ open_next m c (behind_in c begun) h.early (cells_of m xs) (placed f xs) (few-cells xs h.few) (cells-many m xs ∙ n) ∙ rw b;
          few = omega arith;
          early = early_next n free;
          low = omega arith;
          close = omega arith;
          size = h.size;
          cells = row-none (place m) (frame_in m (suc c) j);
          few_before = h.few;
          cells_before = λ z. ap (take (length xs * place m)) (same_half m c j) ∙ h.cells;
        })
    open_by false e =
        let n : length xs < SYMBOLS = leb-false SYMBOLS (length xs) e in
        let k : max begun c ≡ begun = omega (arith, h.low) in
        rw k
        (record {
          session =
              ap (open_of m) h.session
              ∙ open_same m c (behind_in c begun) h.early (cells_of m xs) (placed f xs) (few-cells xs h.few) (omega (arith, cells-many m xs));
          few = h.few;
          early = h.early;
          low = h.low;
          close = h.close;
          size = h.size;
          cells = h.cells;
          few_before = h.few_before;
          cells_before = h.cells_before;
        })

    pub open_holds : HoldsAt m lj (cond (whole xs) (suc c) c) (opened xs) (cond (whole xs) xs ws) (max begun (cond (whole xs) (suc c) c)) (open_of m s) j
    open_holds = open_by (whole xs) refl

  -- ---- a symbol is fed

  pub fed_holds : {lj c : ℕ} {xs ws : List (List Float)} {begun : ℕ} {s : Session} {j : List Float} → HoldsAt m lj c xs ws begun s j → length xs < SYMBOLS
      → journal_size m ≤ lj → (y : List Float)
      → HoldsAt m lj c (y ∷ xs) ws begun (fed_by m s (tps_cells m y)).session (in_place m c (length xs) (tps_cells m y) j)
  unfolding fed_by decoder_on row
  fed_holds {lj} {c} {xs} {ws} {begun} {s} {j} h l r y =
      let t = tps_cells m y in
      let n = length xs in
      let room : journal_size m ≤ length j = omega (arith, h.size) in
      record {
        session = ap (λ (x : Session). (fed_by m x t).session) h.session;
        few = l;
        early = h.early;
        low = h.low;
        close = h.close;
        size = place-length m c n l t j (tps-length f y) room ∙ h.size;
        cells = place-next m c n l t j (tps-length f y) room (row (cells_of m xs)) h.cells;
        few_before = h.few_before;
        cells_before = λ z. other-stays m c n l t j (tps-length f y) room (length ws) h.few_before ∙ h.cells_before z;
      }

  -- ---- the latest symbol is taken back, where the journal is lent up to l

  module _ {lj c : ℕ} {ws : List (List Float)} {begun : ℕ} {s : Session} {j : List Float} (y : List Float) (xs : List (List Float)) (l : ℕ)
      (r : journal_size m ≤ min l lj) where
    -- within its frame
    pub back_within : HoldsAt m lj c (y ∷ xs) ws begun s j → HoldsAt m lj c xs ws begun (back_to m (length xs) s (take l j)) j
    back_within h =
        let t = tps_cells m y in
        let cs = cells_of m xs in
        let n : length cs ≡ length xs = cells-many m xs in
        let room : journal_size m ≤ min l (length j) = omega (arith, h.size) in
        let k : take (length cs * place m) (frame_in m c j) ≡ row cs = row_kept (place m) t cs (frame_in m c j) (placed f (y ∷ xs)) (rw n h.cells) in
        let few : length cs ≤ SYMBOLS = omega (arith, h.few) in
        record {
          session =
              ap₂ (λ (x : ℕ) (z : Session). back_to m x z (take l j)) (sym n) h.session
              ∙ back_is_before m c (behind_in c begun) h.early t cs (take l j) (placed f (y ∷ xs)) (omega (arith, h.few))
              (lent_frame m c (length cs) l j few room ∙ k);
          few = omega (arith, h.few);
          early = h.early;
          low = h.low;
          close = h.close;
          size = h.size;
          cells = rw n at k;
          few_before = h.few_before;
          cells_before = h.cells_before;
        }

    -- as the first of its frame, which is the furthest begun
    pub back_over_lem : HoldsAt m lj (suc c) (y ∷ []) xs begun s j → begun ≡ suc c → length xs ≡ SYMBOLS → length ws ≤ SYMBOLS
        → HoldsAt m lj c xs ws begun (back_over m c (take l j)) j
    back_over_lem h last whole_before k =
        let cs = cells_of m xs in
        let n : length cs ≡ length xs = cells-many m xs in
        let room : journal_size m ≤ min l (length j) = omega (arith, h.size) in
        let e : take (length xs * place m) (frame_in m c j) ≡ row cs = ap (take (length xs * place m)) (sym (same_half m c j)) ∙ h.cells_before last in
        let few : length cs ≤ SYMBOLS = omega arith in
        let b : behind_in c begun ≡ 1 = behind-some c begun (omega arith) in
        record {
          session = over_is_whole m c cs (take l j) (placed f xs) (n ∙ whole_before) (lent_frame m c (length cs) l j few room ∙ rw n e) ∙ rw b;
          few = omega arith;
          early = omega (arith, h.early);
          low = omega arith;
          close = omega arith;
          size = h.size;
          cells = e;
          few_before = k;
          cells_before = λ z. absurd (omega arith);
        }
