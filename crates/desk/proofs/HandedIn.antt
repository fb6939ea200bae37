-- The rule over the words handed to a new desk, refused ones among them: what is answered at a word, exactly when, and
-- what is gathered behind it. Assumes nothing.
use mathlib.Core.Path.{◌≡◌, refl, sym, ap, ◌∙◌, subst}
use mathlib.Core.Logic.{◌↔◌, ◌⊎◌}
use mathlib.Core.Bool.{Bool, true, false, cond, false≢true, and-eq-true_iff}
use mathlib.Core.List.{List, [], ◌∷◌}
use Prim.Native.Nat.{ℕ, suc, ◌+◌, ◌*◌, ◌<◌}
use native.Mathlib.Omega.{arith}
use lib.Dec.{eqb}
use borrow.Author.Tests.{eqb-true, eqb-false, eq-eqb}
use Rattle.std.specs.Prelude.{Some, None, Ok, Err}
use Rattle.ground.specs.declared.Refusal.TheVariants.{OutOfStep, Mismatch}
use Rattle.tps.specs.declared.word.TpsWord.{TpsWord}
use Rattle.desk.specs.declared.Desk.{Desk}
use Rattle.desk.specs.declared.SuperFrame.{SuperFrame}
use Rattle.desk.specs.declared.Taken.{Taken}
use Rattle.desk.specs.Desk.{parameters_of, are_same, fresh, started, afresh, wanted_by, agrees, gone_on, super_frame_by, accepted, went_on, refused, take_answer}
use Rattle.desk.specs.SuperFrame.{Same, Completes, Last, Gathers}
use Rattle.desk.specs.SuperFrame.{desk_after, answer_at, Holds, nothing, one, two, three}
use Rattle.desk.proofs.Taking.{out_of_step, mismatch, goes_on, accepted-fewer}
use Rattle.desk.proofs.SameParameters.{same-parameters, same-holds}

-- ---- the last words of a list

-- the last word has the number of those before it
last-number : (n : ℕ) (w : TpsWord) (ws : List TpsWord) → Last (suc n) (w ∷ ws) → w.frame_number ≡ n
last-number n w ws l = grind arith

-- and those before it are gathered
last_gathers : (n : ℕ) (w : TpsWord) (ws : List TpsWord) → 0 < n → Last (suc n) (w ∷ ws) → Gathers n ws
last_gathers n w ws h l = grind arith

gathers_last : (n : ℕ) (ws : List TpsWord) → Gathers (suc n) ws → Last (suc n) ws
gathers_last n ws g = grind arith

none_gathers : (n : ℕ) (ws : List TpsWord) → Gathers 0 ws → Gathers (suc n) ws → ⊥
none_gathers n ws g h = grind arith

empty_gathers : (n : ℕ) → Gathers (suc n) [] → ⊥
empty_gathers n g = grind arith

-- a list gathers one number of words
pub gathers_once : (m n : ℕ) (ws : List TpsWord) → Gathers m ws → Gathers n ws → m ≡ n
gathers_once m n ws g h = grind (arith, last-number, gathers_last)

-- ---- one word more

-- the three ways that a word can go, said over the list
data Outcome (ws : List TpsWord) (d : Desk) (w : TpsWord) : Type 0 where
  out : take_answer d w ≡ refused OutOfStep w → (Gathers w.frame_number ws → ⊥) → Outcome ws d w
  apart : take_answer d w ≡ refused Mismatch w → Gathers w.frame_number ws → (Last (suc w.frame_number) (w ∷ ws) → ⊥)
      → Outcome ws d w
  on : take_answer d w ≡ went_on w.frame_number d w → Gathers w.frame_number ws → Last (suc w.frame_number) (w ∷ ws)
      → Outcome ws d w

module _ (ws : List TpsWord) (d : Desk) (w : TpsWord) (k : ℕ) (wants : wanted_by d ≡ k) (gathers : Gathers k ws)
    (agreed : w.frame_number ≡ k → (agrees k d w ≡ true) ↔ Last (suc k) (w ∷ ws)) where
  by_tests : (s t : Bool) → eqb w.frame_number k ≡ s → agrees k d w ≡ t → Outcome ws d w
  by_tests false t e f =
      out (out_of_step d w (λ q. eqb-false w.frame_number k e (q ∙ wants)))
      (λ g. eqb-false w.frame_number k e (gathers_once w.frame_number k ws g gathers))
  by_tests true false e f =
      let n : w.frame_number ≡ k = eqb-true w.frame_number k e in
      apart (mismatch d w (n ∙ sym wants) (ap (λ (m : ℕ). agrees m d w) wants ∙ f)) (subst (λ (m : ℕ). Gathers m ws) (sym n) gathers)
      (λ l. false≢true (sym f ∙ (agreed n).1 (subst (λ (m : ℕ). Last (suc m) (w ∷ ws)) n l)))
  by_tests true true e f =
      let n : w.frame_number ≡ k = eqb-true w.frame_number k e in
      on
      (goes_on d w (n ∙ sym wants) (ap (λ (m : ℕ). agrees m d w) wants ∙ f) ∙ ap (λ (m : ℕ). went_on m d w) (wants ∙ sym n))
      (subst (λ (m : ℕ). Gathers m ws) (sym n) gathers)
      (subst (λ (m : ℕ). Last (suc m) (w ∷ ws)) (sym n) ((agreed n).0 f))

  outcome : Outcome ws d w
  outcome = by_tests (eqb w.frame_number k) (agrees k d w) refl refl

-- what agreeing with the words held says
went : {ws : List TpsWord} {d : Desk} → Holds ws d → (w : TpsWord) → Outcome ws d w
went (nothing {ws = ws} g) w = outcome ws fresh w 0 refl g (λ e. (λ h. record { number = e }, λ l. refl))
went (one {ws = ws} {a = a} f) w = outcome (a ∷ ws) (started a) w 1 refl f (λ e. (λ h. grind (arith, same-holds), λ l. grind (arith, same-holds)))
went (two {ws = ws} {a = a} {b = b} s) w =
    let cell = and-eq-true_iff (are_same (parameters_of a) (parameters_of w)) (eqb a.cell_id w.cell_id) in
    outcome (b ∷ a ∷ ws) (gone_on 1 (started a) b) w 2 refl s (λ e. (
      λ h.
          record {
            begun = s;
            number = e;
            same = (same-holds (parameters_of a) (parameters_of w)).0 (cell.0 h).0;
            high = eqb-true a.cell_id w.cell_id (cell.0 h).1;
          },
      λ l. cell.1 ((same-holds (parameters_of a) (parameters_of w)).1 l.same, eq-eqb a.cell_id w.cell_id l.high),
    ))
went (three {ws = ws} {a = a} {b = b} {c = c} t) w =
    let cell = and-eq-true_iff (are_same (parameters_of a) (parameters_of w)) (eqb b.cell_id w.cell_id) in
    outcome (c ∷ b ∷ a ∷ ws) (gone_on 2 (gone_on 1 (started a) b) c) w 3 refl t (λ e. (
      λ h.
          record {
            begun = t;
            number = e;
            same = (same-holds (parameters_of a) (parameters_of w)).0 (cell.0 h).0;
            low = eqb-true b.cell_id w.cell_id (cell.0 h).1;
          },
      λ l. cell.1 ((same-holds (parameters_of a) (parameters_of w)).1 l.same, eq-eqb b.cell_id w.cell_id l.low),
    ))

-- ---- what is gathered then

-- after a refused word: itself, where its number is 0, and else nothing
module _ (w : TpsWord) (ws : List TpsWord) (no_more : (w.frame_number ≡ 0 → ⊥) → Last (suc w.frame_number) (w ∷ ws) → ⊥) where
  not_last : (w.frame_number ≡ 0 → ⊥) → (n : ℕ) → Last (suc n) (w ∷ ws) → ⊥
  not_last h n l = no_more h (subst (λ (m : ℕ). Last (suc m) (w ∷ ws)) (sym (last-number n w ws l)) l)

  afresh-by : (s : Bool) → eqb w.frame_number 0 ≡ s → Holds (w ∷ ws) (cond s (started w) fresh)
  afresh-by true e = one (grind arith)
  afresh-by false e = nothing (grind (arith, not_last))

  afresh-holds : Holds (w ∷ ws) (afresh w)
  afresh-holds = afresh-by (eqb w.frame_number 0) refl

-- a word that isn't refused, by the number of words that were held
module _ (ws : List TpsWord) (d : Desk) (w : TpsWord) (k n : ℕ) (held : Gathers k ws) (more : Last (suc k) (w ∷ ws) → Holds (w ∷ ws) (gone_on k d w)) where
  more-holds : Gathers n ws → Last (suc n) (w ∷ ws) → Holds (w ∷ ws) (gone_on n d w)
  more-holds g l =
      let e : k ≡ n = gathers_once k n ws held g in
      subst (λ (m : ℕ). Holds (w ∷ ws) (gone_on m d w)) e (more (subst (λ (m : ℕ). Last (suc m) (w ∷ ws)) (sym e) l))

-- behind a whole super-frame nothing is gathered
whole-holds : (ws : List TpsWord) (w : TpsWord) → Last 4 (w ∷ ws) → Holds (w ∷ ws) fresh
whole-holds ws w l =
    let e = last-number 3 w ws l in
    nothing {ws = w ∷ ws} (
      λ h. omega (arith, e, last-number 0 w ws h),
      λ h. omega (arith, e, last-number 1 w ws h),
      λ h. omega (arith, e, last-number 2 w ws h),
    )

on-holds : {ws : List TpsWord} {d : Desk} → Holds ws d → (w : TpsWord) (n : ℕ) → Gathers n ws → Last (suc n) (w ∷ ws)
    → Holds (w ∷ ws) (gone_on n d w)
on-holds (nothing {ws = ws} g) w n = more-holds ws fresh w 0 n g one
on-holds (one {ws = ws} {a = a} f) w n = more-holds (a ∷ ws) (started a) w 1 n f two
on-holds (two {ws = ws} {a = a} {b = b} s) w n = more-holds (b ∷ a ∷ ws) (gone_on 1 (started a) b) w 2 n s three
on-holds (three {ws = ws} {a = a} {b = b} {c = c} t) w n =
    more-holds (c ∷ b ∷ a ∷ ws) (gone_on 2 (gone_on 1 (started a) b) c) w 3 n t (whole-holds (c ∷ b ∷ a ∷ ws) w)

holds-next : {ws : List TpsWord} {d : Desk} → Holds ws d → (w : TpsWord) → Outcome ws d w → Holds (w ∷ ws) (take_answer d w).desk
holds-next {ws} h w (out e g) =
    subst (λ (t : Taken). Holds (w ∷ ws) t.desk) (sym e)
    (afresh-holds w ws (λ z l. g (last_gathers w.frame_number w ws (omega arith) l)))
holds-next {ws} h w (apart e g m) = subst (λ (t : Taken). Holds (w ∷ ws) t.desk) (sym e) (afresh-holds w ws (λ z. m))
holds-next {ws} h w (on e g l) = subst (λ (t : Taken). Holds (w ∷ ws) t.desk) (sym e) (on-holds h w w.frame_number g l)

-- ---- the words handed to a new desk

-- what it has gathered behind them: the words of a super-frame that stand at their end, up to three, or nothing
pub desk_holds : (ws : List TpsWord) → Holds ws (desk_after ws)
desk_holds [] = nothing (λ x. x, λ x. x, λ x. x)
desk_holds (w ∷ ws) = holds-next (desk_holds ws) w (went (desk_holds ws) w)

-- so many it has gathered, and this number it wants
pub gathers_wanted : (ws : List TpsWord) → Gathers (wanted_by (desk_after ws)) ws
gathers_wanted ws = by-held (desk_holds ws)
  where
    by-held : {vs : List TpsWord} {d : Desk} → Holds vs d → Gathers (wanted_by d) vs
    by-held (nothing g) = g
    by-held (one f) = f
    by-held (two s) = s
    by-held (three t) = t

-- one super-frame is complete, and says one thing
completes_once : (ws : List TpsWord) (s t : SuperFrame) → Completes ws s → Completes ws t → s ≡ t
completes_once ws s t x y = grind arith

completes_last : (ws : List TpsWord) (s : SuperFrame) → Completes ws s → Last 4 ws
completes_last ws s x = grind arith

-- the parameters of the last word are those of the first
same-frame : (id : ℕ) (a w : TpsWord) → Same a w
    → ◌≡◌ {A = SuperFrame} (record { cell_id = id; constellation = w.constellation; code_rate_hp = w.code_rate_hp; guard = w.guard })
    (record { cell_id = id; constellation = a.constellation; code_rate_hp = a.code_rate_hp; guard = a.guard })
same-frame id a w s = grind (arith, same-parameters)

completes_held : {ws : List TpsWord} {d : Desk} → Holds ws d → (w : TpsWord) → Last 4 (w ∷ ws) → Completes (w ∷ ws) (super_frame_by d w)
completes_held (nothing {ws = ws} g) w l = grind (arith, none_gathers, last_gathers)
completes_held (one {ws = ws} {a = a} f) w l = grind (arith, gathers_once, last_gathers)
completes_held (two {ws = ws} {a = a} {b = b} s) w l = grind (arith, gathers_once, last_gathers)
completes_held (three {a = a} {b = b} t) w l = (l, same-frame (a.cell_id * 256 + b.cell_id) a w l.same)

-- ---- exactly when

last-fewer : (n : ℕ) (ws : List TpsWord) → Last (suc n) ws → (n < 3) ⊎ (n ≡ 3)
last-fewer n ws l = grind arith

module _ (ws : List TpsWord) (w : TpsWord) where
  abbrev d : Desk
  d = desk_after ws

  abbrev n : ℕ
  n = w.frame_number

  abbrev says : {t : Taken} → take_answer d w ≡ t → answer_at ws w ≡ t.answer
  says e = ap (λ (t : Taken). t.answer) e

  -- the first three words of a super-frame, and the fourth
  fewer : take_answer d w ≡ went_on n d w → n < 3 → answer_at ws w ≡ Ok None
  fewer e h = says e ∙ ap Ok (accepted-fewer d w n h)

  fourth : take_answer d w ≡ went_on n d w → n ≡ 3 → answer_at ws w ≡ Ok (Some (super_frame_by d w))
  fourth e h = says e ∙ ap (λ (m : ℕ). Ok (accepted m d w)) h

  fourth_completes : n ≡ 3 → Last (suc n) (w ∷ ws) → Completes (w ∷ ws) (super_frame_by d w)
  fourth_completes h l = completes_held (desk_holds ws) w (subst (λ (m : ℕ). Last (suc m) (w ∷ ws)) h l)

  -- complete, exactly where the word and the three before it are a super-frame, and with what these say
  pub complete_exactly : (s : SuperFrame) → (answer_at ws w ≡ Ok (Some s)) ↔ Completes (w ∷ ws) s
  complete_exactly s = by (went (desk_holds ws) w)
    where
      four : Completes (w ∷ ws) s → Last 4 (w ∷ ws)
      four = completes_last (w ∷ ws) s

      by : Outcome ws d w → (answer_at ws w ≡ Ok (Some s)) ↔ Completes (w ∷ ws) s
      by (out e g) = grind (arith, says e, four, last-number, last_gathers)
      by (apart e g m) = grind (arith, says e, four, last-number)
      by (on e g l) = grind (arith, four, last-number, fewer e, fourth e, fourth_completes, completes_once, last-fewer n (w ∷ ws) l)

  -- gathered, exactly where the number is below 3, so many words are gathered before it, and it goes on with them
  pub gathered_exactly : (answer_at ws w ≡ Ok None) ↔ ((n < 3) × Gathers n ws × Last (suc n) (w ∷ ws))
  gathered_exactly = by (went (desk_holds ws) w)
    where
      by : Outcome ws d w → (answer_at ws w ≡ Ok None) ↔ ((n < 3) × Gathers n ws × Last (suc n) (w ∷ ws))
      by (out e g) = grind (arith, says e)
      by (apart e g m) = grind (arith, says e)
      by (on e g l) = grind (arith, fewer e, fourth e, last-fewer n (w ∷ ws) l)

  -- OUT OF STEP, exactly where its number isn't that of the words gathered before it
  pub out_of_step_exactly : (answer_at ws w ≡ Err OutOfStep) ↔ (Gathers n ws → ⊥)
  out_of_step_exactly = by (went (desk_holds ws) w)
    where
      by : Outcome ws d w → (answer_at ws w ≡ Err OutOfStep) ↔ (Gathers n ws → ⊥)
      by (out e g) = grind (arith, says e)
      by (apart e g m) = grind (arith, says e)
      by (on e g l) = grind (arith, says e)

  -- MISMATCH, exactly where it is that number and the word doesn't go on with them
  pub mismatch_exactly : (answer_at ws w ≡ Err Mismatch) ↔ (Gathers n ws × (Last (suc n) (w ∷ ws) → ⊥))
  mismatch_exactly = by (went (desk_holds ws) w)
    where
      by : Outcome ws d w → (answer_at ws w ≡ Err Mismatch) ↔ (Gathers n ws × (Last (suc n) (w ∷ ws) → ⊥))
      by (out e g) = grind (arith, says e)
      by (apart e g m) = grind (arith, says e)
      by (on e g l) = grind (arith, says e)
