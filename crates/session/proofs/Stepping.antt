-- A step back with some symbols standing says its number, and takes the latest one back where that is 0. Assumes nothing.
use mathlib.Core.Path.{◌≡◌, sym, ap, ◌∙◌}
use mathlib.Core.Logic.{◌⊎◌, inl, inr}
use mathlib.Core.List.{List}
use Prim.Native.Nat.{ℕ}
use lib.Ieee.{Float}
use lib.ListN.{length, take}
use Rattle.std.specs.Prelude.{Some}
use Rattle.std.proofs.lemmas.Option.{none-some}
use Rattle.ground.specs.declared.Refusal.{Refusal}
use Rattle.ground.specs.Refusal.{ACCEPTED}
use Rattle.carriers.specs.Mode.{Mode}
use Rattle.carriers.proofs.Facts.{Facts}
use Rattle.session.specs.declared.Session.{Session}
use Rattle.session.specs.declared.Called.{Called}
use Rattle.session.specs.Session.{step_back_no, back_of, step_back_answer, step_number}
use Rattle.session.specs.History.{Standing, one_fewer, step_back_no_after}
use Rattle.session.specs.Demand.{Steps, BackRight}
use Rattle.session.proofs.Numbers.{stepped_refused_lem, stepped_taken}
use Rattle.session.proofs.Cases.{stepped_exactly}
use Rattle.session.proofs.Determined as determined
use Rattle.session.proofs.Journal.{lent_length}
use Rattle.session.proofs.Holding.{lent_holds}
use Rattle.session.proofs.OneCall.{Holds, step-says, holds-shown, one_fewer_lem}

-- the journal j is lent up to l
module _ {m : Mode} (f : Facts m) {lj : ℕ} {st : Standing} {s : Session} {j : List Float} (h : Holds m lj st s j) (l : ℕ) {r : Called (Unit {0})}
    (e : r ≡ step_back_answer m s (take l j)) where
  number_is : step_back_no m s (take l j) ≡ step_back_no_after m (length (take l j)) st
  number_is = step-says f h.held (length (take l j))

  number-says : step_number r.answer ≡ step_back_no_after m (length (take l j)) st
  number-says = ap (λ (x : Called (Unit {0})). step_number x.answer) e ∙ determined.step-says (step_back_no m s (take l j)) ∙ number_is

  pub stepped_right : Steps m (length (take l j)) st ⊎ ((k : Refusal) × (step_back_no_after m (length (take l j)) st ≡ Some k)) → BackRight m st s (take l j) r
  stepped_right (inl g) =
      let a : step_back_no_after m (length (take l j)) st ≡ ACCEPTED = (stepped_exactly m _ st h.held.close).1 g in
      let ss : r.session ≡ back_of m s (take l j) = ap (λ (x : Called (Unit {0})). x.session) (e ∙ stepped_taken m s (take l j) (number_is ∙ a)) in
      let w : Holds m lj (one_fewer st) (back_of m s (take l j)) j =
      one_fewer_lem f l st.symbols st.begun h (rw (lent_length l lj j h.held.size) at g)
      in
      let v : Holds m (length (take l j)) (one_fewer st) r.session (take l j) = record { held = rw ss (lent_holds f l w.held g.room); tall = w.tall } in
      record { number = number-says; stands = λ z. holds-shown f v; refused = λ z. absurd (z (number-says ∙ a)) }
  stepped_right (inr k) =
      let ss : r.session ≡ s = ap (λ (x : Called (Unit {0})). x.session) (e ∙ stepped_refused_lem m s (take l j) k.0 (number_is ∙ k.1)) in
      record { number = number-says; stands = λ z. absurd (none-some _ (sym z ∙ number-says ∙ k.1)); refused = λ z. ss }
