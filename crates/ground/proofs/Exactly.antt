-- A call's number is n exactly where the tests before those that give n fail and one of those holds: one law for each
-- place that a test has in the list, and what the usual tests decide. Assumes nothing.
use mathlib.Core.Path.{◌≡◌, refl, sym, ap, ◌∙◌, subst}
use mathlib.Core.Logic.{◌↔◌, ◌⊎◌, inl, inr, ⊎_elim}
use mathlib.Core.Bool.{Bool, true, false, not, ◌&&◌, ◌||◌, true≢false, false≢true}
use mathlib.Core.List.{List, [], ◌∷◌}
use Prim.Native.Nat.{ℕ, ◌<◌, ◌≤◌}
use lib.Dec.{T, eqb, ltb, leb}
use lib.Ieee.Fits.{and_l, and_r}
use borrow.Author.Tests.{lt-ltb, le-ltb, ltb-true, ltb-false, lt-leb, le-leb, leb-true, leb-false, eq-eqb, ne_eqb, eqb-true, eqb-false, not-true, not-false}
use lib.ListN.{length}
use Rattle.std.specs.Prelude.{Option}
use Rattle.ground.specs.declared.Refusal.{Refusal}
use Rattle.ground.specs.Answer.{fill_no}
use Rattle.ground.specs.Refusal.{ACCEPTED, OUTPUT_SHORT, Test, ◌gives◌, first_of, code}
use Rattle.ground.specs.Bits.{Bits, are_bits}
use Rattle.ground.proofs.Bits.{bits_of_lem, are-bits}

-- ---- what tests decide

-- a test holds exactly where P is so, and fails exactly where Q is
pub record Decides (test : Bool) (P Q : Type 0) : Type 0 where
  pub holds : (test ≡ true) ↔ P
  pub fails : (test ≡ false) ↔ Q

pub less_decides : (a b : ℕ) → Decides (ltb a b) (a < b) (b ≤ a)
less_decides a b = record { holds = (ltb-true a b, lt-ltb a b); fails = (ltb-false a b, le-ltb a b) }

pub at_most_decides : (a b : ℕ) → Decides (leb a b) (a ≤ b) (b < a)
at_most_decides a b = record { holds = (leb-true a b, le-leb a b); fails = (leb-false a b, lt-leb a b) }

pub equal_decides : (a b : ℕ) → Decides (eqb a b) (a ≡ b) (a ≡ b → ⊥)
equal_decides a b = record { holds = (eqb-true a b, eq-eqb a b); fails = (eqb-false a b, ne_eqb a b) }

-- a test of something, and of its opposite
pub by_test : {P : Type 0} (test : Bool) → (test ≡ true → P) → (P → test ≡ true) → Decides test P (P → ⊥)
by_test true f g = record { holds = (f, g); fails = (λ e. absurd (true≢false e), λ n. absurd (n (f refl))) }
by_test false f g = record { holds = (f, g); fails = (λ e p. false≢true (g p), λ n. refl) }

pub bits_decide : (bits : List ℕ) → Decides (are_bits bits) (Bits bits) (Bits bits → ⊥)
bits_decide bits = by_test (are_bits bits) (bits_of_lem bits) (are-bits bits)

pub not_decides : {test : Bool} {P Q : Type 0} → Decides test P Q → Decides (not test) Q P
not_decides {test} d = record {
  holds = (λ e. d.fails.0 (not-true test e), λ q. ap not (d.fails.1 q));
  fails = (λ e. d.holds.0 (not-false test e), λ p. ap not (d.holds.1 p));
}

pub either_decides : {s t : Bool} {P Q R S : Type 0} → Decides s P Q → Decides t R S → Decides (s || t) (P ⊎ R) (Q × S)
either_decides {s = true} d e = record { holds = (λ x. inl (d.holds.0 refl), λ x. refl); fails = (λ x. absurd (true≢false x), λ x. absurd (true≢false (d.fails.1 x.0))) }
either_decides {s = false} d e =
    record {
      holds = (λ x. inr (e.holds.0 x), ⊎_elim (λ p. absurd (false≢true (d.holds.1 p))) e.holds.1);
      fails = (λ x. (d.fails.0 refl, e.fails.0 x), λ x. e.fails.1 x.1);
    }

pub both_decides : {s t : Bool} {P Q R S : Type 0} → Decides s P Q → Decides t R S → Decides (s && t) (P × R) (Q ⊎ S)
both_decides {s = true} d e =
    record {
      holds = (λ x. (d.holds.0 refl, e.holds.0 x), λ x. e.holds.1 x.1);
      fails = (λ x. inr (e.fails.0 x), ⊎_elim (λ q. absurd (true≢false (d.fails.1 q))) e.fails.1);
    }
both_decides {s = false} d e =
    record {
      holds = (λ x. absurd (false≢true x), λ x. absurd (false≢true (d.holds.1 x.0)));
      fails = (λ x. inl (d.fails.0 refl), λ x. refl);
    }

-- a number is at most another, or above it
pub at_most : (k n : ℕ) → (k ≤ n) ⊎ (n < k)
at_most k n = by (leb k n) refl
  where
    by : (b : Bool) → leb k n ≡ b → (k ≤ n) ⊎ (n < k)
    by true e = inl (leb-true k n e)
    by false e = inr (leb-false k n e)

-- ---- the refusal of a call

-- n is neither none nor given by a test of the list
abbrev pub lacks : Option Refusal → List Test → Bool
lacks n [] = not (eqb (code n) (code ACCEPTED))
lacks n ((test gives k) ∷ tests) = not (eqb (code n) (code k)) && lacks n tests

apart : (n k : Option Refusal) → T (not (eqb (code n) (code k))) → k ≡ n → ⊥
apart n k t e = subst (λ (b : Bool). T (not b)) (eq-eqb (code n) (code k) (ap code (sym e))) t

pub lacks-number : (n : Option Refusal) (tests : List Test) → T (lacks n tests) → first_of tests ≡ n → ⊥
lacks-number n [] l e = apart n ACCEPTED l e
lacks-number n ((true gives k) ∷ tests) l e = apart n k (and_l (not (eqb (code n) (code k))) (lacks n tests) l) e
lacks-number n ((false gives k) ∷ tests) l e = lacks-number n tests (and_r (not (eqb (code n) (code k))) (lacks n tests) l) e

-- the first test's number, which no other gives
pub given-here : {test : Bool} {P Q : Type 0} (k : Option Refusal) (tests : List Test) → Decides test P Q → T (lacks k tests)
    → (first_of ((test gives k) ∷ tests) ≡ k) ↔ P
given-here {test = true} k tests d l = (λ e. d.holds.0 refl, λ p. refl)
given-here {test = false} k tests d l = (λ e. absurd (lacks-number k tests l e), λ p. absurd (false≢true (d.holds.1 p)))

-- the first test's number, which another gives too
pub given-either : {test : Bool} {P Q R : Type 0} (k : Option Refusal) (tests : List Test) → Decides test P Q → (first_of tests ≡ k) ↔ R
    → (first_of ((test gives k) ∷ tests) ≡ k) ↔ (P ⊎ R)
given-either {test = true} k tests d r = (λ e. inl (d.holds.0 refl), λ p. refl)
given-either {test = false} k tests d r = (λ e. inr (r.0 e), ⊎_elim (λ p. absurd (false≢true (d.holds.1 p))) r.1)

-- another number, or none: the first test fails, and where it does the others give it
pub given-behind : {test : Bool} {P Q R : Type 0} (k n : Option Refusal) (tests : List Test) → Decides test P Q → T (not (eqb (code n) (code k)))
    → (Q → (first_of tests ≡ n) ↔ R) → (first_of ((test gives k) ∷ tests) ≡ n) ↔ (Q × R)
given-behind {test = true} k n tests d l r = (λ e. absurd (apart n k l e), λ p. absurd (true≢false (d.fails.1 p.0)))
given-behind {test = false} k n tests d l r = (λ e. (d.fails.0 refl, (r (d.fails.0 refl)).0 e), λ p. (r p.0).1 p.1)

-- a number that the others give in any case: exactly where the first test fails
pub given_otherwise : {test : Bool} {P Q : Type 0} (k n : Option Refusal) (tests : List Test) → Decides test P Q → T (not (eqb (code n) (code k))) → first_of tests ≡ n
    → (first_of ((test gives k) ∷ tests) ≡ n) ↔ Q
given_otherwise {test = true} k n tests d l r = (λ e. absurd (apart n k l e), λ q. absurd (true≢false (d.fails.1 q)))
given_otherwise {test = false} k n tests d l r = (λ e. d.fails.0 refl, λ q. r)

-- the last test, where no number is given
pub accepted-last : {test : Bool} {P Q : Type 0} (k : Option Refusal) → Decides test P Q → T (not (eqb (code ACCEPTED) (code k))) → (first_of ((test gives k) ∷ []) ≡ ACCEPTED) ↔ Q
accepted-last k d l = given_otherwise k ACCEPTED [] d l refl

-- an answer that says a call's number says n exactly where that is n
pub said_exactly : {P : Type 0} {said number n : Option Refusal} → said ≡ number → (number ≡ n) ↔ P → (said ≡ n) ↔ P
said_exactly e h = (λ f. h.0 (sym e ∙ f), λ p. e ∙ h.1 p)

-- a call that is refused only where the lent output has no room for n items
pub fill_short_exactly : {A : Type 0} (n : ℕ) (out : List A) → (fill_no n out ≡ OUTPUT_SHORT) ↔ (length out < n)
fill_short_exactly n out = given-here OUTPUT_SHORT [] (less_decides (length out) n) tt
