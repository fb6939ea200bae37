-- What the calls do with the cells that were moved: on even symbols written at their places, on odd ones read there; what a call's number says of the
-- lengths, and when each refusal is given. For any mode. Assumes nothing.
use mathlib.Core.Path.{◌≡◌, refl, sym, subst}
use mathlib.Core.Logic.{◌↔◌}
use mathlib.Core.List.{List, [], ◌∷◌}
use Prim.Native.Nat.{ℕ, ◌+◌, ◌*◌, ◌%◌, ◌<◌, ◌≤◌}
use native.Mathlib.Omega.{arith}
use lib.Ieee.{Float}
use lib.ListN.{length, get_or}
use Rattle.std.specs.Prelude.{Option, Some, None}
use Rattle.ground.specs.declared.Refusal.{Refusal}
use Rattle.ground.specs.Answer.{kept, short}
use Rattle.ground.specs.Refusal.{ACCEPTED, LENGTH, OUTPUT_SHORT, ◌gives◌}
use Rattle.ground.proofs.Exactly.{less_decides, given-here, given-behind, accepted-last}
use Rattle.interleaver.specs.Permutation.{Interleaver, permutation}
use Rattle.interleaver.specs.Interleaving.{Wrote, AtPlaces, Interleaved, Deinterleaved, reorder_no, Interleaves, Deinterleaves}
use Rattle.interleaver.specs.Inner.{Moved}
use Rattle.interleaver.proofs.Facts.{Facts}
use Rattle.interleaver.proofs.Parity.{as_even, as_odd, other-parity}

-- ---- moved cells are interleaved

-- what is known of the cells is carried on
pub wrote_as : {n : ℕ} {P Q : List Float → Type 0} {old new : List Float} → (P new → Q new) → Wrote n P old new → Wrote n Q old new
wrote_as f w = record { cells = f w.cells; long = w.long; behind = w.behind }

module _ (m : Interleaver) (f : Facts m) (s : ℕ) (h : List ℕ) (table : h ≡ permutation m) (x old new : List Float) where
  -- a table that is the permutation has a number for each place
  of_mode : (to from : List ℕ → ℕ → ℕ) → Moved (length h) (to h) (from h) (length h) x old new
      → Moved m.places (to (permutation m)) (from (permutation m)) m.places x old new
  of_mode to from w =
      subst (λ (n : ℕ). Moved n (to (permutation m)) (from (permutation m)) n x old new) f.many
      (subst (λ (l : List ℕ). Moved (length l) (to l) (from l) (length l) x old new) table w)

  pub spread_even : s % 2 ≡ 0 → Moved (length h) (λ q. get_or h q 0) (λ q. q) (length h) x old new → Wrote m.places (Interleaved m s x) old new
  spread_even e w = wrote_as (as_even (AtPlaces m x new) (AtPlaces m new x) (s % 2) e) (of_mode (λ l q. get_or l q 0) (λ l q. q) w)

  pub gathered_odd : (s % 2 ≡ 0 → ⊥) → Moved (length h) (λ q. q) (λ q. get_or h q 0) (length h) x old new → Wrote m.places (Interleaved m s x) old new
  gathered_odd e w =
      wrote_as (λ moved. as_odd (AtPlaces m x new) (AtPlaces m new x) (s % 2) e (λ q l. sym (moved q l))) (of_mode (λ l q. q) (λ l q. get_or l q 0) w)

-- ---- the number

module _ (m : Interleaver) (x old : List Float) where
  pub length_exactly : (reorder_no m x old ≡ LENGTH) ↔ (length x < 2 * m.places)
  length_exactly = given-here LENGTH (short (2 * m.places) old gives OUTPUT_SHORT ∷ []) (less_decides (length x) (2 * m.places)) tt

  pub short_exactly : (reorder_no m x old ≡ OUTPUT_SHORT) ↔ ((2 * m.places ≤ length x) × (length old < 2 * m.places))
  short_exactly =
      given-behind LENGTH OUTPUT_SHORT (short (2 * m.places) old gives OUTPUT_SHORT ∷ []) (less_decides (length x) (2 * m.places)) tt
      (λ enough. given-here OUTPUT_SHORT [] (less_decides (length old) (2 * m.places)) tt)

  pub accepted_exactly : (reorder_no m x old ≡ ACCEPTED) ↔ ((2 * m.places ≤ length x) × (2 * m.places ≤ length old))
  accepted_exactly =
      given-behind LENGTH ACCEPTED (short (2 * m.places) old gives OUTPUT_SHORT ∷ []) (less_decides (length x) (2 * m.places)) tt
      (λ enough. accepted-last OUTPUT_SHORT (less_decides (length old) (2 * m.places)) tt)

-- ---- what is left by the number

module _ (P : Type 0) (old new : List Float) where
  -- a refused call leaves the output as it was
  pub refused_keeps : (number : Option Refusal) → (number ≡ ACCEPTED → ⊥) → kept number P (new ≡ old) → new ≡ old
  refused_keeps None h k = absurd (h refl)
  refused_keeps (Some refusal) h k = k

  -- an accepted one does what is said
  pub accepted_does : (number : Option Refusal) → number ≡ ACCEPTED → kept number P (new ≡ old) → P
  accepted_does None e k = k
  accepted_does (Some refusal) e k = absurd (cc)

  kept_as : (number : Option Refusal) (Q : Type 0) → (P → Q) → kept number P (new ≡ old) → kept number Q (new ≡ old)
  kept_as None Q f k = f k
  kept_as (Some refusal) Q f k = k

-- what interleaving leaves in the symbol of the other parity deinterleaving leaves in this one
pub leaves-other : (m : Interleaver) (s : ℕ) (x old new : List Float) → Interleaves m (s % 2 + 1) x old new → Deinterleaves m s x old new
leaves-other m s x old new =
    kept_as (Wrote m.places (Interleaved m (s % 2 + 1) x) old new) old new (reorder_no m x old) (Wrote m.places (Deinterleaved m s x) old new)
    (wrote_as (other-parity m (s % 2 + 1) s x new (omega arith)).0)

-- ---- an interleaving that is accepted

pub leaves-done : (m : Interleaver) (s : ℕ) (x old new : List Float) → 2 * m.places ≤ length x → 2 * m.places ≤ length old
    → Wrote m.places (Interleaved m s x) old new → Interleaves m s x old new
leaves-done m s x old new h l w = rw ((accepted_exactly m x old).1 (h, l)) w
