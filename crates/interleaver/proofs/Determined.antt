-- Two results that meet the promise of a call are equal, for each call; and a refused call leaves the output as it was. For any mode that has its facts.
-- Assumes nothing.
use mathlib.Core.Path.{◌≡◌, refl, sym, ◌∙◌}
use mathlib.Core.List.{List}
use Prim.Native.Nat.{ℕ, ◌*◌, ◌≤◌}
use native.Mathlib.Omega.{arith}
use lib.Ieee.{Float}
use lib.ListN.{length}
use Rattle.std.specs.Prelude.{Option, Some, None, Result}
use Rattle.ground.specs.declared.Refusal.{Refusal}
use Rattle.ground.specs.Answer.{kept}
use Rattle.ground.specs.Refusal.{ACCEPTED}
use Rattle.interleaver.specs.Permutation.{Interleaver}
use Rattle.interleaver.specs.Interleaving.{Wrote, Interleaved, Deinterleaved, reorder_no, reorder_answer, Interleaves, Deinterleaves}
use Rattle.interleaver.proofs.Cells.{SameCells, same-list}
use Rattle.interleaver.proofs.Facts.{Facts}
use Rattle.interleaver.proofs.Calls.{accepted_exactly, refused_keeps}
use Rattle.interleaver.proofs.Round.{interleaved_once, deinterleaved_once}

-- two outputs that are each what one call leaves, whose cells are settled
left-once : (n : ℕ) (P : List Float → Type 0) (old a b : List Float) → (P a → P b → SameCells n a b) → (number : Option Refusal)
    → (number ≡ ACCEPTED → 2 * n ≤ length old) → kept number (Wrote n P old a) (a ≡ old) → kept number (Wrote n P old b) (b ≡ old) → a ≡ b
left-once n P old a b same None room v w =
    let r : 2 * n ≤ length old = room refl in
    same-list n a b (same v.cells w.cells) (omega (arith, v.long)) (omega (arith, w.long)) (v.behind ∙ sym w.behind)
left-once n P old a b same (Some refusal) room v w = v ∙ sym w

module _ (m : Interleaver) (f : Facts m) (s : ℕ) (x old : List Float) (r q : Result ℕ Refusal) (a b : List Float) where
  pub interleave_determined : (r ≡ reorder_answer m x old) × Interleaves m s x old a → (q ≡ reorder_answer m x old) × Interleaves m s x old b
      → (r ≡ q) × (a ≡ b)
  interleave_determined v w = (
    v.0 ∙ sym w.0,
    left-once m.places (Interleaved m s x) old a b (interleaved_once m f s x a b) (reorder_no m x old) (λ e. ((accepted_exactly m x old).0 e).1) v.1 w.1,
  )

  pub deinterleave_determined : (r ≡ reorder_answer m x old) × Deinterleaves m s x old a → (q ≡ reorder_answer m x old) × Deinterleaves m s x old b
      → (r ≡ q) × (a ≡ b)
  deinterleave_determined v w = (
    v.0 ∙ sym w.0,
    left-once m.places (Deinterleaved m s x) old a b (deinterleaved_once m f s x a b) (reorder_no m x old) (λ e. ((accepted_exactly m x old).0 e).1) v.1 w.1,
  )

module _ (m : Interleaver) (s : ℕ) (x old new : List Float) (refused : reorder_no m x old ≡ ACCEPTED → ⊥) where
  pub refused_interleave : Interleaves m s x old new → new ≡ old
  refused_interleave = refused_keeps (Wrote m.places (Interleaved m s x) old new) old new (reorder_no m x old) refused

  pub refused_deinterleave : Deinterleaves m s x old new → new ≡ old
  refused_deinterleave = refused_keeps (Wrote m.places (Deinterleaved m s x) old new) old new (reorder_no m x old) refused
