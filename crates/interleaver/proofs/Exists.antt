-- Every call has a result that meets its promise, whatever is handed in: the cells are moved one after the other. For any mode that has its facts.
-- Assumes nothing.
use mathlib.Core.Path.{◌≡◌, refl}
use mathlib.Core.List.{List}
use Prim.Native.Nat.{ℕ, zero, suc, ◌+◌, ◌*◌, ◌%◌, ◌≤◌}
use native.Mathlib.Omega.{arith}
use lib.Ieee.{Float}
use lib.ListN.{length, get_or}
use Rattle.std.specs.Prelude.{Option, None, Some as Refused}
use Rattle.ground.specs.declared.Refusal.{Refusal}
use Rattle.ground.specs.Answer.{kept}
use Rattle.ground.specs.Refusal.{ACCEPTED}
use Rattle.interleaver.specs.Permutation.{Interleaver, permutation}
use Rattle.interleaver.specs.Interleaving.{Wrote, Interleaved, reorder_no, Interleaves, Deinterleaves}
use Rattle.interleaver.proofs.Facts.{Facts, permutes}
use Rattle.interleaver.proofs.Moving.{moves_exist}
use Rattle.interleaver.proofs.Calls.{accepted_exactly, spread_even, gathered_odd, leaves-other}

-- an output of which P is so
pub record Some (P : List Float → Type 0) : Type 0 where
  pub new : List Float
  pub meets : P new

some-kept : (n : ℕ) (P : List Float → Type 0) (old : List Float) (number : Option Refusal) → (number ≡ ACCEPTED → Some (Wrote n P old))
    → Some (λ new. kept number (Wrote n P old new) (new ≡ old))
some-kept n P old None some = let a = some refl in record { new = a.new; meets = a.meets }
some-kept n P old (Refused refusal) some = record { new = old; meets = refl }

module _ (m : Interleaver) (f : Facts m) (x old : List Float) where
  some_interleaved : (s : ℕ) → 2 * m.places ≤ length old → Some (Wrote m.places (Interleaved m s x) old)
  some_interleaved s room = by (s % 2) refl
    where
      h : List ℕ
      h = permutation m

      by : (k : ℕ) → s % 2 ≡ k → Some (Wrote m.places (Interleaved m s x) old)
      by zero e =
          let a = moves_exist (length h) (λ q. get_or h q 0) (λ q. q) x old (omega (arith, f.many)) (permutes m f).below (permutes m f).apart (length h) (omega arith) in
          record { new = a.new; meets = spread_even m f s h refl x old a.new e a.moved }
      by (suc k) e =
          let a = moves_exist (length h) (λ q. q) (λ q. get_or h q 0) x old (omega (arith, f.many)) (λ q l. l) (λ i j l g d. omega arith) (length h) (omega arith) in
          record { new = a.new; meets = gathered_odd m f s h refl x old a.new (λ d. omega arith) a.moved }

  pub interleave_exists : (s : ℕ) → Some (Interleaves m s x old)
  interleave_exists s =
      some-kept m.places (Interleaved m s x) old (reorder_no m x old) (λ e. some_interleaved s ((accepted_exactly m x old).0 e).1)

  pub deinterleave_exists : (s : ℕ) → Some (Deinterleaves m s x old)
  deinterleave_exists s =
      let a = interleave_exists (s % 2 + 1) in record { new = a.new; meets = leaves-other m s x old a.new a.meets }
