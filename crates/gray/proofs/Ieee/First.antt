-- The first index with the least entry of a list of floats: at most one is, and 0 where all entries are equal.
-- Assumes nothing.
use Prim.Native.Nat.{ℕ, zero, suc, ◌≤◌, ◌<◌}
use native.Mathlib.Omega.{arith}
use native.Mathlib.Nat.{zero-lt-suc, eq-or-lt_of_le}
use mathlib.Core.Path.{◌≡◌, refl, sym, subst}
use mathlib.Core.List.{List}
use mathlib.Core.Logic.{⊎_elim, ◌⊎◌, inl, inr}
use lib.ListN.{length}
use lib.Ieee.{Float, lt}
use lib.Dec.{T, T_not}
use Rattle.gray.specs.Hard.{First, entry}
use Rattle.gray.proofs.Ieee.Magnitudes.{float_lt_irrefl}
use Rattle.gray.proofs.Tests.{lt_or_ge}

-- at most one index is the first with the least entry, whatever the entries are
pub first-unique : (ds : List Float) (i j : ℕ) → First ds i → First ds j → i ≡ j
first-unique ds i j a b = go (lt_or_ge i j)
  where
    lower : i < j → i ≡ j
    lower l = absurd (T_not (lt (entry ds j) (entry ds i)) (a.least j b.there) (b.first i l))

    upper : j < i → i ≡ j
    upper l = absurd (T_not (lt (entry ds i) (entry ds j)) (b.least i a.there) (a.first j l))

    go : (i < j) ⊎ (j ≤ i) → i ≡ j
    go (inl l) = lower l
    go (inr l) = ⊎_elim (λ e. sym e) upper (eq-or-lt_of_le l)

-- entries that are all equal have index 0 as the first
pub equal_first : (ds : List Float) (v : Float) → ((j : ℕ) → j < length ds → entry ds j ≡ v) → (i : ℕ) → First ds i → i ≡ 0
equal_first ds v e zero f = refl
equal_first ds v e (suc i) f =
    absurd
    (T_not (lt v v) (float_lt_irrefl v)
    (subst (λ (y : Float). T (lt v y)) (e 0 (lower f.there)) (subst (λ (y : Float). T (lt y (entry ds 0))) (e (suc i) f.there) (f.first 0 (zero-lt-suc i)))))
  where
    lower : {n : ℕ} → suc i < n → 0 < n
    lower h = omega arith
