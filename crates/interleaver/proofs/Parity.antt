-- Even and odd: what holds on even symbols, on odd ones, and that one direction on even symbols is the other on odd. For any mode. Assumes nothing.
use mathlib.Core.Path.{◌≡◌, refl}
use mathlib.Core.Logic.{◌↔◌}
use mathlib.Core.List.{List}
use Prim.Native.Nat.{ℕ, zero, suc, ◌+◌, ◌%◌}
use native.Mathlib.Omega.{arith}
use lib.Ieee.{Float}
use Rattle.interleaver.specs.Permutation.{Interleaver}
use Rattle.interleaver.specs.Interleaving.{by_parity, AtPlaces, Interleaved, Deinterleaved}

module _ (P Q : Type 0) where
  pub as_even : (k : ℕ) → k ≡ 0 → P → by_parity k P Q
  as_even zero e p = p
  as_even (suc k) e p = absurd (omega arith)

  pub as_odd : (k : ℕ) → (k ≡ 0 → ⊥) → Q → by_parity k P Q
  as_odd zero e q = absurd (e refl)
  as_odd (suc k) e q = q

  exchanged : (j k : ℕ) → j + k ≡ 1 → by_parity j P Q → by_parity k Q P
  exchanged zero zero e p = absurd (omega arith)
  exchanged zero (suc k) e p = p
  exchanged (suc j) zero e q = q
  exchanged (suc j) (suc k) e q = absurd (omega arith)

-- of an even and an odd number
abbrev pub Unlike : ℕ → ℕ → Type 0
Unlike s t = s % 2 + t % 2 ≡ 1

module _ (m : Interleaver) (s t : ℕ) (x y : List Float) (u : Unlike s t) where
  -- interleaving in the one is deinterleaving in the other
  pub other-parity : Interleaved m s x y ↔ Deinterleaved m t x y
  other-parity = (
    exchanged (AtPlaces m x y) (AtPlaces m y x) (s % 2) (t % 2) u,
    exchanged (AtPlaces m y x) (AtPlaces m x y) (t % 2) (s % 2) (omega arith),
  )
