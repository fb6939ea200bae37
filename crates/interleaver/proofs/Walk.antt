-- The permutation in one walk that carries the register: what a computed test compares with. For any mode. Assumes nothing.
use mathlib.Core.Path.{◌≡◌, refl, ap, ◌∙◌}
use mathlib.Core.List.{List, []}
use Prim.Native.Nat.{ℕ, zero, suc, ◌*◌, ◌^◌}
use Rattle.interleaver.specs.Permutation.{Interleaver, step, register, address, placed, places_from, permutation}

module _ (m : Interleaver) where
  -- the register after step i, where it is x
  unfoldable pub next : ℕ → ℕ → ℕ
  next zero x = 0
  next (suc zero) x = 1
  next (suc (suc i)) x = step m x

  register-next : (i : ℕ) → next i (register m i) ≡ register m (suc i)
  unfolding next register
  register-next zero = refl
  register-next (suc zero) = refl
  register-next (suc (suc i)) = refl

  -- the places among the addresses of the n steps from i on, where the register is x in step i
  unfoldable pub walk : ℕ → ℕ → ℕ → List ℕ
  walk i x zero = []
  walk i x (suc n) = placed m (address m i x) (walk (suc i) (next i x) n)

  pub walk_is_places : (n i : ℕ) → walk i (register m i) n ≡ places_from m i n
  unfolding walk places_from
  walk_is_places zero i = refl
  walk_is_places (suc n) i =
      ap (placed m (address m i (register m i)))
      (ap (λ (x : ℕ). walk (suc i) x n) (register-next i) ∙ walk_is_places n (suc i))

  unfoldable pub walked : List ℕ
  walked = walk 0 0 (2 * 2 ^ m.bits)

  pub walked_is_permutation : walked ≡ permutation m
  unfolding walked permutation register
  walked_is_permutation = walk_is_places (2 * 2 ^ m.bits) 0
