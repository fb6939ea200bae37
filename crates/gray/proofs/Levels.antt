-- The axes: how many levels and bits, an index that has a bit at a place, and coordinates that are finite, not zero and
-- within 2 of zero. Assumes nothing.
use Prim.Native.Nat.{ℕ, zero, suc, ◌≤◌, ◌<◌, ◌+◌, ◌-◌, ◌*◌}
use native.Mathlib.Omega.{arith}
use mathlib.Core.Path.{◌≡◌, refl}
use lib.ListN.{length}
use lib.Ieee.{of_int, mul, of_bits}
use lib.Dec.{T}
use lib.Ieee.Scale.{finite}
use Rattle.ground.specs.declared.ConstellationOrder.{ConstellationOrder}
use Rattle.ground.specs.declared.ConstellationOrder.TheVariants.{Qpsk, Qam16, Qam64}
use Rattle.ground.proofs.Tests.{below, below_at}
use Rattle.gray.specs.Levels.{levels, axis_bits, at}
use Rattle.gray.specs.Inner.{with_bit}
use Rattle.gray.proofs.Ieee.Large.{near}

pub axis_range : (o : ConstellationOrder) → (1 ≤ axis_bits o) × (axis_bits o ≤ 3)
axis_range Qpsk = (omega arith, omega arith)
axis_range Qam16 = (omega arith, omega arith)
axis_range Qam64 = (omega arith, omega arith)

pub with_bit_in : (o : ConstellationOrder) (rest s b : ℕ) → 2 * rest + 1 < length (levels o) → s < axis_bits o → b < 2 → with_bit rest s b < length (levels o)
with_bit_in Qpsk rest zero b r h k = omega arith
with_bit_in Qpsk rest (suc s) b r h k = absurd (omega arith)
with_bit_in Qam16 rest zero b r h k = omega arith
with_bit_in Qam16 rest (suc zero) b r h k = omega arith
with_bit_in Qam16 rest (suc (suc s)) b r h k = absurd (omega arith)
with_bit_in Qam64 rest zero b r h k = omega arith
with_bit_in Qam64 rest (suc zero) b r h k = omega arith
with_bit_in Qam64 rest (suc (suc zero)) b r h k = omega arith
with_bit_in Qam64 rest (suc (suc (suc s))) b r h k = absurd (omega arith)

pub some-levels : (o : ConstellationOrder) → length (levels o) ≡ suc (length (levels o) - 1)
some-levels Qpsk = refl
some-levels Qam16 = refl
some-levels Qam64 = refl

-- ---- the coordinates are finite, not zero, and within 2 of zero
pub finite_at : (o : ConstellationOrder) (i : ℕ) → T (finite (at o i))
unfolding mul of_int of_bits
finite_at Qpsk zero = tt
finite_at Qpsk (suc zero) = tt
finite_at Qpsk (suc (suc i)) = tt
finite_at Qam16 zero = tt
finite_at Qam16 (suc zero) = tt
finite_at Qam16 (suc (suc zero)) = tt
finite_at Qam16 (suc (suc (suc zero))) = tt
finite_at Qam16 (suc (suc (suc (suc i)))) = tt
finite_at Qam64 zero = tt
finite_at Qam64 (suc zero) = tt
finite_at Qam64 (suc (suc zero)) = tt
finite_at Qam64 (suc (suc (suc zero))) = tt
finite_at Qam64 (suc (suc (suc (suc zero)))) = tt
finite_at Qam64 (suc (suc (suc (suc (suc zero))))) = tt
finite_at Qam64 (suc (suc (suc (suc (suc (suc zero)))))) = tt
finite_at Qam64 (suc (suc (suc (suc (suc (suc (suc zero))))))) = tt
finite_at Qam64 (suc (suc (suc (suc (suc (suc (suc (suc i)))))))) = tt

near-tested : (o : ConstellationOrder) → T (below (length (levels o)) (λ j. near (at o j)))
unfolding mul of_int of_bits
near-tested Qpsk = tt
near-tested Qam16 = tt
near-tested Qam64 = tt

pub near-at : (o : ConstellationOrder) (j : ℕ) → j < length (levels o) → T (near (at o j))
near-at o = below_at (length (levels o)) (λ j. near (at o j)) (near-tested o)
