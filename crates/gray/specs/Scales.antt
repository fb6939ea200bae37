-- Document 01, 'Gray mapping': each scale is the f32 nearest to 1/√2, 1/√10 or 1/√42, said by squares of whole
-- numbers.
use Rattle.std.specs.Prelude.{ℕ, ◌+◌, ◌-◌, ◌*◌, ◌/◌, ◌%◌, ◌^◌, ◌<◌, cond, ◌≡◌, T, leb, ltb, Float}
use Rattle.std.specs.Float.{binary32}
use Rattle.std.specs.Float.Ieee.{of_bits, to_bits, fits}
use Rattle.std.specs.Float.Ieee.Scale.{finite}
use Rattle.ground.specs.declared.ConstellationOrder.{ConstellationOrder}
use Rattle.ground.specs.declared.ConstellationOrder.TheVariants.{Qpsk, Qam16, Qam64}

-- the mean energy of the points before scaling: the scale is to be 1/√energy
abbrev pub energy : ConstellationOrder → ℕ
energy Qpsk = 2
energy Qam16 = 10
energy Qam64 = 42

-- the number that the pattern b of a finite f32 with a clear sign stands for, in units of 2 ^ -149
abbrev pub units : ℕ → ℕ
units b = cond (ltb b 0x80_0000) b ((0x80_0000 + b % 0x80_0000) * 2 ^ (b / 0x80_0000 - 1))

-- In these units 1/√N is t = 2 ^ 149 / √N. A number n lies below 2 t, or above it, both sides squared
abbrev pub Below : ℕ → ℕ → Type 0
Below N n = n * n * N < 4 * 2 ^ 298

abbrev pub Above : ℕ → ℕ → Type 0
Above N n = 4 * 2 ^ 298 < n * n * N

-- The pattern b, of a number that is not negative, stands for a number nearer to t than that of the pattern c: their
-- sum, which is twice the middle between them, lies below 2 t where c's number is the smaller, and above it where it
-- is the larger. A pattern from 8000_0000 on is that of a negative number or of -0, and the sum is then a difference,
-- cut to 0 where it is negative.
abbrev pub Nearer : ℕ → ℕ → ℕ → Type 0
Nearer N b c =
    cond (leb 0x8000_0000 c) (Below N (units b - units (c - 0x8000_0000)))
    (cond (ltb c b) (Below N (units b + units c)) (Above N (units b + units c)))

-- of all the finite f32, that of the pattern b is the one nearest to 1/√N
abbrev pub Nearest : ℕ → ℕ → Type 0
Nearest N b =
    (y : Float) → T (fits binary32 y) → T (finite y) → (y ≡ of_bits binary32 b → ⊥) → Nearer N b (to_bits binary32 y)
