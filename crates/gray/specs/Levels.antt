-- Document 01, 'Gray mapping'; EN 300 744, section 4.3.5 and figure 9a: the levels of an axis, the scales and the
-- coordinates. Numbers are IEEE binary32, and each operation rounds once.
use Rattle.std.specs.Prelude.{ℕ, Bool, not, ◌||◌, cond, List, [], ◌∷◌, ℤ, pos, negsuc, eqb, get_or, Float, Option}
use Rattle.std.specs.Float.{binary32}
use Rattle.std.specs.Float.Ieee.{of_bits, of_int, mul}
use Rattle.ground.specs.Refusal.{LENGTH, ◌gives◌, first_of}
use Rattle.ground.specs.declared.Refusal.{Refusal}
use Rattle.ground.specs.declared.ConstellationOrder.{ConstellationOrder}
use Rattle.ground.specs.declared.ConstellationOrder.TheVariants.{Qpsk, Qam16, Qam64}

-- a bit group has 2, 4 or 6 bits
abbrev pub is_size : ℕ → Bool
is_size v = eqb v 2 || (eqb v 4 || eqb v 6)

-- and another size is refused
abbrev pub size_no : ℕ → Option Refusal
size_no v = first_of (not (is_size v) gives LENGTH ∷ [])

-- the constellation of a group size
abbrev pub order_of : ℕ → ConstellationOrder
order_of v = cond (eqb v 2) Qpsk (cond (eqb v 4) Qam16 Qam64)

-- how many bits of a group belong to each axis
abbrev pub axis_bits : ConstellationOrder → ℕ
axis_bits Qpsk = 1
axis_bits Qam16 = 2
axis_bits Qam64 = 3

-- the levels of an axis, by index
abbrev pub levels : ConstellationOrder → List ℤ
levels Qpsk = pos 1 ∷ negsuc 0 ∷ []
levels Qam16 = pos 3 ∷ pos 1 ∷ negsuc 2 ∷ negsuc 0 ∷ []
levels Qam64 = pos 7 ∷ pos 5 ∷ pos 1 ∷ pos 3 ∷ negsuc 6 ∷ negsuc 4 ∷ negsuc 0 ∷ negsuc 2 ∷ []

-- the scales as f32 bit patterns: the f32 nearest to 1/√2, 1/√10 and 1/√42 (Scales)
abbrev pub pattern : ConstellationOrder → ℕ
pattern Qpsk = 0x3F35_04F3
pattern Qam16 = 0x3EA1_E89B
pattern Qam64 = 0x3E1E_01B3

abbrev pub scale : ConstellationOrder → Float
scale o = of_bits binary32 (pattern o)

-- the coordinate: the level as f32 times the scale
abbrev pub coordinate : ConstellationOrder → ℤ → Float
coordinate o l = mul binary32 (of_int binary32 l) (scale o)

-- the coordinate at an index of the axis
abbrev pub at : ConstellationOrder → ℕ → Float
at o i = coordinate o (get_or (levels o) i (pos 0))
