-- What is computed at each index of each axis and over each bit group: an exact coordinate's first index is its own,
-- its soft values have the signs of its bits, and the bits of a group come back from its two indices. Assumes nothing.
use Prim.Native.Nat.{ℕ, ◌*◌, ◌^◌, ◌<◌, ◌/◌, ◌%◌}
use mathlib.Core.Path.{◌≡◌, refl, ap₂}
use mathlib.Core.Bool.{◌&&◌, true, Bool, false, not}
use mathlib.Core.List.{List, [], ◌∷◌}
use lib.ListN.{length}
use lib.Ieee.{Float, of_int, lt, sub, mul, of_bits}
use lib.Dec.{T, ltb, eqb, eqb→eq, ltb→lt}
use lib.Ieee.Fits.{and_l, and_r}
use Rattle.ground.specs.Cells.{plus_zero}
use Rattle.ground.specs.Bits.{Bits}
use Rattle.ground.specs.declared.ConstellationOrder.{ConstellationOrder}
use Rattle.ground.specs.declared.ConstellationOrder.TheVariants.{Qpsk, Qam16, Qam64}
use Rattle.ground.proofs.Tests.{below, below_at}
use Rattle.gray.specs.Levels.{levels, axis_bits, at}
use Rattle.gray.specs.Mapping.{index}
use Rattle.gray.specs.Hard.{distances, First, bits_of, abs, entry}
use Rattle.gray.specs.Soft.{soft, squares, least}
use Rattle.gray.specs.Points.{sign_right}
use Rattle.gray.proofs.Tests.{every, every-at}

-- ---- the first index with the least entry, as a test
unfoldable is_first : List Float → ℕ → Bool
is_first ds i =
    ltb i (length ds) && (below (length ds) (λ j. not (lt (entry ds j) (entry ds i))) && below i (λ j. lt (entry ds i) (entry ds j)))

is_first_sound : (ds : List Float) (i : ℕ) → T (is_first ds i) → First ds i
unfolding is_first
is_first_sound ds i t =
    let A = ltb i (length ds) in
    let B = below (length ds) (λ j. not (lt (entry ds j) (entry ds i))) in
    let C = below i (λ j. lt (entry ds i) (entry ds j)) in
    let r : T (B && C) = and_r A (B && C) t in
    record {
      there = ltb→lt i (length ds) (and_l A (B && C) t);
      least = below_at (length ds) (λ j. not (lt (entry ds j) (entry ds i))) (and_l B C r);
      first = below_at i (λ j. lt (entry ds i) (entry ds j)) (and_r B C r);
    }

-- ---- two lists of numbers are the same
abbrev same : List ℕ → List ℕ → Bool
same [] [] = true
same [] (b ∷ s) = false
same (a ∷ r) [] = false
same (a ∷ r) (b ∷ s) = eqb a b && same r s

same_sound : (r s : List ℕ) → T (same r s) → r ≡ s
same_sound [] [] t = refl
same_sound [] (b ∷ s) t = absurd t
same_sound (a ∷ r) [] t = absurd t
same_sound (a ∷ r) (b ∷ s) t =
    ap₂ (λ (x : ℕ) (y : List ℕ). x ∷ y) (eqb→eq a b (and_l (eqb a b) (same r s) t)) (same_sound r s (and_r (eqb a b) (same r s) t))

-- ---- the computation: each index of each axis, and the bits of each of the 4, 16 and 64 groups
unfoldable on_axis : ConstellationOrder → ℕ → Bool
on_axis o i = is_first (distances o (at o i)) i && below (axis_bits o) (λ s. sign_right (i / 2 ^ s % 2) (soft o s (at o i)))

axes_tested : (o : ConstellationOrder) → T (below (length (levels o)) (on_axis o))
unfolding on_axis is_first distances abs squares least soft plus_zero sub mul of_int of_bits lt
axes_tested Qpsk = tt
axes_tested Qam16 = tt
axes_tested Qam64 = tt

unfoldable group_returns : ConstellationOrder → List ℕ → Bool
group_returns o bits =
    ltb (index o 0 bits) (length (levels o)) && ltb (index o 1 bits) (length (levels o)) && same (bits_of o (index o 0 bits) (index o 1 bits)) bits

groups_tested : (o : ConstellationOrder) → T (every (2 * axis_bits o) (group_returns o))
unfolding every group_returns
groups_tested Qpsk = tt
groups_tested Qam16 = tt
groups_tested Qam64 = tt

-- ---- one axis
module _ (o : ConstellationOrder) (i : ℕ) (h : i < length (levels o)) where
  axis_tested : T (on_axis o i)
  axis_tested = below_at (length (levels o)) (on_axis o) (axes_tested o) i h

  pub index-first : First (distances o (at o i)) i
  unfolding on_axis
  index-first = is_first_sound (distances o (at o i)) i (and_l (is_first (distances o (at o i)) i) (below (axis_bits o) (λ s. sign_right (i / 2 ^ s % 2) (soft o s (at o i)))) axis_tested)

  pub axis_sign : (s : ℕ) → s < axis_bits o → T (sign_right (i / 2 ^ s % 2) (soft o s (at o i)))
  unfolding on_axis
  axis_sign =
      below_at (axis_bits o) (λ s. sign_right (i / 2 ^ s % 2) (soft o s (at o i)))
      (and_r (is_first (distances o (at o i)) i) (below (axis_bits o) (λ s. sign_right (i / 2 ^ s % 2) (soft o s (at o i)))) axis_tested)

-- what the tests found at the group's order
pub record GroupReturns (o : ConstellationOrder) (bits : List ℕ) : Type 0 where
  pub i_in : index o 0 bits < length (levels o)
  pub q_in : index o 1 bits < length (levels o)
  pub bits_back : bits_of o (index o 0 bits) (index o 1 bits) ≡ bits

pub group_returns_lem : (o : ConstellationOrder) (bits : List ℕ) → length bits ≡ 2 * axis_bits o → Bits bits → GroupReturns o bits
unfolding group_returns
group_returns_lem o bits e h =
    let t = every-at (2 * axis_bits o) (group_returns o) (groups_tested o) bits e h in
    let I = ltb (index o 0 bits) (length (levels o)) in
    let Q = ltb (index o 1 bits) (length (levels o)) in
    let B = same (bits_of o (index o 0 bits) (index o 1 bits)) bits in
    let iq : T (I && Q) = and_l (I && Q) B t in
    record {
      i_in = ltb→lt (index o 0 bits) (length (levels o)) (and_l I Q iq);
      q_in = ltb→lt (index o 1 bits) (length (levels o)) (and_r I Q iq);
      bits_back = same_sound (bits_of o (index o 0 bits) (index o 1 bits)) bits (and_r (I && Q) B t);
    }
