-- What the private functions hand to each other. No public promise cites this file.
use Rattle.std.specs.Prelude.{ℕ, ◌*◌, ◌<◌, ◌+◌, ◌/◌, ◌%◌, ◌^◌}
use Rattle.std.specs.Prelude.{false, not, cond, List, [], ◌∷◌, T, Float, Result}
use Rattle.std.specs.Float.{inf}
use Rattle.std.specs.Float.Ieee.{lt}
use Rattle.ground.specs.declared.Cell.{Cell}
use Rattle.ground.specs.Refusal.{NOT_A_BIT, ◌gives◌, first_of}
use Rattle.ground.specs.Bits.{are_bits}
use Rattle.ground.specs.declared.ConstellationOrder.{ConstellationOrder}
use Rattle.ground.specs.declared.Refusal.{Refusal}
use Rattle.gray.specs.Levels.{at}
use Rattle.gray.specs.Mapping.{index, mapped}
use Rattle.gray.specs.Hard.{distance}

-- what mapping answers at a constellation whose group size the bits have
abbrev pub map_answer_at : ConstellationOrder → List ℕ → Result Cell Refusal
map_answer_at o bits =
    mapped (first_of (not (are_bits bits) gives NOT_A_BIT ∷ [])) (at o (index o 0 bits)) (at o (index o 1 bits))

-- the distance of x to the coordinate at an index
abbrev pub distance_at : ConstellationOrder → Float → ℕ → Float
distance_at o x i = distance x (at o i)

-- of the indices below n, i is the first with the least distance
pub record FirstBelow (o : ConstellationOrder) (x : Float) (n i : ℕ) : Type 0 where
  pub upto : i < n
  pub least : (j : ℕ) → j < n → T (not (lt (distance_at o x j) (distance_at o x i)))
  pub first : (j : ℕ) → j < i → T (lt (distance_at o x i) (distance_at o x j))

-- the first of two floats where it is less, else the second
abbrev pub lesser : Float → Float → Float
lesser a b = cond (lt a b) a b

-- the index with the bit b at a place, the others in their order being those of a number
abbrev pub with_bit : ℕ → ℕ → ℕ → ℕ
with_bit rest place b = rest / 2 ^ place * 2 ^ place * 2 + b * 2 ^ place + rest % 2 ^ place

-- the least of a list as the code takes it: the lesser of the first and of what the rest gives
unfoldable pub least_in_turn : List Float → Float
least_in_turn [] = inf false
least_in_turn (d ∷ []) = d
least_in_turn (d ∷ e ∷ r) = lesser d (least_in_turn (e ∷ r))
