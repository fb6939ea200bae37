-- Document 01, 'Gray mapping': even bits, high first, index the I axis, odd bits the Q axis. Any other length than 2,
-- 4 or 6 is LENGTH; then a bit above 1 is NOT A BIT.
use Rattle.std.specs.Prelude.{not, ℕ, zero, suc, ◌+◌, List, [], ◌∷◌, Float, length, get_or, Option, Result, Ok, Err}
use Rattle.ground.specs.Bits.{are_bits}
use Rattle.ground.specs.Refusal.{LENGTH, NOT_A_BIT, ◌gives◌, first_of}
use Rattle.ground.specs.Answer.{number_of, answer_by}
use Rattle.ground.specs.Digits.{value_of}
use Rattle.ground.specs.declared.Cell.{Cell}
use Rattle.ground.specs.declared.ConstellationOrder.{ConstellationOrder}
use Rattle.ground.specs.declared.Refusal.{Refusal}
use Rattle.gray.specs.Levels.{is_size, order_of, axis_bits, at}

-- the k bits at the places a, a + 2, ..
abbrev pub every_other : ℕ → ℕ → List ℕ → List ℕ
every_other zero a bits = []
every_other (suc k) a bits = get_or bits a 0 ∷ every_other k (a + 2) bits

-- the index on the axis whose first bit is at a: 0 for I, 1 for Q
abbrev pub index : ConstellationOrder → ℕ → List ℕ → ℕ
index o a bits = value_of 0 (every_other (axis_bits o) a bits)

-- the refusal and the coordinates, for each case of the answer
abbrev pub map_number_of : Result Cell Refusal → Option Refusal
map_number_of answer = number_of answer

abbrev pub map_coordinates_of : Result Cell Refusal → List Float
map_coordinates_of (Ok point) = point.re ∷ point.im ∷ []
map_coordinates_of (Err refusal) = []

abbrev pub cell_of : Float → Float → Cell
cell_of x y = record { re = x; im = y }

-- the answer of a call by its refusal: the point where there is none
abbrev pub mapped : Option Refusal → Float → Float → Result Cell Refusal
mapped number x y = answer_by number (cell_of x y)

-- ---- mapping a bit group: its refusal, and the point
abbrev pub map_no : List ℕ → Option Refusal
map_no bits = first_of (not (is_size (length bits)) gives LENGTH ∷ not (are_bits bits) gives NOT_A_BIT ∷ [])

abbrev pub map_answer : List ℕ → Result Cell Refusal
map_answer bits = let o = order_of (length bits) in mapped (map_no bits) (at o (index o 0 bits)) (at o (index o 1 bits))
