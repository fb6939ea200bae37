-- Document 01, 'Gray mapping': hard demapping takes the first index with the least f32 distance on each axis, and
-- writes its bits. Another group size is LENGTH; then an output that is shorter than the group is OUTPUT SHORT.
use Rattle.std.specs.Prelude.{ℕ, ◌<◌, false, not, ◌≡◌, List, [], ◌∷◌, map, ℤ, T, Float, length, get_or, Option, Result}
use Rattle.std.specs.Float.{nan, inf, fin, binary32}
use Rattle.std.specs.Float.Ieee.{sub, lt}
use Rattle.ground.specs.declared.Cell.{Cell}
use Rattle.ground.specs.declared.Refusal.{Refusal}
use Rattle.ground.specs.Answer.{counted, kept, written, short}
use Rattle.ground.specs.Refusal.{LENGTH, OUTPUT_SHORT, ◌gives◌, first_of}
use Rattle.ground.specs.Digits.{digits_of}
use Rattle.ground.specs.declared.ConstellationOrder.{ConstellationOrder}
use Rattle.gray.specs.Levels.{is_size, order_of, axis_bits, levels, coordinate}

-- the magnitude, as f32's abs
unfoldable pub abs : Float → Float
abs nan = nan
abs (inf s) = inf false
abs (fin s m e) = fin false m e

abbrev pub distance : Float → Float → Float
distance x p = abs (sub binary32 x p)

-- the distances of x to the coordinates of an axis, by index
unfoldable pub distances : ConstellationOrder → Float → List Float
distances o x = map (λ (l : ℤ). distance x (coordinate o l)) (levels o)

abbrev pub entry : List Float → ℕ → Float
entry ds j = get_or ds j nan

-- i is the first index with the least entry: no entry is less, and none before it is as small
pub record First (ds : List Float) (i : ℕ) : Type 0 where
  pub there : i < length ds
  pub least : (j : ℕ) → j < length ds → T (not (lt (entry ds j) (entry ds i)))
  pub first : (j : ℕ) → j < i → T (lt (entry ds i) (entry ds j))

-- the items of two lists in turn
abbrev pub weave : List ℕ → List ℕ → List ℕ
weave [] s = s
weave (a ∷ r) [] = a ∷ r
weave (a ∷ r) (b ∷ s) = a ∷ b ∷ weave r s

-- the n low bits of an index on I and of one on Q in turn, high first
abbrev pub bits_in_turn : ℕ → ℕ → ℕ → List ℕ
bits_in_turn n i q = weave (digits_of n i) (digits_of n q)

-- the bits of an index on I and one on Q
abbrev pub bits_of : ConstellationOrder → ℕ → ℕ → List ℕ
bits_of o i q = bits_in_turn (axis_bits o) i q

-- the new output is the old one with the bits of the first least indices at its front
pub record Wrote (o : ConstellationOrder) (sym : Cell) (old new : List ℕ) : Type 0 where
  pub i : ℕ
  pub q : ℕ
  pub i_first : First (distances o sym.re) i
  pub q_first : First (distances o sym.im) q
  pub output : new ≡ written (bits_of o i q) old

-- ---- demapping a cell to v bits in a lent output: its refusal, the bits written, and the output, which is written
-- where the call is accepted, else unchanged
abbrev pub demap_no : ℕ → List ℕ → Option Refusal
demap_no v out = first_of (not (is_size v) gives LENGTH ∷ short v out gives OUTPUT_SHORT ∷ [])

abbrev pub demap_answer : ℕ → List ℕ → Result ℕ Refusal
demap_answer v out = counted (demap_no v out) v

abbrev pub Demapped : Cell → ℕ → List ℕ → List ℕ → Type 0
Demapped sym v old new = kept (demap_no v old) (Wrote (order_of v) sym old new) (new ≡ old)
