-- Document 01, 'Gray mapping': the soft value of a bit is (least squared distance to a level whose bit is 1) minus
-- (the same for 0), in f32, one rounding an operation. Another group size is LENGTH.
use Rattle.std.specs.Prelude.{ℕ, zero, suc, ◌/◌, ◌%◌, ◌^◌, ◌<◌, Bool, true, false, not, ◌&&◌, cond, ◌≡◌, List}
use Rattle.std.specs.Prelude.{[], ◌∷◌, map, ℤ, T, eqb, Float, length, Option, Result, Ok, Err}
use Rattle.std.specs.Float.{inf, binary32}
use Rattle.std.specs.Float.Ieee.{sub, mul, lt}
use Rattle.ground.specs.declared.Cell.{Cell}
use Rattle.ground.specs.Answer.{number_of, answer_by}
use Rattle.ground.specs.declared.Refusal.{Refusal}
use Rattle.ground.specs.declared.ConstellationOrder.{ConstellationOrder}
use Rattle.ground.specs.declared.ConstellationOrder.TheVariants.{Qpsk, Qam16, Qam64}
use Rattle.gray.specs.declared.Soft.{Soft}
use Rattle.gray.specs.declared.Soft.TheVariants.{Two, Four, Six}
use Rattle.gray.specs.Levels.{size_no, order_of, levels, coordinate}
use Rattle.gray.specs.Hard.{entry}

abbrev pub square : Float → Float → Float
square x p = let d = sub binary32 x p in mul binary32 d d

-- of the levels from index k on, those whose index has the bit b at place s, place 0 being the lowest
abbrev pub having : ℕ → ℕ → ℕ → List ℤ → List ℤ
having s b k [] = []
having s b k (l ∷ ls) = cond (eqb (k / 2 ^ s % 2) b) (l ∷ having s b (suc k) ls) (having s b (suc k) ls)

-- the squared distances of x to the levels whose bit at place s is b
unfoldable pub squares : ConstellationOrder → ℕ → ℕ → Float → List Float
squares o s b x = map (λ (l : ℤ). square x (coordinate o l)) (having s b 0 (levels o))

-- no entry of a list is less than m
abbrev pub none_less : List Float → Float → Bool
none_less [] m = true
none_less (d ∷ ds) m = not (lt d m) && none_less ds m

-- the first entry of a list that passes a test (where none does +∞, which no call reaches)
abbrev pub first_that : (Float → Bool) → List Float → Float
first_that test [] = inf false
first_that test (d ∷ ds) = cond (test d) d (first_that test ds)

-- the least of a list: the entry that no entry is less than
unfoldable pub least : List Float → Float
least ds = first_that (none_less ds) ds

-- the same, said without a computation: no entry is less than m, and m is one of them
pub record Least (ds : List Float) (m : Float) : Type 0 where
  pub none_less_lem : (j : ℕ) → j < length ds → T (not (lt (entry ds j) m))
  pub place : ℕ
  pub inside : place < length ds
  pub here : entry ds place ≡ m

-- the soft value of the bit at place s of the axis: the least squared distance to a level whose bit is 1, minus that
-- for 0
unfoldable pub soft : ConstellationOrder → ℕ → Float → Float
soft o s x = sub binary32 (least (squares o s 1 x)) (least (squares o s 0 x))

-- the soft values of the k low places of a cell, in the order of the bits: I and Q in turn, the high place first
abbrev pub softs_of : ConstellationOrder → Cell → ℕ → List Float
softs_of o c zero = []
softs_of o c (suc k) = soft o k c.re ∷ soft o k c.im ∷ softs_of o c k

-- those of all places, as the call has them
abbrev pub soft_at : ConstellationOrder → Cell → Soft
soft_at Qpsk c = Two (soft Qpsk 0 c.re) (soft Qpsk 0 c.im)
soft_at Qam16 c = Four (soft Qam16 1 c.re) (soft Qam16 1 c.im) (soft Qam16 0 c.re) (soft Qam16 0 c.im)
soft_at Qam64 c =
    Six (soft Qam64 2 c.re) (soft Qam64 2 c.im) (soft Qam64 1 c.re) (soft Qam64 1 c.im)
    (soft Qam64 0 c.re) (soft Qam64 0 c.im)

-- the values in a row
abbrev pub values_of : Soft → List Float
values_of (Two a b) = a ∷ b ∷ []
values_of (Four a b c d) = a ∷ b ∷ c ∷ d ∷ []
values_of (Six a b c d e f) = a ∷ b ∷ c ∷ d ∷ e ∷ f ∷ []

-- the refusal and the values, for each case of the answer
abbrev pub soft_number_of : Result Soft Refusal → Option Refusal
soft_number_of answer = number_of answer

abbrev pub soft_values_of : Result Soft Refusal → List Float
soft_values_of (Ok values) = values_of values
soft_values_of (Err refusal) = []

-- ---- soft demapping of a cell to v bits: its refusal, and the values where there is none
abbrev pub soft_no : ℕ → Option Refusal
soft_no v = size_no v

abbrev pub soft_answer : Cell → ℕ → Result Soft Refusal
soft_answer c v = answer_by (soft_no v) (soft_at (order_of v) c)
