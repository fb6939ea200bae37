-- Rows of signs, +1 or -1 each: the row that sends a bit behind another one is a row, and the bit is read of it. For
-- any number of carriers from 1 to 2^24, so far as a sum of ones is exact. Assumes nothing.
use mathlib.Core.Path.{◌≡◌, refl, sym, ap, ap₂, ◌∙◌, subst}
use mathlib.Core.Bool.{Bool, true, false, cond}
use mathlib.Core.Logic.{◌⊎◌, inl, inr}
use mathlib.Core.List.{List, [], ◌∷◌, map}
use Prim.Native.Nat.{ℕ, zero, suc, ◌^◌, ◌<◌, ◌≤◌}
use native.Mathlib.Nat.{not-suc-le-zero, le_of_suc-le-suc}
use native.Mathlib.Omega.{arith}
use lib.Dec.{eqb}
use lib.Ieee.{Float, nan, binary32, of_bits, add, sub, mul, neg, lt}
use lib.ListN.{length, get_or, length-map}
use Rattle.ground.specs.declared.Cell.{Cell}
use Rattle.ground.specs.Cells.{plus_zero}
use Rattle.ground.proofs.Xor.{bit_cases}
use Rattle.ground.proofs.Mapped.{map_at}
use Rattle.carriers.specs.Mode.{Mode, mode2k}
use Rattle.carriers.specs.Sequence.{wk}
use Rattle.carriers.proofs.Facts.{Facts, facts2k}
use Rattle.tps.specs.Send.{sign_of, start_signs, sign_cell}
use Rattle.tps.specs.Receive.{no_cell, product, correlation}
use Rattle.tps.proofs.Sums.{one, Total, total-next, total-below}

-- ---- signs

abbrev Sign : Float → Type 0
Sign x = (x ≡ sign_of 0) ⊎ (x ≡ sign_of 1)

abbrev AllSigns : List Float → Type 0
AllSigns [] = Unit {0}
AllSigns (x ∷ s) = Sign x × AllSigns s

-- a row of n of them
abbrev pub Signs : ℕ → List Float → Type 0
Signs n s = (length s ≡ n) × AllSigns s

sign_of_lem : (w : ℕ) → Sign (sign_of w)
unfolding sign_of
sign_of_lem zero = inl refl
sign_of_lem (suc w) = inr refl

sign_turned : (x : Float) → Sign x → Sign (neg x)
unfolding sign_of of_bits neg
sign_turned x (inl e) = inr (ap neg e)
sign_turned x (inr e) = inl (ap neg e)

sign_at : (s : List Float) (i : ℕ) → AllSigns s → i < length s → Sign (get_or s i nan)
sign_at [] i k h = absurd (not-suc-le-zero h)
sign_at (x ∷ s) zero k h = k.0
sign_at (x ∷ s) (suc i) k h = sign_at s i k.1 (le_of_suc-le-suc h)

all_turned : (s : List Float) → AllSigns s → AllSigns (map neg s)
all_turned [] k = tt
all_turned (x ∷ s) k = (sign_turned x k.0, all_turned s k.1)

all_of : (l : List ℕ) → AllSigns (map (λ a. sign_of (wk a)) l)
all_of [] = tt
all_of (a ∷ l) = (sign_of_lem (wk a), all_of l)

-- ---- the rows of a mode

-- what is asked of a mode beside its facts: it has TPS carriers, and so far a sum of ones is exact
pub record TpsFacts (m : Mode) : Type 0 where
  pub facts : Facts m
  pub some : 0 < m.tps_count
  pub exact : m.tps_count ≤ 2 ^ 24

pub tps-facts2k : TpsFacts mode2k
tps-facts2k = record { facts = facts2k; some = omega arith; exact = omega arith }

pub start-signs : (m : Mode) → TpsFacts m → Signs m.tps_count (start_signs m)
unfolding start_signs
start-signs m f = (length-map m.tps (λ a. sign_of (wk a)) ∙ f.facts.tps_many, all_of m.tps)

-- ---- the bit that is read of the signs s behind the signs p

abbrev pub bit_of_rows : ℕ → List Float → List Float → ℕ
bit_of_rows n s p = cond (lt (correlation n (map sign_cell s) (map sign_cell p)) plus_zero) 1 0

same-product : (x : Float) → Sign x → product (sign_cell x) (sign_cell x) ≡ one false
unfolding sign_of of_bits neg plus_zero product add sub mul
same-product x (inl e) = ap (λ (y : Float). product (sign_cell y) (sign_cell y)) e
same-product x (inr e) = ap (λ (y : Float). product (sign_cell y) (sign_cell y)) e

turned_product : (x : Float) → Sign x → product (sign_cell (neg x)) (sign_cell x) ≡ one true
unfolding sign_of of_bits neg plus_zero product add sub mul
turned_product x (inl e) = ap (λ (y : Float). product (sign_cell (neg y)) (sign_cell y)) e
turned_product x (inr e) = ap (λ (y : Float). product (sign_cell (neg y)) (sign_cell y)) e

module _ (b : Bool) (c p : List Cell) where
  -- equal products are summed in order
  rows_total : (n : ℕ) → ((i : ℕ) → i < n → product (get_or c i no_cell) (get_or p i no_cell) ≡ one b) → n ≤ 2 ^ 24 → Total b n (correlation n c p)
  unfolding correlation
  rows_total zero h l = refl
  rows_total (suc n) h l =
      subst (λ (x : Float). Total b (suc n) (add binary32 (correlation n c p) x)) (sym (h n (omega arith)))
      (total-next b n (correlation n c p) (rows_total n (λ i k. h i (omega arith)) (omega arith)) l)

module _ (n : ℕ) (some : 0 < n) (exact : n ≤ 2 ^ 24) (s : List Float) (k : Signs n s) where
  cell_here : (f : Float → Float) (i : ℕ) → i < n → get_or (map sign_cell (map f s)) i no_cell ≡ sign_cell (f (get_or s i nan))
  cell_here f i h =
      map_at sign_cell (map f s) i no_cell nan (omega (arith, length-map s f, k.0)) ∙ ap sign_cell (map_at f s i nan nan (omega (arith, k.0)))

  cell_there : (i : ℕ) → i < n → get_or (map sign_cell s) i no_cell ≡ sign_cell (get_or s i nan)
  cell_there i h = map_at sign_cell s i no_cell nan (omega (arith, k.0))

  same_zero : bit_of_rows n s s ≡ 0
  same_zero =
      ap (λ (b : Bool). cond b 1 0)
      (total-below false n _ some
      (rows_total false (map sign_cell s) (map sign_cell s) n
      (λ i h. ap₂ product (cell_there i h) (cell_there i h) ∙ same-product (get_or s i nan) (sign_at s i k.1 (omega (arith, k.0)))) exact))

  turned_one : bit_of_rows n (map neg s) s ≡ 1
  turned_one =
      ap (λ (b : Bool). cond b 1 0)
      (total-below true n _ some
      (rows_total true (map sign_cell (map neg s)) (map sign_cell s) n
      (λ i h. ap₂ product (cell_here neg i h) (cell_there i h) ∙ turned_product (get_or s i nan) (sign_at s i k.1 (omega (arith, k.0)))) exact))

-- ---- the signs that send a bit behind the signs s are a row, and the bit is read of them

abbrev pub turned_row : List Float → ℕ → List Float
turned_row s bit = cond (eqb bit 1) (map neg s) s

abbrev pub BitOfRows : ℕ → List Float → ℕ → Type 0
BitOfRows n s bit = Signs n (turned_row s bit) × (bit_of_rows n (turned_row s bit) s ≡ bit)

pub bit_of_rows_lem : (m : Mode) → TpsFacts m → (s : List Float) (bit : ℕ) → bit < 2 → Signs m.tps_count s → BitOfRows m.tps_count s bit
bit_of_rows_lem m f s bit h k =
    bit_cases (BitOfRows m.tps_count s)
    (k, same_zero m.tps_count f.some f.exact s k)
    ((length-map s neg ∙ k.0, all_turned s k.1), turned_one m.tps_count f.some f.exact s k)
    bit h
