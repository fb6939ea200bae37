-- Over all 84 exact points: hard demapping of what mapping answers returns the bits, and every soft value is positive
-- for 0 and negative for 1. Assumes nothing.
use Prim.Native.Nat.{ℕ, zero, suc, ◌*◌, ◌^◌, ◌≤◌, ◌<◌, ◌/◌, ◌%◌}
use native.Mathlib.Nat.{le_refl, le_of_lt}
use mathlib.Core.Path.{◌≡◌, refl, sym, ap, ◌∙◌, subst, ap₂}
use mathlib.Core.Bool.{true, Bool, false, cond, ◌&&◌, ◌||◌, not}
use mathlib.Core.List.{List, [], ◌∷◌}
use lib.ListN.{length}
use lib.Ieee.{Float}
use lib.Dec.{T, eqb}
use lib.Ieee.Fits.{and_i}
use borrow.Author.Tests.{le-ltb, eqb-true}
use Rattle.std.specs.Prelude.{Option, Ok}
use Rattle.ground.specs.declared.Refusal.{Refusal}
use Rattle.ground.specs.Refusal.{ACCEPTED, LENGTH, NOT_A_BIT, ◌gives◌, first_of}
use Rattle.ground.specs.Answer.{answer_by, kept, written}
use Rattle.ground.specs.declared.Cell.{Cell}
use Rattle.ground.specs.Bits.{are_bits}
use Rattle.ground.specs.Digits.{digits_of}
use Rattle.ground.specs.declared.ConstellationOrder.{ConstellationOrder}
use Rattle.ground.specs.declared.ConstellationOrder.TheVariants.{Qpsk, Qam16, Qam64}
use Rattle.ground.proofs.Bits.{bits_of_lem}
use Rattle.gray.specs.Levels.{order_of, levels, axis_bits, at, is_size}
use Rattle.gray.specs.Mapping.{index, cell_of, mapped, map_answer}
use Rattle.gray.specs.Hard.{distances, First, weave, bits_of, Wrote, demap_no, Demapped}
use Rattle.gray.specs.Soft.{soft, softs_of, soft_at, values_of, soft_no, soft_answer, soft_values_of}
use Rattle.gray.specs.Points.{sign_right, signs_right, PointRight}
use Rattle.gray.proofs.Answers.{soft_values_at}
use Rattle.gray.proofs.PointTests.{GroupReturns, axis_sign, group_returns_lem, index-first}
use Rattle.gray.proofs.Ieee.First.{first-unique}

-- ---- both axes: a sign for each bit, by places
module _ (o : ConstellationOrder) (i q : ℕ) (hi : i < length (levels o)) (hq : q < length (levels o)) where
  abbrev exact : Cell
  exact = cell_of (at o i) (at o q)

  signs-upto : (k : ℕ) → k ≤ axis_bits o → T (signs_right (weave (digits_of k i) (digits_of k q)) (softs_of o exact k))
  signs-upto zero h = tt
  signs-upto (suc k) h =
      let rest = signs_right (weave (digits_of k i) (digits_of k q)) (softs_of o exact k) in
      let I = sign_right (i / 2 ^ k % 2) (soft o k (at o i)) in
      let Q = sign_right (q / 2 ^ k % 2) (soft o k (at o q)) in
      and_i I (Q && rest) (axis_sign o i hi k h) (and_i Q rest (axis_sign o q hq k h) (signs-upto k (le_of_lt h)))

  cell_signs : T (signs_right (bits_of o i q) (values_of (soft_at o exact)))
  cell_signs = subst (λ (v : List Float). T (signs_right (bits_of o i q) v)) (sym (soft_values_at o exact)) (signs-upto (axis_bits o) (le_refl (axis_bits o)))

-- ---- what an answer that is a point says
size_order : (v : ℕ) → is_size v ≡ true → v ≡ 2 * axis_bits (order_of v)
size_order v h = go (eqb v 2) (eqb v 4) (eqb v 6) refl refl refl h
  where
    go : (a b c : Bool) → eqb v 2 ≡ a → eqb v 4 ≡ b → eqb v 6 ≡ c → (a || (b || c)) ≡ true → v ≡ 2 * axis_bits (cond a Qpsk (cond b Qam16 Qam64))
    go true b c p q r e = eqb-true v 2 p
    go false true c p q r e = eqb-true v 4 q
    go false false true p q r e = eqb-true v 6 r
    go false false false p q r e = absurd (subst T (sym e) tt)

record PointSays (bits : List ℕ) (x y : Float) : Type 0 where
  pub size : is_size (length bits) ≡ true
  pub are : are_bits bits ≡ true
  pub x_is : at (order_of (length bits)) (index (order_of (length bits)) 0 bits) ≡ x
  pub y_is : at (order_of (length bits)) (index (order_of (length bits)) 1 bits) ≡ y

point-says : (bits : List ℕ) (x y : Float) → map_answer bits ≡ Ok (cell_of x y) → PointSays bits x y
point-says bits x y h = go (is_size (length bits)) (are_bits bits) refl refl h
  where
    X : Float
    X = at (order_of (length bits)) (index (order_of (length bits)) 0 bits)

    Y : Float
    Y = at (order_of (length bits)) (index (order_of (length bits)) 1 bits)

    go : (s a : Bool) → is_size (length bits) ≡ s → are_bits bits ≡ a → mapped (first_of (not s gives LENGTH ∷ not a gives NOT_A_BIT ∷ [])) X Y ≡ Ok (cell_of x y) → PointSays bits x y
    go true true p q e = let same : cell_of X Y ≡ cell_of x y = cc in record { size = p; are = q; x_is = ap (λ (c : Cell). c.re) same; y_is = ap (λ (c : Cell). c.im) same }
    go true false p q e = absurd (cc)
    go false a p q e = absurd (cc)

-- ---- the theorem, from what mapping answers to the two demappings
point_returns : (bits : List ℕ) (x y : Float) → PointSays bits x y → GroupReturns (order_of (length bits)) bits
point_returns bits x y s = group_returns_lem (order_of (length bits)) bits (size_order (length bits) s.size) (bits_of_lem bits s.are)

-- every group of two, four or six bits has a point
pub group_has_point : (bits : List ℕ) → is_size (length bits) ≡ true → are_bits bits ≡ true
    → let o = order_of (length bits) in map_answer bits ≡ Ok (cell_of (at o (index o 0 bits)) (at o (index o 1 bits)))
group_has_point bits e h = rw (e, h) refl

demap_accepted : (v : ℕ) (out : List ℕ) → is_size v ≡ true → v ≤ length out → demap_no v out ≡ ACCEPTED
demap_accepted v out s h = rw (s, le-ltb (length out) v h) refl

pub hard_returns_bits : (bits : List ℕ) (x y : Float) → map_answer bits ≡ Ok (cell_of x y) → (old new : List ℕ) → length bits ≤ length old
    → Demapped (cell_of x y) (length bits) old new → (demap_no (length bits) old ≡ ACCEPTED) × (new ≡ written bits old)
hard_returns_bits bits x y h old new room d =
    let o = order_of (length bits) in
    let s = point-says bits x y h in
    let r = point_returns bits x y s in
    let no : demap_no (length bits) old ≡ ACCEPTED = demap_accepted (length bits) old s.size room in
    let w : Wrote o (cell_of x y) old new = subst (λ (n : Option Refusal). kept n (Wrote o (cell_of x y) old new) (new ≡ old)) no d in
    let i : w.i ≡ index o 0 bits = first-unique (distances o x) w.i (index o 0 bits) w.i_first (subst (λ (z : Float). First (distances o z) (index o 0 bits)) s.x_is (index-first o (index o 0 bits) r.i_in)) in
    let q : w.q ≡ index o 1 bits = first-unique (distances o y) w.q (index o 1 bits) w.q_first (subst (λ (z : Float). First (distances o z) (index o 1 bits)) s.y_is (index-first o (index o 1 bits) r.q_in)) in
    (no, w.output ∙ ap₂ (λ (a b : ℕ). written (bits_of o a b) old) i q ∙ ap (λ (l : List ℕ). written l old) r.bits_back)

pub soft_has_signs : (bits : List ℕ) (x y : Float) → map_answer bits ≡ Ok (cell_of x y) → T (signs_right bits (soft_values_of (soft_answer (cell_of x y) (length bits))))
soft_has_signs bits x y h =
    let o = order_of (length bits) in
    let s = point-says bits x y h in
    let r = point_returns bits x y s in
    let no : soft_no (length bits) ≡ ACCEPTED = ap (λ (t : Bool). first_of (not t gives LENGTH ∷ [])) s.size in
    let signs : T (signs_right bits (values_of (soft_at o (cell_of (at o (index o 0 bits)) (at o (index o 1 bits)))))) =
    subst (λ (l : List ℕ). T (signs_right l (values_of (soft_at o (cell_of (at o (index o 0 bits)) (at o (index o 1 bits))))))) r.bits_back
    (cell_signs o (index o 0 bits) (index o 1 bits) r.i_in r.q_in) in
    subst (λ (n : Option Refusal). T (signs_right bits (soft_values_of (answer_by n (soft_at o (cell_of x y)))))) (sym no)
    (subst (λ (c : Cell). T (signs_right bits (values_of (soft_at o c)))) (ap₂ cell_of s.x_is s.y_is) signs)

-- every group of two, four or six bits, of which there are 84
pub points_right : (bits : List ℕ) → is_size (length bits) ≡ true → are_bits bits ≡ true → PointRight bits
points_right bits e h =
    let o = order_of (length bits) in
    let x = at o (index o 0 bits) in
    let y = at o (index o 1 bits) in
    let p = group_has_point bits e h in
    record { x = x; y = y; point = p; hard = hard_returns_bits bits x y p; signs = soft_has_signs bits x y p }
