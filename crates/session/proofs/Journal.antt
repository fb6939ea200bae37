-- A journal in which w f32 are put at a, and a part of it from p on: one that ends at a grows by what was put, one that it doesn't reach stays; where only a
-- front is lent too. The latest place of a part is taken back. Assumes nothing.
use mathlib.Core.Path.{◌≡◌, sym, ap, ap₂, ◌∙◌}
use mathlib.Core.List.{List, ◌++◌, append_assoc}
use Prim.Native.Nat.{ℕ, ◌+◌, ◌-◌, ◌≤◌, min}
use native.Mathlib.Omega.{arith}
use lib.Ieee.{Float}
use lib.ListN.{length, take, drop, length-append, length-take, length-drop, take-append-drop}
use Rattle.std.proofs.lemmas.List.{drop-take}
use lib.Seq.{take-take, take-add, take_at, drop_at, drop-drop, length-take-le, take-append-le, drop-append-le, drop-append-add}

pub lent_length : (l lj : ℕ) (j : List Float) → length j ≡ lj → length (take l j) ≡ min l lj
lent_length l lj j e = length-take l j ∙ ap (min l) e

-- y put at a, where it is w long
abbrev pub put : ℕ → ℕ → List Float → List Float → List Float
put w a y j = take a j ++ (y ++ drop (a + w) j)

-- what is lent from the start comes back in the journal
pub put_lent : (w a l : ℕ) (y j : List Float) → a + w ≤ min l (length j) → put w a y (take l j) ++ drop l j ≡ put w a y j
put_lent w a l y j h =
    let i : a ≤ l = omega arith in
    let k : a + w ≤ length (take l j) = rw length-take h in
    let r : drop (a + w) (take l j) ++ drop l j ≡ drop (a + w) j =
    sym (drop-append-le (a + w) (take l j) (drop l j) k) ∙ ap (drop (a + w)) (take-append-drop l j)
    in
    rw (take-take a l j i, append_assoc (take a j) (y ++ drop (a + w) (take l j)) (drop l j), append_assoc y (drop (a + w) (take l j)) (drop l j), r)

-- a part that lies in what is lent
pub lent_part : (p n l : ℕ) (j : List Float) → p + n ≤ l → take n (drop p (take l j)) ≡ take n (drop p j)
lent_part p n l j h =
    let b : n ≤ l - p = omega arith in
    let k : l ≡ p + (l - p) = omega arith in
    ap (λ (x : ℕ). take n (drop p (take x j))) k ∙ ap (take n) (drop-take p (l - p) j) ∙ take-take n (l - p) (drop p j) b

module _ (w a : ℕ) (y j : List Float) (ly : length y ≡ w) (fits : a + w ≤ length j) where
  pub put-length : length (put w a y j) ≡ length j
  put-length = simp (length-append, length-take, length-drop, ly) (omega arith)

  -- the part from p to a has what was put behind it
  pub put_grows : (p n : ℕ) (c : List Float) → a ≡ p + n → take n (drop p j) ≡ c → take (n + w) (drop p (put w a y j)) ≡ c ++ y
  put_grows p n c e h =
      let r = drop (a + w) j in
      let la : length (take p j) ≡ p = length-take-le p j (omega arith) in
      let lc : length c ≡ n = ap length (sym h) ∙ length-take-le n (drop p j) (rw length-drop (omega arith)) in
      let lcy : length (c ++ y) ≡ n + w = simp (length-append, lc, ly) in
      let f : take a j ≡ take p j ++ c = ap (λ (k : ℕ). take k j) e ∙ take-add p n j ∙ ap (λ (z : List Float). take p j ++ z) h in
      ap (λ (z : List Float). take (n + w) (drop p (z ++ (y ++ r)))) f
      ∙ ap (λ (z : List Float). take (n + w) (drop p z)) (append_assoc (take p j) c (y ++ r))
      ∙ ap (take (n + w)) (drop_at (take p j) (c ++ (y ++ r)) p la ∙ sym (append_assoc c y r))
      ∙ take_at (c ++ y) r (n + w) lcy

  -- a part that ends at a or before
  pub put-behind : (p n : ℕ) → p + n ≤ a → take n (drop p (put w a y j)) ≡ take n (drop p j)
  put-behind p n h =
      let r = y ++ drop (a + w) j in
      let lp : length (take a j) ≡ a = length-take-le a j (omega arith) in
      let e : drop p (put w a y j) ≡ drop p (take a j) ++ r = drop-append-le p (take a j) r (omega arith) in
      let k : n ≤ length (drop p (take a j)) = rw (length-drop, lp) (omega arith) in
      ap (take n) e ∙ take-append-le n (drop p (take a j)) r k ∙ lent_part p n a j h

  -- a part that begins behind what was put
  pub put-before : (p : ℕ) → a + w ≤ p → drop p (put w a y j) ≡ drop p j
  put-before p h =
      let x = take a j ++ y in
      let lx : length x ≡ a + w = simp (length-append, length-take, ly) (omega arith) in
      let e : length x + (p - (a + w)) ≡ p = omega arith in
      let f : a + w + (p - (a + w)) ≡ p = omega arith in
      ap₂ (λ (k : ℕ) (z : List Float). drop k z) (sym e) (sym (append_assoc (take a j) y (drop (a + w) j)))
      ∙ drop-append-add x (drop (a + w) j) (p - (a + w))
      ∙ drop-drop (p - (a + w)) (a + w) j
      ∙ ap (λ (k : ℕ). drop k j) f

-- ---- the latest taken back

module _ (w : ℕ) (j c y : List Float) (a : ℕ) (e : take (a + w) j ≡ c ++ y) (l : length c ≡ a) where
  -- the rest is still there
  pub cells-kept : take a j ≡ c
  cells-kept =
      let k : a ≤ a + w = omega arith in
      sym (take-take a (a + w) j k) ∙ ap (take a) e ∙ take_at c y a l

  -- its place begins with it
  pub last-place : drop a j ≡ y ++ drop (a + w) j
  last-place =
      let r = drop (a + w) j in
      ap (drop a) (sym (take-append-drop (a + w) j) ∙ ap (λ (z : List Float). z ++ r) e ∙ append_assoc c y r) ∙ drop_at c (y ++ r) a l
