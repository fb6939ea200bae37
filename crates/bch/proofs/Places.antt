-- The places at which two words differ: they rise, what they add to the remainder, and that they tell one word from
-- the other. Assumes nothing.
use mathlib.Core.Path.{◌≡◌, refl, sym, ap, ap₂, ◌∙◌, subst}
use mathlib.Core.Bool.{Bool, true, false, cond}
use mathlib.Core.List.{List, [], ◌∷◌}
use Prim.Native.Nat.{ℕ, suc, ◌+◌, ◌-◌, ◌^◌, ◌<◌, ◌≤◌}
use native.Mathlib.Omega.{arith}
use lib.Bits.{bit_xor, xor_zero_r, xor_comm}
use lib.Dec.{eqb}
use lib.ListN.{length, replicate}
use borrow.Author.Tests.{eqb-true, eqb-false, eq-eqb}
use Rattle.ground.specs.Bits.{Bits}
use Rattle.ground.proofs.Xor.{bit_cases, xor_assoc}
use Rattle.bch.specs.Polynomial.{division_step}
use Rattle.bch.specs.Code.{step, remainder_of, places}
use Rattle.bch.specs.Search.{power, column, added, Rising}
use Rattle.bch.proofs.Generator.{step-lt, step-xor, remainder_xor, power_remainder}

-- the places of the rest, and k where the bits there differ
abbrev pub placed : ℕ → Bool → List ℕ → List ℕ
placed k b ps = cond b ps (k ∷ ps)

pub placed_at_most : (k : ℕ) (b : Bool) (ps : List ℕ) → length (placed k b ps) ≤ suc (length ps)
placed_at_most k true ps = omega arith
placed_at_most k false ps = omega arith

pub places_self : (k : ℕ) (ys : List ℕ) → places k ys ys ≡ []
places_self k [] = refl
places_self k (y ∷ ys) = ap₂ (placed k) (eq-eqb y y refl) (places_self (suc k) ys)

pub rising_weak : {k m : ℕ} (ps : List ℕ) → k ≤ m → Rising m ps → Rising k ps
rising_weak [] h t = tt
rising_weak (i ∷ ps) h t = (omega arith, t.1, t.2)

placed-rising : (b : Bool) (k : ℕ) (ps : List ℕ) → k < 67 → Rising (suc k) ps → Rising k (placed k b ps)
placed-rising true k ps h t = rising_weak ps (omega arith) t
placed-rising false k ps h t = (omega arith, h, t)

pub places-rising : (k : ℕ) (xs ys : List ℕ) → k + length xs ≤ 67 → Rising k (places k xs ys)
places-rising k [] ys h = tt
places-rising k (x ∷ xs) [] h = tt
places-rising k (x ∷ xs) (y ∷ ys) h =
    placed-rising (eqb x y) k (places (suc k) xs ys) (omega arith) (places-rising (suc k) xs ys (omega arith))

-- ---- what the places add to the remainder

bit-other : (x y : ℕ) → x < 2 → y < 2 → (x ≡ y → ⊥) → x ≡ bit_xor y 1
bit-other x y hx hy d =
    bit_cases (λ (a : ℕ). (a ≡ y → ⊥) → a ≡ bit_xor y 1)
    (bit_cases (λ (b : ℕ). (0 ≡ b → ⊥) → 0 ≡ bit_xor b 1) (λ n. absurd (n refl)) (λ n. refl) y hy)
    (bit_cases (λ (b : ℕ). (1 ≡ b → ⊥) → 1 ≡ bit_xor b 1) (λ n. refl) (λ n. absurd (n refl)) y hy)
    x hx d

step-one : step 0 1 ≡ 1
unfolding division_step
step-one = refl

step_other : (r y : ℕ) → r < 2 ^ 14 → y < 2 → step r (bit_xor y 1) ≡ bit_xor (step r y) 1
step_other r y hr hy =
    ap (λ (a : ℕ). step a (bit_xor y 1)) (sym (xor_zero_r r))
    ∙ step-xor r 0 y 1 hr (omega arith) hy (omega arith)
    ∙ ap (bit_xor (step r y)) step-one

column_remainder : (k n : ℕ) → k + suc n ≡ 67 → column k ≡ remainder_of 1 (replicate n 0)
unfolding column
column_remainder k n h = let e : 66 - k ≡ n = omega arith in ap power e ∙ power_remainder n

remainder_place : (k r x y : ℕ) (xs ys ps : List ℕ) (b : Bool) → eqb x y ≡ b → x < 2 → y < 2 → r < 2 ^ 14 → Bits xs → k + suc (length xs) ≡ 67
    → remainder_of (step r y) xs ≡ bit_xor (remainder_of (step r y) ys) (added ps)
    → remainder_of (step r x) xs ≡ bit_xor (remainder_of (step r y) ys) (added (placed k b ps))
remainder_place k r x y xs ys ps true e hx hy hr hb hk ih = ap (λ (a : ℕ). remainder_of (step r a) xs) (eqb-true x y e) ∙ ih
remainder_place k r x y xs ys ps false e hx hy hr hb hk ih =
    ap (λ (a : ℕ). remainder_of (step r a) xs) (bit-other x y hx hy (eqb-false x y e))
    ∙ ap (λ (a : ℕ). remainder_of a xs) (step_other r y hr hy)
    ∙ remainder_xor (step r y) 1 xs (step-lt r y hr hy) (omega arith) hb
    ∙ ap₂ bit_xor ih (sym (column_remainder k (length xs) hk))
    ∙ xor_assoc (remainder_of (step r y) ys) (added ps) (column k)
    ∙ ap (bit_xor (remainder_of (step r y) ys)) (xor_comm (added ps) (column k))

pub remainder_places : (k r : ℕ) (xs ys : List ℕ) → Bits xs → Bits ys → length xs ≡ length ys → k + length xs ≡ 67 → r < 2 ^ 14
    → remainder_of r xs ≡ bit_xor (remainder_of r ys) (added (places k xs ys))
remainder_places k r [] [] hx hy hl hk hr = sym (xor_zero_r r)
remainder_places k r [] (y ∷ ys) hx hy hl hk hr = absurd (omega arith)
remainder_places k r (x ∷ xs) [] hx hy hl hk hr = absurd (omega arith)
remainder_places k r (x ∷ xs) (y ∷ ys) hx hy hl hk hr =
    remainder_place k r x y xs ys (places (suc k) xs ys) (eqb x y) refl hx.0 hy.0 hr hx.1 hk
    (remainder_places (suc k) (step r y) xs ys hx.1 hy.1 (omega arith) (omega arith) (step-lt r y hr hy.0))

-- ---- a word is told by the places at which it differs from another

same-places-next : (k x y z : ℕ) (ps qs : List ℕ) (b c : Bool) → eqb x z ≡ b → eqb y z ≡ c → x < 2 → y < 2 → z < 2
    → Rising (suc k) ps → Rising (suc k) qs → placed k b ps ≡ placed k c qs → (x ≡ y) × (ps ≡ qs)
same-places-next k x y z ps qs true true e f hx hy hz ip iq g =
    (eqb-true x z e ∙ sym (eqb-true y z f), g)
same-places-next k x y z ps qs true false e f hx hy hz ip iq g =
    let h : Rising (suc k) (k ∷ qs) = subst (λ (l : List ℕ). Rising (suc k) l) g ip in absurd (omega arith)
same-places-next k x y z ps qs false true e f hx hy hz ip iq g =
    let h : Rising (suc k) (k ∷ ps) = subst (λ (l : List ℕ). Rising (suc k) l) (sym g) iq in absurd (omega arith)
same-places-next k x y z ps qs false false e f hx hy hz ip iq g =
    (omega (arith, eqb-false x z e, eqb-false y z f), cc)

pub same_places_equal : (k : ℕ) (xs ys zs : List ℕ) → Bits xs → Bits ys → Bits zs → length xs ≡ length zs → length ys ≡ length zs
    → k + length zs ≤ 67 → places k xs zs ≡ places k ys zs → xs ≡ ys
same_places_equal k [] [] zs hx hy hz lx ly lk e = refl
same_places_equal k [] (y ∷ ys) zs hx hy hz lx ly lk e = absurd (omega arith)
same_places_equal k (x ∷ xs) [] zs hx hy hz lx ly lk e = absurd (omega arith)
same_places_equal k (x ∷ xs) (y ∷ ys) [] hx hy hz lx ly lk e = absurd (omega arith)
same_places_equal k (x ∷ xs) (y ∷ ys) (z ∷ zs) hx hy hz lx ly lk e =
    let s = same-places-next k x y z (places (suc k) xs zs) (places (suc k) ys zs) (eqb x z) (eqb y z) refl refl hx.0 hy.0 hz.0
    (places-rising (suc k) xs zs (omega arith)) (places-rising (suc k) ys zs (omega arith)) e in
    ap₂ (λ (a : ℕ) (l : List ℕ). a ∷ l) s.0
    (same_places_equal (suc k) xs ys zs hx.1 hy.1 hz.1 (omega arith) (omega arith) (omega arith) s.1)

-- two lists that differ in no place are equal
pub no_places_equal : (k : ℕ) (xs ys : List ℕ) → Bits xs → Bits ys → length xs ≡ length ys → k + length ys ≤ 67 → places k xs ys ≡ [] → xs ≡ ys
no_places_equal k xs ys hx hy hl lk e = same_places_equal k xs ys ys hx hy hy hl refl lk (e ∙ sym (places_self k ys))
