-- Document 02, E1: the mended places that the decoder tells are exactly those at which the codeword and the received
-- bits differ, and the answer tells each list of at most two places from every other. Assumes nothing.
use mathlib.Core.Path.{◌≡◌, refl, sym, subst}
use mathlib.Core.Logic.{◌↔◌, ⊎_elim}
use mathlib.Core.Bool.{Bool, true, false, true≢false}
use mathlib.Core.List.Memᴰ
use mathlib.Core.List.{List, [], ◌∷◌, Memᴰ}
use Prim.Native.Nat.{ℕ, zero, suc, ◌+◌, ◌<◌, ◌≤◌}
use native.Mathlib.Nat.{add-zero}
use native.Mathlib.Omega.{arith}
use lib.Dec.{eqb}
use lib.ListN.{length, get_or}
use borrow.Author.Tests.{eqb-false, ne_eqb}
use Rattle.bch.specs.Code.{places}
use Rattle.bch.specs.Promise.{mended_at, places_in}
use Rattle.bch.proofs.Places.{placed}

-- ---- the places at which two words differ

-- k before places behind it, where the items there differ
module _ (k : ℕ) (ps : List ℕ) where
  not-before : (b : Bool) (i : ℕ) → i < k → (Memᴰ i ps → ⊥) → Memᴰ i (placed k b ps) → ⊥
  not-before true i h n m = n m
  not-before false i h n m = ⊎_elim (λ (e : i ≡ k). omega arith) n (Memᴰ.cases_cons m)

  here : (b : Bool) → (Memᴰ k ps → ⊥) → Memᴰ k (placed k b ps) ↔ (b ≡ false)
  here true n = (λ m. absurd (n m), λ e. absurd (true≢false e))
  here false n = (λ m. refl, λ e. Memᴰ.head refl)

  behind : (b : Bool) (i : ℕ) → k < i → Memᴰ i (placed k b ps) ↔ Memᴰ i ps
  behind true i h = (λ m. m, λ m. m)
  behind false i h = (λ m. ⊎_elim (λ (e : i ≡ k). absurd (omega arith)) (λ n. n) (Memᴰ.cases_cons m), λ m. Memᴰ.tail m)

none_before : (k : ℕ) (xs ys : List ℕ) (i : ℕ) → i < k → Memᴰ i (places k xs ys) → ⊥
none_before k [] ys i h m = Memᴰ.not-nil m
none_before k (x ∷ xs) [] i h m = Memᴰ.not-nil m
none_before k (x ∷ xs) (y ∷ ys) i h m =
    not-before k (places (suc k) xs ys) (eqb x y) i h (none_before (suc k) xs ys i (omega arith)) m

-- the items at the place i are there, and differ
abbrev pub Differ : List ℕ → List ℕ → ℕ → Type 0
Differ xs ys i = (i < length ys) × (get_or xs i 0 ≡ get_or ys i 0 → ⊥)

pub place_differs : (k : ℕ) (xs ys : List ℕ) → length xs ≡ length ys → (i : ℕ) → Memᴰ (k + i) (places k xs ys) ↔ Differ xs ys i
place_differs k [] [] l i = (λ m. absurd (Memᴰ.not-nil m), λ d. absurd (omega (arith, d.0)))
place_differs k [] (y ∷ ys) l i = absurd (omega arith)
place_differs k (x ∷ xs) [] l i = absurd (omega arith)
place_differs k (x ∷ xs) (y ∷ ys) l zero =
    let ps = places (suc k) xs ys in
    let p = here k ps (eqb x y) (none_before (suc k) xs ys k (omega arith)) in
    let e : k + 0 ≡ k = add-zero k in (
      λ m. (omega arith, eqb-false x y (p.0 (subst (λ (n : ℕ). Memᴰ n (placed k (eqb x y) ps)) e m))),
      λ d. subst (λ (n : ℕ). Memᴰ n (placed k (eqb x y) ps)) (sym e) (p.1 (ne_eqb x y d.1)),
    )
place_differs k (x ∷ xs) (y ∷ ys) l (suc i) =
    let ps = places (suc k) xs ys in
    let p = behind k ps (eqb x y) (k + suc i) (omega arith) in
    let q = place_differs (suc k) xs ys (omega arith) i in
    let e : k + suc i ≡ suc k + i = omega arith in (
      λ m. let d = q.0 (subst (λ (n : ℕ). Memᴰ n ps) e (p.0 m)) in (omega (arith, d.0), d.1),
      λ d. p.1 (subst (λ (n : ℕ). Memᴰ n ps) (sym e) (q.1 (omega (arith, d.0), d.1))),
    )

-- the decoder's places of a codeword c and the received bits w: i is told exactly where they differ at i
pub mended_exactly : (c w : List ℕ) → length c ≡ length w → (i : ℕ) → Memᴰ i (places 0 c w) ↔ Differ c w i
mended_exactly c w l i =
    let e : 0 + i ≡ i = omega arith in subst (λ (n : ℕ). Memᴰ n (places 0 c w) ↔ Differ c w i) e (place_differs 0 c w l i)

-- ---- the answer tells the places

pub mended-told : (ps : List ℕ) → length ps ≤ 2 → places_in (mended_at ps) ≡ ps
mended-told [] h = refl
mended-told (p ∷ []) h = refl
mended-told (p ∷ q ∷ []) h = refl
mended-told (p ∷ q ∷ r ∷ ps) h = absurd (omega arith)
