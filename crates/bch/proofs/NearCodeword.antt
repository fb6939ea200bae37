-- The lists that differ from some bits in at most k places are those within that distance. The codeword that is
-- looked for among them is the one within distance two, or there is none. Assumes nothing.
use mathlib.Core.Path.{◌≡◌, refl, sym, ap, ap₂, ◌∙◌, subst}
use mathlib.Core.Logic.{⊎_elim, ◌⊎◌, inl, inr}
use mathlib.Core.Bool.{Bool, true, false, ◌&&◌, cond, and-eq-true_iff}
use mathlib.Core.List.Memᴰ
use mathlib.Core.List.{List, [], ◌∷◌, map, Memᴰ}
use Prim.Native.Nat.{ℕ, zero, suc, ◌+◌, ◌-◌, ◌<◌, ◌≤◌}
use native.Mathlib.Omega.{arith}
use lib.Dec.{eqb}
use lib.ListN.{length}
use borrow.Author.Tests.{eqb-true, eqb-false, eq-eqb}
use Rattle.std.specs.Prelude.{Some, None}
use Rattle.ground.specs.Bits.{Bits, are_bits}
use Rattle.ground.proofs.Bits.{bits_of_lem, are-bits}
use Rattle.bch.specs.Code.{remainder_of, Codeword, places, distance, Lone}
use Rattle.bch.specs.NearCodeword.{neighbours, is_codeword, Near, first_codeword, near_of}
use Rattle.bch.proofs.Places.{placed, placed_at_most, places_self, no_places_equal}
use Rattle.bch.proofs.Distance.{unique}

module _ (k j b : ℕ) (w c : List ℕ) where
  -- a list with its first bit kept, or flipped
  kept-distance : ((v : List ℕ) → Memᴰ v (neighbours (suc k) w) → length (places (suc j) v w) ≤ suc k)
      → Memᴰ c (map (λ v. b ∷ v) (neighbours (suc k) w)) → length (places j c (b ∷ w)) ≤ suc k
  kept-distance h m =
      let t = Memᴰ.of_map (λ v. b ∷ v) (neighbours (suc k) w) m in
      subst (λ (l : List ℕ). length (places j l (b ∷ w)) ≤ suc k) t.2
      (subst (λ (x : Bool). length (placed j x (places (suc j) t.0 w)) ≤ suc k) (sym (eq-eqb b b refl)) (h t.0 t.1))

  flipped_distance : ((v : List ℕ) → Memᴰ v (neighbours k w) → length (places (suc j) v w) ≤ k)
      → Memᴰ c (map (λ v. (1 - b) ∷ v) (neighbours k w)) → length (places j c (b ∷ w)) ≤ suc k
  flipped_distance h m =
      let t = Memᴰ.of_map (λ v. (1 - b) ∷ v) (neighbours k w) m in
      subst (λ (l : List ℕ). length (places j l (b ∷ w)) ≤ suc k) t.2
      (omega (arith, placed_at_most j (eqb (1 - b) b) (places (suc j) t.0 w), h t.0 t.1))

pub neighbours-near : (k j : ℕ) (w c : List ℕ) → Memᴰ c (neighbours k w) → length (places j c w) ≤ k
unfolding neighbours
neighbours-near zero j w c m =
    subst (λ (l : List ℕ). length (places j l w) ≤ 0) (sym (Memᴰ.eq_of_singleton m)) (omega (arith, ap length (places_self j w)))
neighbours-near (suc k) j [] c m = subst (λ (l : List ℕ). length (places j l []) ≤ suc k) (sym (Memᴰ.eq_of_singleton m)) (omega arith)
neighbours-near (suc k) j (b ∷ w) c m =
    ⊎_elim (kept-distance k j b w c (λ v n. neighbours-near (suc k) (suc j) w v n)) (flipped_distance k j b w c (λ v n. neighbours-near k (suc j) w v n))
    (Memᴰ.append_cases (map (λ v. b ∷ v) (neighbours (suc k) w)) m)

other-bit : (x b : ℕ) → x < 2 → b < 2 → (x ≡ b → ⊥) → x ≡ 1 - b
other-bit x b hx hb ne = omega arith

module _ (k j x b : ℕ) (w c ps : List ℕ) (hx : x < 2) (hb : b < 2) where
  next_neighbour : (t : Bool) → eqb x b ≡ t → length (placed j t ps) ≤ suc k → (length ps ≤ suc k → Memᴰ c (neighbours (suc k) w))
      → (length ps ≤ k → Memᴰ c (neighbours k w)) → Memᴰ (x ∷ c) (neighbours (suc k) (b ∷ w))
  unfolding neighbours
  next_neighbour true e l f g =
      Memᴰ.cast (ap (λ (y : ℕ). y ∷ c) (eqb-true x b e))
      (Memᴰ.append_left (map (λ v. (1 - b) ∷ v) (neighbours k w)) (Memᴰ.map (λ v. b ∷ v) (f l)))
  next_neighbour false e l f g =
      Memᴰ.cast (ap (λ (y : ℕ). y ∷ c) (other-bit x b hx hb (eqb-false x b e)))
      (Memᴰ.append_right (map (λ v. b ∷ v) (neighbours (suc k) w)) (Memᴰ.map (λ v. (1 - b) ∷ v) (g (omega arith))))

no-length-empty : (ps : List ℕ) → length ps ≤ 0 → ps ≡ []
no-length-empty [] h = refl
no-length-empty (p ∷ ps) h = absurd (omega arith)

pub near-neighbours : (k j : ℕ) (w c : List ℕ) → Bits c → Bits w → length c ≡ length w → j + length w ≤ 67 → length (places j c w) ≤ k
    → Memᴰ c (neighbours k w)
unfolding neighbours
near-neighbours zero j w c hc hw l m h = Memᴰ.head (no_places_equal j c w hc hw l m (no-length-empty (places j c w) h))
near-neighbours (suc k) j [] [] hc hw l m h = Memᴰ.head refl
near-neighbours (suc k) j [] (x ∷ c) hc hw l m h = absurd (omega arith)
near-neighbours (suc k) j (b ∷ w) [] hc hw l m h = absurd (omega arith)
near-neighbours (suc k) j (b ∷ w) (x ∷ c) hc hw l m h =
    next_neighbour k j x b w c (places (suc j) c w) hc.0 hw.0 (eqb x b) refl h
    (λ n. near-neighbours (suc k) (suc j) w c hc.1 hw.1 (omega arith) (omega arith) n)
    (λ n. near-neighbours k (suc j) w c hc.1 hw.1 (omega arith) (omega arith) n)

-- ---- the test of a codeword, and the first codeword of a list

pub codeword_by_test : (w : List ℕ) → is_codeword w ≡ true → Codeword w
unfolding is_codeword
codeword_by_test w e =
    let s = (and-eq-true_iff (eqb (length w) 67) (are_bits w && eqb (remainder_of 0 w) 0)).0 e in
    let t = (and-eq-true_iff (are_bits w) (eqb (remainder_of 0 w) 0)).0 s.1 in
    record { size = eqb-true (length w) 67 s.0; bits = bits_of_lem w t.0; divided = eqb-true (remainder_of 0 w) 0 t.1 }

pub test_of_codeword : (w : List ℕ) → Codeword w → is_codeword w ≡ true
unfolding is_codeword
test_of_codeword w h = ap₂ ◌&&◌ (eq-eqb (length w) 67 h.size) (ap₂ ◌&&◌ (are-bits w h.bits) (eq-eqb (remainder_of 0 w) 0 h.divided))

module _ (v c : List ℕ) (ws : List (List ℕ)) where
  first-found-next : (t : Bool) → is_codeword v ≡ t → cond t (Some v) (first_codeword ws) ≡ Some c
      → (first_codeword ws ≡ Some c → Memᴰ c ws × Codeword c) → Memᴰ c (v ∷ ws) × Codeword c
  first-found-next true e f h = let g : v ≡ c = cc in (Memᴰ.head (sym g), subst (λ (l : List ℕ). Codeword l) g (codeword_by_test v e))
  first-found-next false e f h = (Memᴰ.tail (h f).0, (h f).1)

  first-none-next : (t : Bool) → is_codeword v ≡ t → cond t (Some v) (first_codeword ws) ≡ None → Codeword c
      → (first_codeword ws ≡ None → Memᴰ c ws → ⊥) → (c ≡ v) ⊎ Memᴰ c ws → ⊥
  first-none-next true e f hc h m = let z : ◌≡◌ {A = ℕ} 0 1 = cc in omega arith
  first-none-next false e f hc h (inl g) =
      let k : is_codeword v ≡ true = ap is_codeword (sym g) ∙ test_of_codeword c hc in
      let z : ◌≡◌ {A = ℕ} 0 1 = cc in omega arith
  first-none-next false e f hc h (inr m) = h f m

first_found : (ws : List (List ℕ)) (c : List ℕ) → first_codeword ws ≡ Some c → Memᴰ c ws × Codeword c
unfolding first_codeword
first_found [] c e = let z : ◌≡◌ {A = ℕ} 0 1 = cc in absurd (omega arith)
first_found (v ∷ ws) c e = first-found-next v c ws (is_codeword v) refl e (first_found ws c)

first-none : (ws : List (List ℕ)) (c : List ℕ) → Codeword c → first_codeword ws ≡ None → Memᴰ c ws → ⊥
unfolding first_codeword
first-none [] c hc e m = Memᴰ.not-nil m
first-none (v ∷ ws) c hc e m = first-none-next v c ws (is_codeword v) refl e hc (first-none ws c hc) (Memᴰ.cases_cons m)

-- ---- the codeword within distance two

pub near-found : (w c : List ℕ) → near_of w ≡ Some c → Codeword c × (distance c w ≤ 2)
unfolding near_of
near-found w c e = let t = first_found (neighbours 2 w) c e in (t.1, neighbours-near 2 0 w c t.0)

lone_none_by : (w : List ℕ) → Lone w → (n : Near) → near_of w ≡ n → near_of w ≡ None
lone_none_by w h (Some c) e = let t = near-found w c e in absurd (h c t.0 t.1)
lone_none_by w h None e = e

pub lone_none : (w : List ℕ) → Lone w → near_of w ≡ None
lone_none w h = lone_none_by w h (near_of w) refl

module _ (w : List ℕ) (hb : Bits w) (hl : length w ≡ 67) where
  pub near_none : near_of w ≡ None → Lone w
  unfolding near_of
  near_none e c hc hd = first-none (neighbours 2 w) c hc e (near-neighbours 2 0 w c hc.bits hb (hc.size ∙ sym hl) (omega arith) hd)

  near_is_by : (c : List ℕ) → Codeword c → distance c w ≤ 2 → (n : Near) → near_of w ≡ n → near_of w ≡ Some c
  near_is_by c hc hd (Some d) e =
      let t = near-found w d e in e ∙ ap Some (unique d c w t.0 hc hb hl t.1 hd)
  near_is_by c hc hd None e = absurd (near_none e c hc hd)

  -- a codeword within distance two is the one that is found
  pub near_is : (c : List ℕ) → Codeword c → distance c w ≤ 2 → near_of w ≡ Some c
  near_is c hc hd = near_is_by c hc hd (near_of w) refl
