-- The textbook's argument for distance five: a pattern of at most two places is told by what it adds to the
-- remainder. So two codewords differ in at least five places, and at most one codeword is within distance two of a
-- word. Assumes nothing.
use mathlib.Core.Path.{◌≡◌, refl, sym, ap, ap₂, ◌∙◌}
use mathlib.Core.List.{List, [], ◌∷◌}
use Prim.Native.Nat.{ℕ, ◌<◌, ◌≤◌}
use native.Mathlib.Decide.{ℕ_discrete, dec_le}
use native.Mathlib.Omega.{arith}
use lib.Bits.{bit_xor, xor_zero_r, xor_comm}
use lib.ListN.{length, get_or}
use Rattle.ground.specs.Bits.{Bits}
use Rattle.ground.proofs.Xor.{xor_assoc}
use Rattle.bch.specs.Code.{remainder_of, Codeword, places, distance}
use Rattle.bch.specs.Search.{column, added, Rising, Syndromes}
use Rattle.bch.proofs.Xor.{xor-front, xor_zero_eq}
use Rattle.bch.proofs.Point.{point, point-apart, point_injective}
use Rattle.bch.proofs.Locator.{locator}
use Rattle.bch.proofs.Syndrome.{syndrome1_zero}
use Rattle.bch.proofs.Pattern.{single_syndrome1, added-lt, single_nonzero, pair-nonzero}
use Rattle.bch.proofs.Roots.{syndromes_of, single_root, pair_roots, only-root, roots_sum}
use Rattle.bch.proofs.Places.{rising_weak, places-rising, remainder_places, same_places_equal, no_places_equal}

-- ---- two patterns

module _ {s u v c : ℕ} (g : Syndromes s u v c) where
  roots_sum_any : (i j : ℕ) → i < 67 → j < 67 → (i ≡ j → ⊥) → locator u (point i) ≡ c → locator u (point j) ≡ c → bit_xor (point i) (point j) ≡ u
  roots_sum_any i j hi hj d e f = by (dec_le i j)
    where
      by : Dec (i ≤ j) → bit_xor (point i) (point j) ≡ u
      by (yes l) = roots_sum g i j (omega arith) hj e f
      by (no l) = xor_comm (point i) (point j) ∙ roots_sum g j i (omega arith) hi f e

  -- a root that is not the first of two is the second
  second_root_equal : (i j k : ℕ) → i < j → j < 67 → k < 67 → (i ≡ k → ⊥)
      → locator u (point i) ≡ c → locator u (point j) ≡ c → locator u (point k) ≡ c → k ≡ j
  second_root_equal i j k l h m d e f r =
      point_injective k j m h
      (sym (xor-front (point i) (point k)) ∙ ap (bit_xor (point i)) (roots_sum_any i k (omega arith) m d e r ∙ sym (roots_sum g i j l h e f)) ∙ xor-front (point i) (point j))

  roots_equal : (i j a b : ℕ) → i < j → j < 67 → a < b → b < 67
      → locator u (point i) ≡ c → locator u (point j) ≡ c → locator u (point a) ≡ c → locator u (point b) ≡ c → (i ≡ a) × (j ≡ b)
  roots_equal i j a b l h m n e f p q = by (ℕ_discrete i a) (ℕ_discrete i b)
    where
      by : Dec (i ≡ a) → Dec (i ≡ b) → (i ≡ a) × (j ≡ b)
      by (yes d) y = (d, sym (second_root_equal i j b l h n (λ z. absurd (omega arith)) e f q))
      by (no d) (yes y) = let z = second_root_equal i j a l h (omega arith) d e f p in absurd (omega arith)
      by (no d) (no y) = let z = second_root_equal i j a l h (omega arith) d e f p in let w = second_root_equal i j b l h n y e f q in absurd (omega arith)

single_not_pair : (i a b : ℕ) → a < b → b < 67 → added (i ∷ []) ≡ added (a ∷ b ∷ []) → ⊥
single_not_pair i a b l h e =
    let s : ℕ = added (a ∷ b ∷ []) in
    let g = syndromes_of s (added-lt (a ∷ b ∷ [])) (single_nonzero i s e) in
    let z = (single_root g i e).0 in
    let r = pair_roots g a b refl in
    point-apart a b l h (only-root g a r.0 z ∙ sym (only-root g b r.1 z))

-- the pattern of at most two places is told by what it adds
pub patterns_equal : (ps qs : List ℕ) → Rising 0 ps → Rising 0 qs → length ps ≤ 2 → length qs ≤ 2 → added ps ≡ added qs → ps ≡ qs
patterns_equal [] [] hp hq lp lq e = refl
patterns_equal [] (a ∷ []) hp hq lp lq e = absurd (single_nonzero a 0 (sym e) syndrome1_zero)
patterns_equal [] (a ∷ b ∷ []) hp hq lp lq e = absurd (pair-nonzero a b 0 hq.2.0 hq.2.1 (sym e) syndrome1_zero)
patterns_equal (i ∷ []) [] hp hq lp lq e = absurd (single_nonzero i 0 e syndrome1_zero)
patterns_equal (i ∷ []) (a ∷ []) hp hq lp lq e =
    ap (λ (x : ℕ). x ∷ []) (point_injective i a hp.1 hq.1 (single_syndrome1 i (added (a ∷ [])) e ∙ sym (single_syndrome1 a (added (a ∷ [])) refl)))
patterns_equal (i ∷ []) (a ∷ b ∷ []) hp hq lp lq e = absurd (single_not_pair i a b hq.2.0 hq.2.1 e)
patterns_equal (i ∷ j ∷ []) [] hp hq lp lq e = absurd (pair-nonzero i j 0 hp.2.0 hp.2.1 e syndrome1_zero)
patterns_equal (i ∷ j ∷ []) (a ∷ []) hp hq lp lq e = absurd (single_not_pair a i j hp.2.0 hp.2.1 (sym e))
patterns_equal (i ∷ j ∷ []) (a ∷ b ∷ []) hp hq lp lq e =
    let s : ℕ = added (a ∷ b ∷ []) in
    let g = syndromes_of s (added-lt (a ∷ b ∷ [])) (pair-nonzero a b s hq.2.0 hq.2.1 refl) in
    let r = pair_roots g i j e in
    let t = pair_roots g a b refl in
    let d = roots_equal g i j a b hp.2.0 hp.2.1 hq.2.0 hq.2.1 r.0 r.1 t.0 t.1 in
    ap₂ (λ (x y : ℕ). x ∷ y ∷ []) d.0 d.1
patterns_equal (i ∷ j ∷ k ∷ ps) qs hp hq lp lq e = absurd (omega arith)
patterns_equal [] (a ∷ b ∷ d ∷ qs) hp hq lp lq e = absurd (omega arith)
patterns_equal (i ∷ []) (a ∷ b ∷ d ∷ qs) hp hq lp lq e = absurd (omega arith)
patterns_equal (i ∷ j ∷ []) (a ∷ b ∷ d ∷ qs) hp hq lp lq e = absurd (omega arith)

-- ---- two codewords

-- of a codeword, the places at which it differs from w add up to w's remainder
pub places_add_remainder : (c w : List ℕ) → Codeword c → Bits w → length w ≡ 67 → added (places 0 c w) ≡ remainder_of 0 w
places_add_remainder c w hc hb hl =
    sym (xor_zero_eq (remainder_of 0 w) (added (places 0 c w))
    (sym (remainder_places 0 0 c w hc.bits hb (hc.size ∙ sym hl) (let e = hc.size in omega arith) (omega arith)) ∙ hc.divided))

pub unique : (c d w : List ℕ) → Codeword c → Codeword d → Bits w → length w ≡ 67 → distance c w ≤ 2 → distance d w ≤ 2 → c ≡ d
unique c d w hc hd hb hl nc nd =
    let e = hc.size in
    let f = hd.size in
    same_places_equal 0 c d w hc.bits hd.bits hb (omega arith) (omega arith) (omega arith)
    (patterns_equal (places 0 c w) (places 0 d w) (places-rising 0 c w (omega arith)) (places-rising 0 d w (omega arith)) nc nd
    (places_add_remainder c w hc hb hl ∙ sym (places_add_remainder d w hd hb hl)))

pattern-halves : (a b : ℕ) (qs : List ℕ) → Rising 0 (a ∷ b ∷ qs) → length qs ≤ 2 → added (a ∷ b ∷ qs) ≡ 0 → a ∷ b ∷ [] ≡ qs
pattern-halves a b qs hi hl e =
    patterns_equal (a ∷ b ∷ []) qs (hi.0, hi.1, (hi.2.0, hi.2.1, tt)) (rising_weak qs (omega arith) hi.2.2) (omega arith) hl
    (ap (bit_xor (column a)) (xor_zero_r (column b)) ∙ xor_zero_eq (bit_xor (column a) (column b)) (added qs) (xor_assoc (column a) (column b) (added qs) ∙ e))

above-four : (n : ℕ) → (n ≤ 4 → ⊥) → 5 ≤ n
above-four n h = by (dec_le 5 n)
  where
    by : Dec (5 ≤ n) → 5 ≤ n
    by (yes t) = t
    by (no f) = absurd (h (omega arith))

-- at most four places that add nothing are none
four-places-none : (ps : List ℕ) → Rising 0 ps → length ps ≤ 4 → added ps ≡ 0 → ps ≡ []
four-places-none [] hi hl e = refl
four-places-none (a ∷ []) hi hl e = patterns_equal (a ∷ []) [] hi tt (omega arith) (omega arith) e
four-places-none (a ∷ b ∷ []) hi hl e = patterns_equal (a ∷ b ∷ []) [] hi tt (omega arith) (omega arith) e
four-places-none (a ∷ b ∷ c ∷ []) hi hl e =
    let f : a ∷ b ∷ [] ≡ c ∷ [] = pattern-halves a b (c ∷ []) hi (omega arith) e in
    let g : 2 ≡ length (c ∷ []) = ap length f in
    absurd (omega arith)
four-places-none (a ∷ b ∷ c ∷ d ∷ []) hi hl e =
    let f : a ∷ b ∷ [] ≡ c ∷ d ∷ [] = pattern-halves a b (c ∷ d ∷ []) hi (omega arith) e in
    let g : a ≡ c = ap (λ (l : List ℕ). get_or l 0 0) f in
    absurd (omega arith)
four-places-none (a ∷ b ∷ c ∷ d ∷ f ∷ ps) hi hl e = absurd (omega arith)

pub distance_five : (c d : List ℕ) → Codeword c → Codeword d → (c ≡ d → ⊥) → 5 ≤ distance c d
distance_five c d hc hd ne =
    let e = hc.size in
    let f = hd.size in
    above-four (distance c d)
    (λ h. ne (no_places_equal 0 c d hc.bits hd.bits (omega arith) (omega arith)
    (four-places-none (places 0 c d) (places-rising 0 c d (omega arith)) h (places_add_remainder c d hc hd.bits hd.size ∙ hd.divided))))
