-- Changes tried one after another: long division says whether the parity checks, and a codeword within distance two
-- of the bits is these, or one change of them, or two. So where none of those is a codeword, no codeword is that near.
-- Assumes nothing.
use mathlib.Core.Path.{◌≡◌, refl, sym, ap, ap₂, ◌∙◌, subst}
use mathlib.Core.Bool.{Bool, true, false, ◌&&◌}
use mathlib.Core.List.{List, [], ◌∷◌}
use Prim.Native.Nat.{ℕ, ◌+◌, ◌*◌, ◌/◌, ◌^◌, ◌<◌, ◌≤◌}
use native.Mathlib.Decide.{dec_lt}
use native.Mathlib.Numerals.{add-one}
use native.Mathlib.Omega.{arith}
use lib.Bits.{bit_xor, xor_zero_r}
use lib.Dec.{eqb}
use Rattle.std.specs.Prelude.{Some}
use lib.ListN.{length, drop, get_or, drop_of_length-le}
use lib.Seq.{drop-cons}
use borrow.Author.Tests.{eq-eqb}
use Rattle.ground.specs.Bits.{Bits, are_bits}
use Rattle.ground.proofs.Bits.{bits_of_lem, are-bits}
use Rattle.bch.specs.Polynomial.{division_step}
use Rattle.bch.specs.Code.{GENERATOR, step, remainder_of, Codeword, places, distance}
use Rattle.bch.specs.NearCodeword.{is_codeword}
use Rattle.bch.specs.Search.{Rising, flip, mended, named, PastChanges, NextChange}
use Rattle.bch.specs.declared.search.Found.{Found}
use Rattle.bch.specs.declared.search.Found.TheVariants.{Clean, One, Two}
use Rattle.bch.proofs.Places.{places-rising, same_places_equal}
use Rattle.bch.proofs.Flipped.{flip-length, flip_bits, mended-length, mended-bits, mended-places}
use Rattle.bch.proofs.NearCodeword.{codeword_by_test, test_of_codeword}

-- ---- long division, bit after bit

module _ (r b : ℕ) where
  step_by_lem : (q : ℕ) → (r * 2 + b) / 2 ^ 14 ≡ q → bit_xor (r * 2 + b) (q * GENERATOR) ≡ step r b
  unfolding division_step
  step_by_lem q e = ap (λ (x : ℕ). bit_xor (r * 2 + b) (x * GENERATOR)) (sym e)

  -- below the degree the next bit is brought down, and from it on the generator is taken off
  pub step-below : r * 2 + b < 2 ^ 14 → r * 2 + b ≡ step r b
  step-below h = sym (xor_zero_r (r * 2 + b)) ∙ step_by_lem 0 (omega arith)

  pub step_reached : r < 2 ^ 14 → b < 2 → 2 ^ 14 ≤ r * 2 + b → bit_xor (r * 2 + b) GENERATOR ≡ step r b
  step_reached hr hb h = step_by_lem 1 (omega arith)

module _ (w : List ℕ) where
  pub divided-next : (r q i : ℕ) → i < length w → q ≡ step r (get_or w i 0) → remainder_of r (drop i w) ≡ remainder_of 0 w
      → remainder_of q (drop (i + 1) w) ≡ remainder_of 0 w
  divided-next r q i h e f =
      ap₂ (λ (x n : ℕ). remainder_of x (drop n w)) e (add-one i) ∙ ap (remainder_of r) (sym (drop-cons w i 0 h)) ∙ f

  pub divided-whole : (r i : ℕ) → length w ≤ i → remainder_of r (drop i w) ≡ remainder_of 0 w → r ≡ remainder_of 0 w
  divided-whole r i h e = ap (remainder_of r) (sym (drop_of_length-le w h)) ∙ e

  pub parity-tested : (r : ℕ) → length w ≡ 67 → Bits w → r ≡ remainder_of 0 w → eqb r 0 ≡ is_codeword w
  unfolding is_codeword
  parity-tested r l h e =
      sym (ap₂ (λ (x y : Bool). x && (y && eqb (remainder_of 0 w) 0)) (eq-eqb (length w) 67 l) (are-bits w h) ∙ ap (λ (x : ℕ). eqb x 0) (sym e))

-- ---- the next change that makes a codeword

pub not-codeword : (w : List ℕ) → is_codeword w ≡ false → Codeword w → ⊥
not-codeword w e h =
    let t = test_of_codeword w h in
    let z : ◌≡◌ {A = ℕ} 0 1 = cc in omega arith

module _ (w : List ℕ) (k : ℕ) where
  module _ (r : ℕ) (h : PastChanges w k r) where
    pub past_one : r < 67 → is_codeword (flip w r) ≡ false → PastChanges w k (r + 1)
    past_one l e = record { on = omega arith; within = omega arith; none = λ i a b. by i a b (dec_lt i r) }
      where
        by : (i : ℕ) → k ≤ i → i < r + 1 → Dec (i < r) → Codeword (flip w i) → ⊥
        by i a b (yes m) = h.none i a m
        by i a b (no m) =
            let z : r ≡ i = omega arith in
            subst (λ (n : ℕ). Codeword (flip w n) → ⊥) z (not-codeword (flip w r) e)

    pub change_makes : r < 67 → is_codeword (flip w r) ≡ true → NextChange w k (Some r)
    change_makes l e = (h, l, codeword_by_test (flip w r) e)

-- the bits with one flipped are as many bits
pub flipped_lent : (w v : List ℕ) (i : ℕ) → length w ≡ 67 → are_bits w ≡ true → v ≡ flip w i → (length v ≡ 67) × (are_bits v ≡ true)
flipped_lent w v i l h e = (
  ap length e ∙ flip-length w i ∙ l,
  ap are_bits e ∙ are-bits (flip w i) (flip_bits w i (bits_of_lem w h)),
)

-- ---- the next pair

-- no pair whose first place is below n makes a codeword
abbrev pub PastPairs : List ℕ → ℕ → Type 0
PastPairs w n = (i j : ℕ) → i < n → i < j → j < 67 → Codeword (flip (flip w i) j) → ⊥

-- ---- all changes

module _ (w : List ℕ) (hb : Bits w) (hl : length w ≡ 67) where
  -- a codeword that differs in some places is the bits with these flipped
  is_mended : (c : List ℕ) (f : Found) → Codeword c → places 0 c w ≡ named f → c ≡ mended w f
  is_mended c f h e =
      let s = h.size in
      let r : Rising 0 (named f) = subst (λ (ps : List ℕ). Rising 0 ps) e (places-rising 0 c w (omega arith)) in
      same_places_equal 0 c (mended w f) w h.bits (mended-bits w f hb) hb (omega arith) (mended-length w f) (omega arith)
      (e ∙ sym (mended-places w f hb hl r))

  module _ (clean : Codeword w → ⊥) (one : (i : ℕ) → i < 67 → Codeword (flip w i) → ⊥)
      (two : (i j : ℕ) → i < j → j < 67 → Codeword (flip (flip w i) j) → ⊥) (c : List ℕ) (h : Codeword c) where
    tried_by : (ps : List ℕ) → places 0 c w ≡ ps → Rising 0 ps → length ps ≤ 2 → ⊥
    tried_by [] e r l = clean (subst (λ (v : List ℕ). Codeword v) (is_mended c Clean h e) h)
    tried_by (i ∷ []) e r l = one i r.1 (subst (λ (v : List ℕ). Codeword v) (is_mended c (One i) h e) h)
    tried_by (i ∷ j ∷ []) e r l = two i j r.2.0 r.2.1 (subst (λ (v : List ℕ). Codeword v) (is_mended c (Two i j) h e) h)
    tried_by (i ∷ j ∷ k ∷ ps) e r l = absurd (omega arith)

    -- none of those that are tried is a codeword: nor is one within distance two
    pub none_tried_lone : distance c w ≤ 2 → ⊥
    none_tried_lone l = let s = h.size in tried_by (places 0 c w) refl (places-rising 0 c w (omega arith)) l
