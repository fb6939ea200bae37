-- Long division by a polynomial g of degree n: each step keeps the remainder below 2^n and takes sums to sums, and
-- the whole is a division: the bits are a quotient times g, plus the remainder. Assumes nothing.
use mathlib.Core.Path.{◌≡◌, refl, sym, ap, ◌∙◌, subst}
use mathlib.Core.List.{List, [], ◌∷◌}
use Prim.Native.Nat.{ℕ, ◌+◌, ◌*◌, ◌/◌, ◌^◌, ◌<◌}
use native.Mathlib.Nat.{add-zero, div-lt_iff_lt-mul, mul_comm, one-mul, zero-div, div-eq_of_lt}
use native.Mathlib.Omega.{arith}
use lib.Arith.{digits_lt}
use lib.Bits.{bit_xor, xor_shr, xor_block, xor_zero_r, xor_comm, xor_self}
use lib.ListN.{length, replicate}
use lib.Pow.{pow_pos}
use Rattle.ground.specs.Bits.{Bits}
use Rattle.ground.specs.Digits.{value_of}
use Rattle.ground.proofs.Xor.{bit_cases, xor-again, xor_assoc}
use Rattle.bch.specs.Polynomial.{product_of, division_step, remainder_by}
use Rattle.bch.proofs.Xor.{xor_swap, digits_times}

module _ (n g : ℕ) (monic : g / 2 ^ n ≡ 1) where
  lead : (r b : ℕ) → r < 2 ^ n → b < 2 → (r * 2 + b) / 2 ^ n < 2
  lead r b hr hb = (div-lt_iff_lt-mul (pow_pos n)).1 (subst (λ (x : ℕ). r * 2 + b < x) (mul_comm (2 ^ n) 2) (digits_lt hr hb))

  lead_times : (q : ℕ) → q < 2 → q * g / 2 ^ n ≡ q
  lead_times q h =
      bit_cases (λ (x : ℕ). x * g / 2 ^ n ≡ x)
      (let e : 0 * g ≡ 0 = omega arith in ap (λ (x : ℕ). x / 2 ^ n) e ∙ zero-div (2 ^ n))
      (let e : 1 * g ≡ g = omega arith in ap (λ (x : ℕ). x / 2 ^ n) e ∙ monic) q h

  no-lead-lt : (v : ℕ) → v / 2 ^ n ≡ 0 → v < 2 ^ n
  no-lead-lt v e =
      subst (λ (x : ℕ). v < x) (one-mul (2 ^ n))
      ((div-lt_iff_lt-mul (pow_pos n)).0 (subst (λ (x : ℕ). x < 1) (sym e) (omega arith)))

  pub division_step-lt : (r b : ℕ) → r < 2 ^ n → b < 2 → division_step n g r b < 2 ^ n
  unfolding division_step
  division_step-lt r b hr hb =
      let q : ℕ = (r * 2 + b) / 2 ^ n in
      no-lead-lt (division_step n g r b) (xor_shr (r * 2 + b) (q * g) n ∙ ap (bit_xor q) (lead_times q (lead r b hr hb)) ∙ xor_self q)

  -- a step with no lead takes the bit in
  pub division_step-small : (r b : ℕ) → r * 2 + b < 2 ^ n → division_step n g r b ≡ r * 2 + b
  unfolding division_step
  division_step-small r b h =
      let e : (r * 2 + b) / 2 ^ n ≡ 0 = div-eq_of_lt h in
      let z : 0 * g ≡ 0 = omega arith in
      ap (λ (x : ℕ). bit_xor (r * 2 + b) (x * g)) e ∙ ap (bit_xor (r * 2 + b)) z ∙ xor_zero_r (r * 2 + b)

  pub division_step-xor : (r s b c : ℕ) → r < 2 ^ n → s < 2 ^ n → b < 2 → c < 2
      → division_step n g (bit_xor r s) (bit_xor b c) ≡ bit_xor (division_step n g r b) (division_step n g s c)
  unfolding division_step
  division_step-xor r s b c hr hs hb hc =
      let t : ℕ = r * 2 + b in
      let u : ℕ = s * 2 + c in
      ap (λ (x : ℕ). bit_xor x (x / 2 ^ n * g)) (sym (xor_block 1 r s b c hb hc))
      ∙ ap (λ (x : ℕ). bit_xor (bit_xor t u) (x * g)) (xor_shr t u n)
      ∙ ap (bit_xor (bit_xor t u)) (digits_times (t / 2 ^ n) (u / 2 ^ n) g (lead r b hr hb) (lead s c hs hc))
      ∙ xor_swap t u (t / 2 ^ n * g) (u / 2 ^ n * g)

  pub remainder_by-lt : (r : ℕ) (bs : List ℕ) → r < 2 ^ n → Bits bs → remainder_by n g r bs < 2 ^ n
  remainder_by-lt r [] hr hb = hr
  remainder_by-lt r (b ∷ bs) hr hb = remainder_by-lt (division_step n g r b) bs (division_step-lt r b hr hb.0) hb.1

  -- what stands before the bits goes through as if they were zeros
  pub remainder_by-xor : (r s : ℕ) (bs : List ℕ) → r < 2 ^ n → s < 2 ^ n → Bits bs
      → remainder_by n g (bit_xor r s) bs ≡ bit_xor (remainder_by n g r bs) (remainder_by n g s (replicate (length bs) 0))
  remainder_by-xor r s [] hr hs hb = refl
  remainder_by-xor r s (b ∷ bs) hr hs hb =
      ap (λ (x : ℕ). remainder_by n g x bs)
      (ap (division_step n g (bit_xor r s)) (sym (xor_zero_r b)) ∙ division_step-xor r s b 0 hr hs hb.0 (omega arith))
      ∙ remainder_by-xor (division_step n g r b) (division_step n g s 0) bs (division_step-lt r b hr hb.0) (division_step-lt s 0 hs (omega arith)) hb.1

  -- ---- the division

  abbrev quotient : ℕ → List ℕ → List ℕ
  quotient r [] = []
  quotient r (b ∷ bs) = (r * 2 + b) / 2 ^ n ∷ quotient (division_step n g r b) bs

  division_step-divides : (p r b : ℕ) → b < 2 → bit_xor p r * 2 + b ≡ bit_xor (bit_xor (p * 2) ((r * 2 + b) / 2 ^ n * g)) (division_step n g r b)
  unfolding division_step
  division_step-divides p r b hb =
      let h : ℕ = (r * 2 + b) / 2 ^ n * g in
      sym (xor_block 1 p r 0 b (omega arith) hb)
      ∙ ap (λ (x : ℕ). bit_xor x (r * 2 + b)) (add-zero (p * 2))
      ∙ ap (bit_xor (p * 2)) (sym (xor-again (r * 2 + b) h) ∙ xor_comm (bit_xor (r * 2 + b) h) h)
      ∙ sym (xor_assoc (p * 2) h (bit_xor (r * 2 + b) h))

  divides : (p r : ℕ) (bs : List ℕ) → Bits bs → value_of (bit_xor p r) bs ≡ bit_xor (product_of g p (quotient r bs)) (remainder_by n g r bs)
  divides p r [] hb = refl
  divides p r (b ∷ bs) hb =
      ap (λ (s : ℕ). value_of s bs) (division_step-divides p r b hb.0)
      ∙ divides (bit_xor (p * 2) ((r * 2 + b) / 2 ^ n * g)) (division_step n g r b) bs hb.1

  quotient-bits : (r : ℕ) (bs : List ℕ) → r < 2 ^ n → Bits bs → Bits (quotient r bs)
  quotient-bits r [] hr hb = tt
  quotient-bits r (b ∷ bs) hr hb = (lead r b hr hb.0, quotient-bits (division_step n g r b) bs (division_step-lt r b hr hb.0) hb.1)

  -- the bits are a product with g, plus the remainder, whose degree is below n
  pub division : (bs : List ℕ) → Bits bs
      → (qs : List ℕ) × Bits qs × (value_of 0 bs ≡ bit_xor (product_of g 0 qs) (remainder_by n g 0 bs)) × (remainder_by n g 0 bs < 2 ^ n)
  division bs hb = (quotient 0 bs, quotient-bits 0 bs (pow_pos n) hb, divides 0 0 bs hb, remainder_by-lt 0 bs (pow_pos n) hb)
