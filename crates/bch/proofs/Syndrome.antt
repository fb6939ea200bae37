-- The syndromes S1 and S3 of a remainder: they take sums to sums, one more bit into the remainder is one more step of
-- Horner's rule, and the two tell the remainder, by a linear map computed at the 14 digits. Assumes nothing.
use mathlib.Core.Path.{◌≡◌, refl, sym, ap, ap₂, ◌∙◌}
use mathlib.Core.Bool.{Bool}
use mathlib.Core.List.{List, [], ◌∷◌}
use Prim.Native.Nat.{ℕ, ◌*◌, ◌/◌, ◌%◌, ◌^◌, ◌<◌}
use native.Mathlib.Omega.{arith}
use lib.Bits.{bit_xor, xor_zero_r}
use lib.Dec.{T, eqb, eqb→eq}
use Rattle.ground.proofs.Tests.{below, below_at}
use Rattle.ground.proofs.Xor.{odd, xor_half}
use Rattle.bch.specs.Polynomial.{division_step}
use Rattle.bch.specs.Code.{step}
use Rattle.bch.specs.Field.{times_x, horner, times_x3, syndrome1, syndrome3}
use Rattle.bch.proofs.Xor.{xor-odd, xor_swap, digits_times}
use Rattle.bch.proofs.Linear.{Sums, sums_zero, agree, linear-below, linear}
use Rattle.bch.proofs.Generator.{step-xor}
use Rattle.bch.proofs.TimesX.{Additive, times_x_additive, times_x3_additive}
use Rattle.bch.proofs.Horner.{horner-lt, horner-xor}

pub syndrome1-xor : Sums syndrome1
unfolding syndrome1
syndrome1-xor a b = horner-xor times_x times_x_additive 14 1 a b (omega arith)

pub syndrome3-xor : Sums syndrome3
unfolding syndrome3
syndrome3-xor a b = horner-xor times_x3 times_x3_additive 14 1 a b (omega arith)

pub syndrome1-lt : (s : ℕ) → syndrome1 s < 2 ^ 7
unfolding syndrome1
syndrome1-lt s = horner-lt times_x times_x_additive 14 1 s (omega arith)

pub syndrome1_zero : syndrome1 0 ≡ 0
syndrome1_zero = sums_zero syndrome1 syndrome1-xor

-- ---- one more bit into the remainder is one more step of Horner's rule: computed at the 14 digits

module _ (f : ℕ → ℕ) (hf : Additive f) where
  evaluated : ℕ → ℕ
  evaluated s = horner f 14 1 s

  evaluated-xor : Sums evaluated
  unfolding evaluated
  evaluated-xor a b = horner-xor f hf 14 1 a b (omega arith)

  evaluated-lt : (s : ℕ) → evaluated s < 2 ^ 7
  unfolding evaluated
  evaluated-lt s = horner-lt f hf 14 1 s (omega arith)

  abbrev bit-evaluated-at : ℕ → Bool
  bit-evaluated-at b = eqb (horner f 14 1 (step 0 b)) b

  module _ (ok : T (below 14 (agree (λ r. horner f 14 1 (step r 0)) (λ r. f (horner f 14 1 r))))) (okb : T (below 2 bit-evaluated-at)) where
    step_zero_evaluated : (r : ℕ) → r < 2 ^ 14 → evaluated (step r 0) ≡ f (evaluated r)
    unfolding evaluated
    step_zero_evaluated =
        linear-below 14 (λ r. evaluated (step r 0)) (λ r. f (evaluated r))
        (λ a b ha hb. ap evaluated (step-xor a b 0 0 ha hb (omega arith) (omega arith)) ∙ evaluated-xor (step a 0) (step b 0))
        (λ a b ha hb. ap f (evaluated-xor a b) ∙ hf.xor (evaluated a) (evaluated b) (evaluated-lt a) (evaluated-lt b)) ok

    step-evaluated : (r b : ℕ) → r < 2 ^ 14 → b < 2 → horner f 14 1 (step r b) ≡ bit_xor (f (horner f 14 1 r)) b
    unfolding evaluated
    step-evaluated r b hr hb =
        ap (λ (x : ℕ). evaluated (step x b)) (sym (xor_zero_r r)) ∙ ap evaluated (step-xor r 0 0 b hr (omega arith) (omega arith) hb)
        ∙ evaluated-xor (step r 0) (step 0 b)
        ∙ ap₂ bit_xor (step_zero_evaluated r hr) (eqb→eq (horner f 14 1 (step 0 b)) b (below_at 2 bit-evaluated-at okb b hb))

pub syndrome1-step : (r b : ℕ) → r < 2 ^ 14 → b < 2 → syndrome1 (step r b) ≡ bit_xor (times_x (syndrome1 r)) b
unfolding division_step times_x syndrome1
syndrome1-step = step-evaluated times_x times_x_additive tt tt

pub syndrome3-step : (r b : ℕ) → r < 2 ^ 14 → b < 2 → syndrome3 (step r b) ≡ bit_xor (times_x3 (syndrome3 r)) b
unfolding division_step times_x syndrome3
syndrome3-step = step-evaluated times_x3 times_x3_additive tt tt

-- ---- the two syndromes tell the remainder

-- the sum of the numbers at whose places v has a digit, lowest first
abbrev weighed : List ℕ → ℕ → ℕ
weighed [] v = 0
weighed (c ∷ cs) v = bit_xor (v % 2 * c) (weighed cs (v / 2))

weighed-xor : (cs : List ℕ) → Sums (weighed cs)
weighed-xor [] a b = refl
weighed-xor (c ∷ cs) a b =
    ap₂ (λ (x y : ℕ). bit_xor (x * c) y) (xor-odd a b)
    (ap (weighed cs) (xor_half a b) ∙ weighed-xor cs (a / 2) (b / 2))
    ∙ ap (λ (x : ℕ). bit_xor x (bit_xor (weighed cs (a / 2)) (weighed cs (b / 2)))) (digits_times (a % 2) (b % 2) c (odd a) (odd b))
    ∙ xor_swap (a % 2 * c) (b % 2 * c) (weighed cs (a / 2)) (weighed cs (b / 2))

-- what each digit of S1, and of S3, adds to the remainder
abbrev weights1 : List ℕ
weights1 = 8020 ∷ 16040 ∷ 15911 ∷ 16185 ∷ 15621 ∷ 14717 ∷ 12685 ∷ []

abbrev weights3 : List ℕ
weights3 = 8021 ∷ 6306 ∷ 11202 ∷ 16042 ∷ 12612 ∷ 5363 ∷ 15907 ∷ []

remainder_from : ℕ → ℕ → ℕ
remainder_from u v = bit_xor (weighed weights1 u) (weighed weights3 v)

remainder_from-computed : T (below 14 (agree (λ s. remainder_from (syndrome1 s) (syndrome3 s)) (λ s. s)))
unfolding division_step times_x syndrome1 syndrome3 remainder_from
remainder_from-computed = tt

remainder_from-xor : Sums (λ s. remainder_from (syndrome1 s) (syndrome3 s))
unfolding remainder_from
remainder_from-xor a b =
    ap₂ bit_xor (ap (weighed weights1) (syndrome1-xor a b) ∙ weighed-xor weights1 (syndrome1 a) (syndrome1 b))
    (ap (weighed weights3) (syndrome3-xor a b) ∙ weighed-xor weights3 (syndrome3 a) (syndrome3 b))
    ∙ xor_swap (weighed weights1 (syndrome1 a)) (weighed weights1 (syndrome1 b)) (weighed weights3 (syndrome3 a)) (weighed weights3 (syndrome3 b))

remainder_from_is : (s : ℕ) → s < 2 ^ 14 → remainder_from (syndrome1 s) (syndrome3 s) ≡ s
remainder_from_is = linear 14 (λ s. remainder_from (syndrome1 s) (syndrome3 s)) (λ s. s) remainder_from-xor (λ a b. refl) remainder_from-computed

pub syndromes_tell_remainder : (s t : ℕ) → s < 2 ^ 14 → t < 2 ^ 14 → syndrome1 s ≡ syndrome1 t → syndrome3 s ≡ syndrome3 t → s ≡ t
syndromes_tell_remainder s t hs ht e f = sym (remainder_from_is s hs) ∙ ap₂ remainder_from e f ∙ remainder_from_is t ht
