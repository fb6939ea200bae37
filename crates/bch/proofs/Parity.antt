-- The parity of packed information, by folding: where x^33, x^22 and x^14 are written as their remainders' terms, a
-- high part falls down by shifts and sums. Both sides take sums to sums, and agree, computed, at each of the 53
-- digits. Assumes nothing.
use mathlib.Core.Path.{◌≡◌, refl, sym, ap, ap₂, ◌∙◌, subst}
use mathlib.Core.List.{List, [], ◌∷◌, ◌++◌}
use Prim.Native.Nat.{ℕ, zero, suc, ◌+◌, ◌*◌, ◌/◌, ◌%◌, ◌^◌, ◌<◌, ◌≤◌}
use native.Mathlib.Nat.{mod-eq_of_lt, mul-le-mul_left}
use native.Mathlib.Numerals.{add-one}
use native.Mathlib.Omega.{arith}
use lib.Bits.{bit_xor, xor_shr, xor_mod, xor_zero_r}
use lib.Dec.{T}
use lib.ListN.{length, replicate}
use lib.Pow.{pow_mono}
use Rattle.ground.specs.Bits.{Bits}
use Rattle.ground.specs.Digits.{value_of, digits_of}
use Rattle.ground.proofs.Bits.{zeros-bits}
use Rattle.ground.proofs.Digits.{number-below, digits_number}
use Rattle.ground.proofs.Tests.{below}
use Rattle.ground.proofs.Xor.{odd, bit_cases}
use Rattle.bch.specs.Polynomial.{division_step, degrees_of, joined, folded}
use Rattle.bch.specs.Code.{step, remainder_of, parity}
use Rattle.bch.proofs.Xor.{xor-odd, xor_swap, xor-shift}
use Rattle.bch.proofs.Linear.{Sums, sums_after, agree, linear-below}
use Rattle.bch.proofs.Generator.{step-lt, step-xor, remainder_xor}

-- packed and unpacked again, the information is what it was
pub information_digits : (info : List ℕ) (v : ℕ) → Bits info → length info ≡ 53 → v ≡ value_of 0 info → (v < 2 ^ 53) × (digits_of 53 v ≡ info)
information_digits info v hb hl e = (
  subst (λ (x : ℕ). x < 2 ^ 53) (sym e) (subst (λ (n : ℕ). value_of 0 info < 2 ^ n) hl (number-below info hb)),
  ap₂ digits_of (sym hl) e ∙ digits_number 0 info hb,
)

-- ---- a high part folded down

joined-xor : (js : List ℕ) (l m h k : ℕ) → joined (bit_xor l m) js (bit_xor h k) ≡ bit_xor (joined l js h) (joined m js k)
joined-xor [] l m h k = refl
joined-xor (j ∷ js) l m h k =
    ap (λ (x : ℕ). joined x js (bit_xor h k)) (ap (bit_xor (bit_xor l m)) (xor-shift j h k) ∙ xor_swap l m (h * 2 ^ j) (k * 2 ^ j))
    ∙ joined-xor js (bit_xor l (h * 2 ^ j)) (bit_xor m (k * 2 ^ j)) h k

folded-xor : (js : List ℕ) (l m h k : ℕ) → folded js (bit_xor l m) (bit_xor h k) ≡ bit_xor (folded js l h) (folded js m k)
folded-xor js l m h k =
    ap (λ (x : ℕ). joined x js (bit_xor h k)) (xor_swap l m h k) ∙ joined-xor js (bit_xor l h) (bit_xor m k) h k

-- a loop over the degrees: the next one's term goes into the sum as often as its digit says
joined-more : (js ks : List ℕ) (low h : ℕ) → joined low (js ++ ks) h ≡ joined (joined low js h) ks h
joined-more [] ks low h = refl
joined-more (j ∷ js) ks low h = joined-more js ks (bit_xor low (h * 2 ^ j)) h

joined_digit : (d n sum h : ℕ) → d < 2 → bit_xor sum (d * (h * 2 ^ n)) ≡ joined sum (replicate d n) h
joined_digit d n sum h =
    bit_cases (λ (x : ℕ). bit_xor sum (x * (h * 2 ^ n)) ≡ joined sum (replicate x n) h)
    (let e : 0 * (h * 2 ^ n) ≡ 0 = omega arith in ap (bit_xor sum) e ∙ xor_zero_r sum)
    (let e : 1 * (h * 2 ^ n) ≡ h * 2 ^ n = omega arith in ap (bit_xor sum) e) d

term_fits : (h n : ℕ) → h < 2 ^ 50 → n < 14 → h * 2 ^ n % 2 ^ 64 ≡ h * 2 ^ n
term_fits h n l m =
    let p : 2 ^ n ≤ 2 ^ 14 = pow_mono {i = n} {j = 14} (omega arith) in
    let q : h * 2 ^ n ≤ h * 2 ^ 14 = mul-le-mul_left h p in
    mod-eq_of_lt (omega arith)

pub folded-next : (terms low h sum n : ℕ) → h < 2 ^ 50 → n < 14 → sum ≡ folded (degrees_of n terms) low h
    → bit_xor sum (terms / 2 ^ n % 2 * (h * 2 ^ n % 2 ^ 64)) ≡ folded (degrees_of (n + 1) terms) low h
folded-next terms low h sum n l m e =
    let d : ℕ = terms / 2 ^ n % 2 in
    ap₂ (λ (s x : ℕ). bit_xor s (d * x)) e (term_fits h n l m)
    ∙ joined_digit d n (folded (degrees_of n terms) low h) h (odd (terms / 2 ^ n))
    ∙ sym (joined-more (degrees_of n terms) (replicate d n) (bit_xor low h) h)
    ∙ ap (λ (k : ℕ). folded (degrees_of k terms) low h) (sym (add-one n))

-- ---- the folds

abbrev pub fold_at : ℕ → List ℕ → ℕ → ℕ
fold_at n js t = folded js (t % 2 ^ n) (t / 2 ^ n)

abbrev pub terms33 : List ℕ
terms33 = 2 ∷ 4 ∷ 11 ∷ []

abbrev pub terms22 : List ℕ
terms22 = 1 ∷ 4 ∷ 9 ∷ 13 ∷ []

abbrev pub terms14 : List ℕ
terms14 = 1 ∷ 2 ∷ 4 ∷ 5 ∷ 6 ∷ 8 ∷ 9 ∷ []

-- v times x^14, folded at x^33
abbrev pub folded_start : ℕ → ℕ
folded_start v = folded terms33 (v % 2 ^ 19 * 2 ^ 14) (v / 2 ^ 19)

abbrev pub parity_by_folds : ℕ → ℕ
parity_by_folds v = fold_at 14 terms14 (fold_at 14 terms14 (fold_at 22 terms22 (fold_at 33 terms33 (folded_start v))))

fold_at_sums : (n : ℕ) (js : List ℕ) → Sums (fold_at n js)
fold_at_sums n js a b =
    ap₂ (folded js) (xor_mod a b n) (xor_shr a b n) ∙ folded-xor js (a % 2 ^ n) (b % 2 ^ n) (a / 2 ^ n) (b / 2 ^ n)

folded_start_sums : Sums folded_start
folded_start_sums a b =
    ap₂ (folded terms33) (ap (λ (x : ℕ). x * 2 ^ 14) (xor_mod a b 19) ∙ xor-shift 14 (a % 2 ^ 19) (b % 2 ^ 19)) (xor_shr a b 19)
    ∙ folded-xor terms33 (a % 2 ^ 19 * 2 ^ 14) (b % 2 ^ 19 * 2 ^ 14) (a / 2 ^ 19) (b / 2 ^ 19)

parity_by_folds_sums : Sums parity_by_folds
parity_by_folds_sums =
    sums_after (fold_at 14 terms14) (λ v. fold_at 14 terms14 (fold_at 22 terms22 (fold_at 33 terms33 (folded_start v)))) (fold_at_sums 14 terms14)
    (sums_after (fold_at 14 terms14) (λ v. fold_at 22 terms22 (fold_at 33 terms33 (folded_start v))) (fold_at_sums 14 terms14)
    (sums_after (fold_at 22 terms22) (λ v. fold_at 33 terms33 (folded_start v)) (fold_at_sums 22 terms22)
    (sums_after (fold_at 33 terms33) folded_start (fold_at_sums 33 terms33) folded_start_sums)))

-- ---- the division of a number's digits, with 14 zeros behind

digit_xor : (n a b : ℕ) → bit_xor a b / 2 ^ n % 2 ≡ bit_xor (a / 2 ^ n % 2) (b / 2 ^ n % 2)
digit_xor n a b = ap (λ (x : ℕ). x % 2) (xor_shr a b n) ∙ xor-odd (a / 2 ^ n) (b / 2 ^ n)

remainder_digits_xor : (n r s a b : ℕ) → r < 2 ^ 14 → s < 2 ^ 14
    → remainder_of (bit_xor r s) (digits_of n (bit_xor a b) ++ replicate 14 0) ≡ bit_xor (remainder_of r (digits_of n a ++ replicate 14 0)) (remainder_of s (digits_of n b ++ replicate 14 0))
remainder_digits_xor zero r s a b hr hs = remainder_xor r s (replicate 14 0) hr hs (zeros-bits 14)
remainder_digits_xor (suc n) r s a b hr hs =
    let x : ℕ = a / 2 ^ n % 2 in
    let y : ℕ = b / 2 ^ n % 2 in
    ap (λ (t : ℕ). remainder_of t (digits_of n (bit_xor a b) ++ replicate 14 0))
    (ap (step (bit_xor r s)) (digit_xor n a b) ∙ step-xor r s x y hr hs (odd (a / 2 ^ n)) (odd (b / 2 ^ n)))
    ∙ remainder_digits_xor n (step r x) (step s y) a b (step-lt r x hr (odd (a / 2 ^ n))) (step-lt s y hs (odd (b / 2 ^ n)))

abbrev parity_by_division : ℕ → ℕ
parity_by_division v = parity (digits_of 53 v)

parities_agree : T (below 53 (agree parity_by_folds parity_by_division))
unfolding division_step
parities_agree = tt

pub folds_are_parity : (v : ℕ) → v < 2 ^ 53 → parity_by_folds v ≡ parity (digits_of 53 v)
folds_are_parity =
    linear-below 53 parity_by_folds parity_by_division (λ a b x y. parity_by_folds_sums a b)
    (λ a b x y. remainder_digits_xor 53 0 0 a b (omega arith) (omega arith)) parities_agree
