-- GF(128) is a field: the product is additive on both sides, so what it is at the powers of two tells it, and there
-- it is computed to commute and to group; one is its unit, and an element that is not zero has an inverse. Assumes
-- nothing.
use mathlib.Core.Path.{◌≡◌, refl, sym, ap, ◌∙◌}
use mathlib.Core.Bool.{Bool}
use Prim.Native.Nat.{ℕ, zero, suc, ◌+◌, ◌-◌, ◌^◌, ◌<◌}
use native.Mathlib.Omega.{arith}
use lib.Bits.{bit_xor, xor_lt, xor_zero_r, xor_comm, xor_self}
use lib.Dec.{T, eqb, eqb→eq}
use Rattle.ground.proofs.Tests.{below, below_at}
use Rattle.ground.proofs.Xor.{xor_assoc}
use Rattle.bch.specs.Polynomial.{division_step}
use Rattle.bch.specs.Field.{times_x, mul}
use Rattle.bch.proofs.Linear.{sums_zero, agree, linear-from, linear}
use Rattle.bch.proofs.Product.{mul-lt, mul-xor, xor-mul}

one-computed : T (below 7 (agree (mul 1) (λ b. b)))
unfolding division_step times_x mul
one-computed = tt

pub one-mul : (b : ℕ) → b < 2 ^ 7 → mul 1 b ≡ b
one-mul = linear 7 (mul 1) (λ b. b) (mul-xor 1) (λ a b. refl) one-computed

abbrev comm-at : ℕ → ℕ → Bool
comm-at i j = eqb (mul (2 ^ i) (2 ^ j)) (mul (2 ^ j) (2 ^ i))

abbrev comm-row : ℕ → Bool
comm-row i = below 7 (comm-at i)

comm-computed : T (below 7 comm-row)
unfolding division_step times_x mul
comm-computed = tt

pub mul_comm : (a b : ℕ) → a < 2 ^ 7 → b < 2 ^ 7 → mul a b ≡ mul b a
mul_comm a b ha hb =
    linear-from 7 (λ x. mul x b) (mul b) (λ x y. xor-mul x y b) (mul-xor b)
    (λ i h. linear-from 7 (mul (2 ^ i)) (λ y. mul y (2 ^ i)) (mul-xor (2 ^ i)) (λ x y. xor-mul x y (2 ^ i))
    (λ j k. eqb→eq (mul (2 ^ i) (2 ^ j)) (mul (2 ^ j) (2 ^ i)) (below_at 7 (comm-at i) (below_at 7 comm-row comm-computed i h) j k)) b hb) a ha

abbrev assoc-at : ℕ → ℕ → ℕ → Bool
assoc-at i j k = eqb (mul (mul (2 ^ i) (2 ^ j)) (2 ^ k)) (mul (2 ^ i) (mul (2 ^ j) (2 ^ k)))

abbrev assoc-row : ℕ → ℕ → Bool
assoc-row i j = below 7 (assoc-at i j)

abbrev assoc_page : ℕ → Bool
assoc_page i = below 7 (assoc-row i)

assoc-computed : T (below 7 assoc_page)
unfolding division_step times_x mul
assoc-computed = tt

pub mul_assoc : (a b c : ℕ) → a < 2 ^ 7 → b < 2 ^ 7 → c < 2 ^ 7 → mul (mul a b) c ≡ mul a (mul b c)
mul_assoc a b c ha hb hc =
    linear-from 7 (λ x. mul (mul x b) c) (λ x. mul x (mul b c))
    (λ x y. ap (λ (z : ℕ). mul z c) (xor-mul x y b) ∙ xor-mul (mul x b) (mul y b) c) (λ x y. xor-mul x y (mul b c))
    (λ i h. linear-from 7 (λ y. mul (mul (2 ^ i) y) c) (λ y. mul (2 ^ i) (mul y c))
    (λ x y. ap (λ (z : ℕ). mul z c) (mul-xor (2 ^ i) x y) ∙ xor-mul (mul (2 ^ i) x) (mul (2 ^ i) y) c)
    (λ x y. ap (mul (2 ^ i)) (xor-mul x y c) ∙ mul-xor (2 ^ i) (mul x c) (mul y c))
    (λ j k. linear-from 7 (mul (mul (2 ^ i) (2 ^ j))) (λ z. mul (2 ^ i) (mul (2 ^ j) z))
    (mul-xor (mul (2 ^ i) (2 ^ j)))
    (λ x y. ap (mul (2 ^ i)) (mul-xor (2 ^ j) x y) ∙ mul-xor (2 ^ i) (mul (2 ^ j) x) (mul (2 ^ j) y))
    (λ l m. eqb→eq (mul (mul (2 ^ i) (2 ^ j)) (2 ^ l)) (mul (2 ^ i) (mul (2 ^ j) (2 ^ l)))
    (below_at 7 (assoc-at i j) (below_at 7 (assoc-row i) (below_at 7 assoc_page assoc-computed i h) j k) l m)) c hc) b hb) a ha

-- p times s times s^2 .. , n factors
abbrev squares : ℕ → ℕ → ℕ → ℕ
squares zero s p = p
squares (suc n) s p = squares n (mul s s) (mul p s)

-- a^126, the inverse: computed at the 127 elements that are not zero
pub inverse_of : ℕ → ℕ
inverse_of a = mul 1 (squares 6 (mul a a) 1)

abbrev inverse-at : ℕ → Bool
inverse-at i = eqb (mul (inverse_of (i + 1)) (i + 1)) 1

inverse-computed : T (below 127 inverse-at)
unfolding division_step times_x mul inverse_of
inverse-computed = tt

pub inverse-mul : (a : ℕ) → a < 2 ^ 7 → (a ≡ 0 → ⊥) → mul (inverse_of a) a ≡ 1
inverse-mul a h z =
    let e : a ≡ a - 1 + 1 = omega arith in
    ap (λ (x : ℕ). mul (inverse_of x) x) e
    ∙ eqb→eq (mul (inverse_of (a - 1 + 1)) (a - 1 + 1)) 1 (below_at 127 inverse-at inverse-computed (a - 1) (omega arith))

-- a factor that is not zero goes away
pub mul_cancel : (a x y : ℕ) → a < 2 ^ 7 → (a ≡ 0 → ⊥) → x < 2 ^ 7 → y < 2 ^ 7 → mul a x ≡ mul a y → x ≡ y
unfolding inverse_of
mul_cancel a x y ha z hx hy e =
    let k : inverse_of a < 2 ^ 7 = mul-lt 1 (squares 6 (mul a a) 1) in
    sym (one-mul x hx) ∙ ap (λ (t : ℕ). mul t x) (sym (inverse-mul a ha z)) ∙ mul_assoc (inverse_of a) a x k ha hx
    ∙ ap (mul (inverse_of a)) e
    ∙ sym (mul_assoc (inverse_of a) a y k ha hy) ∙ ap (λ (t : ℕ). mul t y) (inverse-mul a ha z) ∙ one-mul y hy

pub mul_zero : (a : ℕ) → mul a 0 ≡ 0
mul_zero a = sums_zero (mul a) (mul-xor a)

-- the laws together
pub record IsField (elements : ℕ) (sum product : ℕ → ℕ → ℕ) : Type 0 where
  pub sum_closed : (a b : ℕ) → a < elements → b < elements → sum a b < elements
  pub sum_comm : (a b : ℕ) → sum a b ≡ sum b a
  pub sum_assoc : (a b c : ℕ) → sum (sum a b) c ≡ sum a (sum b c)
  pub sum_zero : (a : ℕ) → sum a 0 ≡ a
  pub sum_self : (a : ℕ) → sum a a ≡ 0
  pub closed : (a b : ℕ) → product a b < elements
  pub comm : (a b : ℕ) → a < elements → b < elements → product a b ≡ product b a
  pub assoc : (a b c : ℕ) → a < elements → b < elements → c < elements → product (product a b) c ≡ product a (product b c)
  pub one : (a : ℕ) → a < elements → product 1 a ≡ a
  pub distributes : (a b c : ℕ) → product a (sum b c) ≡ sum (product a b) (product a c)
  pub inverse : (a : ℕ) → a < elements → (a ≡ 0 → ⊥) → (b : ℕ) × (b < elements) × (product b a ≡ 1)

pub gf128_is_a_field : IsField 128 bit_xor mul
unfolding inverse_of
gf128_is_a_field = record {
  sum_closed = λ a b ha hb. xor_lt 7 a b ha hb;
  sum_comm = xor_comm;
  sum_assoc = xor_assoc;
  sum_zero = xor_zero_r;
  sum_self = xor_self;
  closed = mul-lt;
  comm = mul_comm;
  assoc = mul_assoc;
  one = one-mul;
  distributes = mul-xor;
  inverse = λ a h z. (inverse_of a, mul-lt 1 (squares 6 (mul a a) 1), inverse-mul a h z);
}
