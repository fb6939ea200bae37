-- Two maps that take sums to sums and agree at the powers of two below 2^n agree below 2^n.
-- Assumes nothing.
use mathlib.Core.Path.{◌≡◌, sym, ap, ap₂, ◌∙◌, subst}
use mathlib.Core.Bool.{Bool}
use Prim.Native.Nat.{ℕ, zero, suc, ◌*◌, ◌/◌, ◌%◌, ◌^◌, ◌<◌}
use native.Mathlib.Nat.{mod-lt, pow-suc, div-add-mod', div-lt_iff_lt-mul, div-mul-le_self, mod-le, mul_comm}
use native.Mathlib.Omega.{arith}
use lib.Bits.{bit_xor, xor_self, xor_shifted}
use lib.Dec.{T, eqb, eqb→eq}
use lib.Pow.{pow_pos}
use Rattle.ground.proofs.Tests.{below, below_at}
use Rattle.ground.proofs.Xor.{bit_cases}

abbrev pub Sums : (ℕ → ℕ) → Type 0
Sums f = (a b : ℕ) → f (bit_xor a b) ≡ bit_xor (f a) (f b)

pub sums_zero : (f : ℕ → ℕ) → Sums f → f 0 ≡ 0
sums_zero f h = h 0 0 ∙ xor_self (f 0)

pub sums_after : (f g : ℕ → ℕ) → Sums f → Sums g → Sums (λ a. f (g a))
sums_after f g hf hg a b = ap f (hg a b) ∙ hf (g a) (g b)

abbrev pub SumsBelow : ℕ → (ℕ → ℕ) → Type 0
SumsBelow n f = (a b : ℕ) → a < 2 ^ n → b < 2 ^ n → f (bit_xor a b) ≡ bit_xor (f a) (f b)

below_zero : (n : ℕ) (f : ℕ → ℕ) → SumsBelow n f → f 0 ≡ 0
below_zero n f h = h 0 0 (pow_pos n) (pow_pos n) ∙ xor_self (f 0)

fewer : (n : ℕ) (f : ℕ → ℕ) → SumsBelow (suc n) f → SumsBelow n f
fewer n f h a b ha hb = h a b (omega (arith, pow-suc 2 n)) (omega (arith, pow-suc 2 n))

linear-by : (n : ℕ) (f g : ℕ → ℕ) → SumsBelow n f → SumsBelow n g → ((k : ℕ) → k < n → f (2 ^ k) ≡ g (2 ^ k))
    → (v : ℕ) → v < 2 ^ n → f v ≡ g v
linear-by zero f g hf hg h v l =
    let e : v ≡ 0 = omega arith in ap f e ∙ below_zero 0 f hf ∙ sym (below_zero 0 g hg) ∙ sym (ap g e)
linear-by (suc n) f g hf hg h v l =
    let q : ℕ = v / 2 ^ n in
    let r : ℕ = v % 2 ^ n in
    let lr : r < 2 ^ n = mod-lt v (pow_pos n) in
    let lq : q < 2 = (div-lt_iff_lt-mul (pow_pos n)).1 (subst (λ (x : ℕ). v < x) (pow-suc 2 n ∙ mul_comm (2 ^ n) 2) l) in
    let kr : r < 2 ^ suc n = omega (arith, mod-le v (2 ^ n)) in
    let kq : q * 2 ^ n < 2 ^ suc n = omega (arith, div-mul-le_self v (2 ^ n)) in
    let e : v ≡ bit_xor (q * 2 ^ n) r = sym (xor_shifted q n r lr ∙ div-add-mod' v (2 ^ n)) in
    let t : f (q * 2 ^ n) ≡ g (q * 2 ^ n) = bit_cases (λ (x : ℕ). f (x * 2 ^ n) ≡ g (x * 2 ^ n))
    (let z : 0 * 2 ^ n ≡ 0 = omega arith in ap f z ∙ below_zero (suc n) f hf ∙ sym (below_zero (suc n) g hg) ∙ sym (ap g z))
    (let z : 1 * 2 ^ n ≡ 2 ^ n = omega arith in ap f z ∙ h n (omega arith) ∙ sym (ap g z)) q lq in
    ap f e ∙ hf (q * 2 ^ n) r kq kr
    ∙ ap₂ bit_xor t (linear-by n f g (fewer n f hf) (fewer n g hg) (λ k m. h k (omega arith)) r lr)
    ∙ sym (hg (q * 2 ^ n) r kq kr) ∙ sym (ap g e)

-- the agreement at the powers of two, as a test that antt computes
abbrev pub agree : (ℕ → ℕ) → (ℕ → ℕ) → ℕ → Bool
agree f g k = eqb (f (2 ^ k)) (g (2 ^ k))

pub linear-below : (n : ℕ) (f g : ℕ → ℕ) → SumsBelow n f → SumsBelow n g → T (below n (agree f g)) → (v : ℕ) → v < 2 ^ n → f v ≡ g v
linear-below n f g hf hg t = linear-by n f g hf hg (λ k h. eqb→eq (f (2 ^ k)) (g (2 ^ k)) (below_at n (agree f g) t k h))

pub linear-from : (n : ℕ) (f g : ℕ → ℕ) → Sums f → Sums g → ((k : ℕ) → k < n → f (2 ^ k) ≡ g (2 ^ k)) → (v : ℕ) → v < 2 ^ n → f v ≡ g v
linear-from n f g hf hg = linear-by n f g (λ a b x y. hf a b) (λ a b x y. hg a b)

pub linear : (n : ℕ) (f g : ℕ → ℕ) → Sums f → Sums g → T (below n (agree f g)) → (v : ℕ) → v < 2 ^ n → f v ≡ g v
linear n f g hf hg = linear-below n f g (λ a b x y. hf a b) (λ a b x y. hg a b)
