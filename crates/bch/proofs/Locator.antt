-- The textbook's algebra in GF(128): squares, cubes, and the locator u z^2 + u^2 z with its roots. Assumes nothing.
use mathlib.Core.Path.{◌≡◌, sym, ap, ap₂, ◌∙◌}
use Prim.Native.Nat.{ℕ, ◌^◌, ◌<◌}
use lib.Bits.{bit_xor, xor_self}
use Rattle.ground.proofs.Xor.{xor-again, xor_assoc}
use Rattle.bch.specs.Field.{mul}
use Rattle.bch.proofs.Xor.{xor_swap, xor-front, xor-middle, xor_zero_eq}
use Rattle.bch.proofs.Product.{mul-lt, mul-xor, xor-mul}
use Rattle.bch.proofs.GaloisField.{mul_comm, mul_assoc, mul_cancel}

abbrev pub square : ℕ → ℕ
square z = mul z z

abbrev pub cube : ℕ → ℕ
cube z = mul (square z) z

-- u·z² + u²·z
unfoldable pub locator : ℕ → ℕ → ℕ
locator u z = bit_xor (mul u (square z)) (mul (square u) z)

square-xor : (x y : ℕ) → x < 2 ^ 7 → y < 2 ^ 7 → square (bit_xor x y) ≡ bit_xor (square x) (square y)
square-xor x y hx hy =
    xor-mul x y (bit_xor x y) ∙ ap₂ bit_xor (mul-xor x x y) (mul-xor y x y ∙ ap (λ (t : ℕ). bit_xor t (square y)) (mul_comm y x hy hx))
    ∙ xor-middle (square x) (mul x y) (square y)

cube-xor : (z u : ℕ) → z < 2 ^ 7 → u < 2 ^ 7
    → cube (bit_xor z u) ≡ bit_xor (bit_xor (cube z) (mul u (square z))) (bit_xor (mul (square u) z) (cube u))
cube-xor z u hz hu =
    ap (λ (t : ℕ). mul t (bit_xor z u)) (square-xor z u hz hu) ∙ xor-mul (square z) (square u) (bit_xor z u)
    ∙ ap₂ bit_xor (mul-xor (square z) z u ∙ ap (bit_xor (cube z)) (mul_comm (square z) u (mul-lt z z) hu)) (mul-xor (square u) z u)

-- u·z² + u²·z = z³ + (z + u)³ + u³
pub locator_cubes : (z u : ℕ) → z < 2 ^ 7 → u < 2 ^ 7 → locator u z ≡ bit_xor (bit_xor (cube z) (cube (bit_xor z u))) (cube u)
unfolding locator
locator_cubes z u hz hu =
    let p : ℕ = mul u (square z) in
    let q : ℕ = mul (square u) z in
    sym (ap (λ (t : ℕ). bit_xor (bit_xor (cube z) t) (cube u)) (cube-xor z u hz hu ∙ xor_assoc (cube z) p (bit_xor q (cube u)))
    ∙ ap (λ (t : ℕ). bit_xor t (cube u)) (xor-front (cube z) (bit_xor p (bit_xor q (cube u))) ∙ sym (xor_assoc p q (cube u)))
    ∙ xor-again (bit_xor p q) (cube u))

pub locator-xor : (u x y : ℕ) → x < 2 ^ 7 → y < 2 ^ 7 → locator u (bit_xor x y) ≡ bit_xor (locator u x) (locator u y)
unfolding locator
locator-xor u x y hx hy =
    ap₂ bit_xor (ap (mul u) (square-xor x y hx hy) ∙ mul-xor u (square x) (square y)) (mul-xor (square u) x y)
    ∙ xor_swap (mul u (square x)) (mul u (square y)) (mul (square u) x) (mul (square u) y)

pub locator_self : (u : ℕ) → u < 2 ^ 7 → locator u u ≡ 0
unfolding locator
locator_self u h = ap (λ (t : ℕ). bit_xor t (cube u)) (mul_comm u (square u) h (mul-lt u u)) ∙ xor_self (cube u)

-- u·d² + u²·d = u·d·(d + u): here are no divisors of zero
pub locator_zero_equal : (u d : ℕ) → u < 2 ^ 7 → d < 2 ^ 7 → (u ≡ 0 → ⊥) → (d ≡ 0 → ⊥) → locator u d ≡ 0 → d ≡ u
unfolding locator
locator_zero_equal u d hu hd zu zd e =
    mul_cancel d d u hd zd hd hu
    (mul_cancel u (square d) (mul u d) hu zu (mul-lt d d) (mul-lt u d)
    (xor_zero_eq (mul u (square d)) (mul (square u) d) e ∙ mul_assoc u u d hu hu hd)
    ∙ mul_comm u d hu hd)
