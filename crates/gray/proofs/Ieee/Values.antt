-- A finite f32 is known by its value, has few digits and lies in range, whatever its sign. Assumes nothing.
use Prim.Native.Nat.{ℕ, zero, suc, ◌*◌, ◌^◌, ◌<◌, ◌+◌, ◌-◌, ◌/◌, ◌%◌}
use native.Mathlib.Nat.{mul_right_comm, mul-one, eq_of_mul-eq-mul_right, zero-mul}
use mathlib.Core.Path.{◌≡◌, sym, ap, ◌∙◌, subst}
use mathlib.Core.Bool.{true, Bool, false, ◌&&◌}
use lib.IntN.{ℤ, pos}
use lib.Ieee.{Float, binary32, nan, inf, fin, up, down, of_bits, size, fits, to_bits}
use lib.Dec.{T, ltb, eqb, ltb→lt, leb}
use lib.Ieee.Fits.{down_pos, and_l, and_r}
use lib.Ieee.Nearest.{div_same}
use lib.Pow.{pow_pos}
use lib.Ieee.Bits.{of_bits-to_bits}
use lib.Ieee.Exact.{HasValue}

-- a finite f32 is known by its value, since its pattern is
same-pattern : (m n : ℕ) (e d : ℤ) → m * up e * 2 ^ 149 * down d ≡ n * up d * 2 ^ 149 * down e → to_bits binary32 (fin false m e) ≡ to_bits binary32 (fin false n d)
unfolding to_bits
same-pattern m n e d g =
    ap (λ (w : ℕ). let k = size w - 24 in 0 + k * 8388608 + w / 2 ^ k) (div_same (m * up e * 2 ^ 149) (down e) (n * up d * 2 ^ 149) (down d) (down_pos e) (down_pos d) g)

pub same-value : (m n : ℕ) (e d : ℤ) → T (fits binary32 (fin false m e)) → T (fits binary32 (fin false n d)) → m * up e * down d ≡ n * up d * down e
    → fin false m e ≡ fin false n d
same-value m n e d p q h =
    sym (of_bits-to_bits binary32 (fin false m e) p)
    ∙ ap (of_bits binary32) (same-pattern m n e d (cross (m * up e) (n * up d) (down d) (down e) (2 ^ 149) h))
    ∙ of_bits-to_bits binary32 (fin false n d) q
  where
    cross : (a b c f g : ℕ) → a * c ≡ b * f → a * g * c ≡ b * g * f
    cross a b c f g e = mul_right_comm a g c ∙ ap (λ (z : ℕ). z * g) e ∙ mul_right_comm b f g

pub few_digits : (m : ℕ) (e : ℤ) → T (fits binary32 (fin false m e)) → m < 2 ^ 24
unfolding fits
few_digits zero e f = pow_pos 24
few_digits (suc m) e f =
    let A = eqb (suc m % 2) 1 in
    let B = ltb (suc m) (2 ^ 24) in
    let C = leb (down e) (2 ^ 149) in
    let E = ltb (suc m * up e) (2 ^ 128 * down e) in
    ltb→lt (suc m) (2 ^ 24) (and_r A B (and_l (A && B) C (and_l (A && B && C) E f)))

pub value_in_range : (m k : ℕ) → T (fits binary32 (fin false m (pos k))) → m * 2 ^ k < 2 ^ 128
unfolding fits
value_in_range zero k f = subst (λ (n : ℕ). n < 2 ^ 128) (sym (zero-mul (2 ^ k))) (pow_pos 128)
value_in_range (suc m) k f = ltb→lt (suc m * 2 ^ k) (2 ^ 128) (and_r (eqb (suc m % 2) 1 && ltb (suc m) (2 ^ 24) && leb 1 (2 ^ 149)) (ltb (suc m * 2 ^ k) (2 ^ 128 * 1)) f)

pub value_determines : (y : Float) (m k : ℕ) → T (fits binary32 (fin false m (pos k))) → T (fits binary32 y) → HasValue y false (m * 2 ^ k * 2 ^ 149) (2 ^ 149) → y ≡ fin false m (pos k)
value_determines nan m k f g h = absurd h
value_determines (inf t) m k f g h = absurd h
value_determines (fin true n d) m k f g h = absurd (subst T h.0 tt)
value_determines (fin false n d) m k f g h =
    same-value n m d (pos k) g f
    (mul-one (n * up d)
    ∙ eq_of_mul-eq-mul_right (2 ^ 149) (pow_pos 149) (n * up d) (m * 2 ^ k * down d) (h.1 ∙ mul_right_comm (m * 2 ^ k) (2 ^ 149) (down d)))

pub fits_unsigned : (s : Bool) (m : ℕ) (e : ℤ) → T (fits binary32 (fin s m e)) → T (fits binary32 (fin false m e))
unfolding fits
fits_unsigned s zero e h = h
fits_unsigned s (suc m) e h = h
