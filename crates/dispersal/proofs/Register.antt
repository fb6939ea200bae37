-- The register, step by step: it stays within its 15 bits, and the bits that leave at its low end are its own fifteen
-- and then the outputs. Assumes nothing.
use Prim.Native.Nat.{ℕ, zero, suc, ◌+◌, ◌*◌, ◌/◌, ◌%◌, ◌^◌, ◌<◌, ◌≤◌}
use native.Mathlib.Nat.{pow-suc, suc-add, zero-add, zero-mul, add-mul, mul_assoc, add_assoc}
use native.Mathlib.Omega.{arith}
use mathlib.Core.Path.{◌≡◌, refl, sym, ap, ap₂, ◌∙◌}
use lib.Arith.{digits_lt}
use lib.Pow.{pow-add}
use lib.Bits.{bit_xor, xor_block, block_odd}
use Rattle.ground.proofs.Xor.{odd, xor-sum}
use Rattle.dispersal.specs.Register.{output, step, steps, outputs}
use Rattle.dispersal.specs.Inner.{mirror}
use Rattle.dispersal.proofs.Mirror.{mirror-low, mirror_top}

pub output-sum : (r : ℕ) → output r ≡ (r % 2 + r / 2 % 2) % 2
unfolding output
output-sum r = xor-sum (r % 2) (r / 2 % 2) (omega arith) (omega arith)

pub output-lt : (r : ℕ) → output r < 2
output-lt r = omega (arith, output-sum r)

pub step-lt : (r : ℕ) → r < 2 ^ 15 → step r < 2 ^ 15
unfolding step
step-lt r h = omega (arith, output-lt r)

pub steps-lt : (n r : ℕ) → r < 2 ^ 15 → steps n r < 2 ^ 15
unfolding steps
steps-lt zero r h = h
steps-lt (suc n) r h = steps-lt n (step r) (step-lt r h)

pub steps_add : (m n r : ℕ) → steps m (steps n r) ≡ steps (n + m) r
unfolding steps
steps_add m zero r = ap (λ (k : ℕ). steps k r) (sym (zero-add m))
steps_add m (suc n) r = steps_add m n (step r) ∙ ap (λ (k : ℕ). steps k r) (sym (suc-add n m))

pub steps-step : (n r : ℕ) → step (steps n r) ≡ steps n (step r)
unfolding steps
steps-step zero r = refl
steps-step (suc n) r = steps-step n (step r)

-- a byte's steps before others
pub steps_byte : (a r : ℕ) → steps (8 * a) (steps 8 r) ≡ steps (8 * suc a) r
steps_byte a r = steps_add (8 * a) 8 r ∙ ap (λ (n : ℕ). steps n r) (omega arith)

-- a step more
pub steps_more : (n r : ℕ) → step (steps n r) ≡ steps (n + 1) r
unfolding steps
steps_more n r = steps_add 1 n r

-- ---- the bits that leave at bit 0, the first one highest

unfoldable pub leaving : ℕ → ℕ → ℕ
leaving zero r = 0
leaving (suc k) r = r % 2 * 2 ^ k + leaving k (step r)

pub leaving-lt : (k r : ℕ) → leaving k r < 2 ^ k
unfolding leaving
leaving-lt zero r = omega arith
leaving-lt (suc k) r = omega (arith, pow-suc 2 k, digits_lt (odd r) (leaving-lt k (step r)))

pub leaving-split : (a b r : ℕ) → leaving (a + b) r ≡ leaving a r * 2 ^ b + leaving b (steps a r)
unfolding leaving steps
leaving-split zero b r = simp (zero-add, zero-mul)
leaving-split (suc a) b r =
    ap (λ (n : ℕ). leaving n r) (suc-add a b)
    ∙ ap₂ (λ (x y : ℕ). r % 2 * x + y) (pow-add 2 a b) (leaving-split a b (step r))
    ∙ simp (add-mul, mul_assoc, add_assoc)

-- the first fifteen are the register's own bits
pub leaving_is_mirror : (n r : ℕ) → n ≤ 15 → leaving n r ≡ mirror n r
unfolding leaving mirror step
leaving_is_mirror zero r h = refl
leaving_is_mirror (suc n) r h =
    ap (λ (x : ℕ). r % 2 * 2 ^ n + x) (leaving_is_mirror n (step r) (omega arith) ∙ mirror-low n 14 (output r) (r / 2) (omega arith))

-- an output leaves 15 steps later
pub output-leaves : (r : ℕ) → r < 2 ^ 15 → steps 15 r % 2 ≡ output r
unfolding leaving mirror step
output-leaves r h =
    let a : leaving 16 r ≡ leaving 15 r * 2 ^ 1 + leaving 1 (steps 15 r) = leaving-split 15 1 r in
    let b : leaving 15 r ≡ mirror 15 r = leaving_is_mirror 15 r (omega arith) in
    let c : leaving 15 (step r) ≡ mirror 15 (step r) = leaving_is_mirror 15 (step r) (omega arith) in
    let d : mirror 15 (step r) ≡ mirror 14 (r / 2) * 2 + output r = mirror_top 14 (output r) (r / 2) (output-lt r) (omega arith) in
    by_digits (r % 2) (mirror 14 (r / 2)) (steps 15 r % 2) (output r) (leaving 15 r) (leaving 15 (step r)) a b (c ∙ d)
  where
    by_digits : (b m x o p q : ℕ) → b * 2 ^ 15 + q ≡ p * 2 ^ 1 + (x * 2 ^ 0 + 0) → p ≡ b * 2 ^ 14 + m → q ≡ m * 2 + o → x ≡ o
    by_digits b m x o p q e f g = omega arith

pub outputs_leave : (k r : ℕ) → r < 2 ^ 15 → outputs k r ≡ leaving k (steps 15 r)
unfolding outputs leaving
outputs_leave zero r h = refl
outputs_leave (suc k) r h =
    ap₂ (λ (x y : ℕ). x * 2 ^ k + y) (sym (output-leaves r h)) (outputs_leave k (step r) (step-lt r h) ∙ ap (leaving k) (sym (steps-step 15 r)))

-- bit 1 is the bit that leaves after bit 0
pub second-bit-leaves-next : (r : ℕ) → r / 2 % 2 ≡ step r % 2
unfolding step
second-bit-leaves-next r = sym (block_odd (output r) 13 (r / 2))

pub outputs-xor-leaving : (k r : ℕ) → outputs k r ≡ bit_xor (leaving k r) (leaving k (step r))
unfolding outputs leaving output
outputs-xor-leaving zero r = refl
outputs-xor-leaving (suc k) r =
    ap₂ (λ (x y : ℕ). bit_xor (r % 2) x * 2 ^ k + y) (second-bit-leaves-next r) (outputs-xor-leaving k (step r))
    ∙ sym (xor_block k (r % 2) (step r % 2) (leaving k (step r)) (leaving k (step (step r))) (leaving-lt k (step r)) (leaving-lt k (step (step r))))
