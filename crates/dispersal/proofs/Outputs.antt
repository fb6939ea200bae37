-- The register's outputs: each is the XOR of the two that come 15 and 14 steps before it, and so of those 960 and 896
-- before it. Assumes nothing.
use Prim.Native.Nat.{ℕ, zero, suc, ◌+◌, ◌*◌, ◌%◌, ◌^◌, ◌<◌}
use native.Mathlib.Nat.{pow-suc}
use native.Mathlib.Omega.{arith}
use mathlib.Core.Path.{◌≡◌, refl, sym, ap, ap₂, ◌∙◌}
use lib.Arith.{digits_lt}
use lib.Bits.{bit_xor, xor_block}
use Rattle.ground.proofs.Xor.{xor-sum}
use Rattle.dispersal.specs.Register.{output, step, steps, outputs}
use Rattle.dispersal.proofs.Register.{output-sum, output-lt, step-lt, steps-lt, steps_add, steps-step, output-leaves, second-bit-leaves-next}

-- ---- outputs from outputs long before

-- the output k steps on is the sum of this one and the one m steps on
Sum : ℕ → ℕ → Type 0
Sum k m = (r : ℕ) → r < 2 ^ 15 → output (steps k r) ≡ (output r + output (steps m r)) % 2

sum_15 : Sum 15 1
unfolding Sum steps
sum_15 r h =
    output-sum (steps 15 r)
    ∙ ap₂ (λ (x y : ℕ). (x + y) % 2) (output-leaves r h)
    (second-bit-leaves-next (steps 15 r) ∙ ap (λ (x : ℕ). x % 2) (steps-step 15 r) ∙ output-leaves (step r) (step-lt r h))

sum_cancels : (x y z : ℕ) → ((x + y) % 2 + (y + z) % 2) % 2 ≡ (x + z) % 2
sum_cancels x y z = omega arith

-- and so at twice the distance
sum_twice : (k m : ℕ) → Sum k m → Sum (k + k) (m + m)
unfolding Sum
sum_twice k m s r h =
    let a : output (steps (k + k) r) ≡ (output (steps k r) + output (steps m (steps k r))) % 2 =
    ap output (sym (steps_add k k r)) ∙ s (steps k r) (steps-lt k r h) in
    let b : output (steps k r) ≡ (output r + output (steps m r)) % 2 = s r h in
    let e : steps m (steps k r) ≡ steps k (steps m r) = steps_add m k r ∙ ap (λ (n : ℕ). steps n r) (omega arith) ∙ sym (steps_add k m r) in
    let c : output (steps m (steps k r)) ≡ (output (steps m r) + output (steps (m + m) r)) % 2 =
    ap output e ∙ s (steps m r) (steps-lt m r h) ∙ ap (λ (x : ℕ). (output (steps m r) + output x) % 2) (steps_add m m r) in
    a ∙ ap₂ (λ (x y : ℕ). (x + y) % 2) b c ∙ sum_cancels (output r) (output (steps m r)) (output (steps (m + m) r))

sum_960 : Sum 960 64
sum_960 = sum_twice 480 32 (sum_twice 240 16 (sum_twice 120 8 (sum_twice 60 4 (sum_twice 30 2 (sum_twice 15 1 sum_15)))))

outputs-lt : (k r : ℕ) → outputs k r < 2 ^ k
unfolding outputs
outputs-lt zero r = omega arith
outputs-lt (suc k) r = omega (arith, pow-suc 2 k, digits_lt (output-lt r) (outputs-lt k (step r)))

pub outputs_960 : (k r : ℕ) → r < 2 ^ 15 → outputs k (steps 960 r) ≡ bit_xor (outputs k r) (outputs k (steps 64 r))
unfolding outputs Sum
outputs_960 zero r h = refl
outputs_960 (suc k) r h =
    ap₂ (λ (x y : ℕ). x * 2 ^ k + y)
    (sum_960 r h ∙ sym (xor-sum (output r) (output (steps 64 r)) (output-lt r) (output-lt (steps 64 r))))
    (ap (outputs k) (steps-step 960 r) ∙ outputs_960 k (step r) (step-lt r h) ∙ ap (λ (x : ℕ). bit_xor (outputs k (step r)) (outputs k x)) (sym (steps-step 64 r)))
    ∙ sym (xor_block k (output r) (output (steps 64 r)) (outputs k (step r)) (outputs k (step (steps 64 r))) (outputs-lt k (step r)) (outputs-lt k (step (steps 64 r))))
