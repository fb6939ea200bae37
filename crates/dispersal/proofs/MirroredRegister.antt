-- The mirrored register, held with the bit that leaves next highest: its outputs and its next state, eight steps at
-- once. Assumes nothing.
use Prim.Native.Nat.{ℕ, ◌+◌, ◌*◌, ◌/◌, ◌%◌, ◌^◌, ◌<◌}
use native.Mathlib.Omega.{arith}
use mathlib.Core.Path.{◌≡◌, sym, ap, ap₂, ◌∙◌, subst}
use lib.Bits.{bit_xor, xor_mod}
use Rattle.dispersal.specs.Register.{step, steps, outputs}
use Rattle.dispersal.specs.Inner.{mirror}
use Rattle.dispersal.proofs.Mirror.{mirror-lt, mirror-mirror}
use Rattle.dispersal.proofs.Register.{steps-lt, steps_add, leaving, leaving-lt, leaving-split, leaving_is_mirror, outputs_leave, outputs-xor-leaving}

module _ (r : ℕ) (h : r < 2 ^ 15) where
  mirror_split_8 : mirror 15 r ≡ leaving 8 r * 2 ^ 7 + leaving 7 (steps 8 r)
  mirror_split_8 = sym (leaving_is_mirror 15 r (omega arith)) ∙ leaving-split 8 7 r

  mirror_split_9 : mirror 15 r ≡ (r % 2 * 2 ^ 8 + leaving 8 (step r)) * 2 ^ 6 + leaving 6 (steps 9 r)
  unfolding leaving
  mirror_split_9 = sym (leaving_is_mirror 15 r (omega arith)) ∙ leaving-split 9 6 r

  pub mirrored_outputs : bit_xor (mirror 15 r / 2 ^ 7) (mirror 15 r / 2 ^ 6) % 2 ^ 8 ≡ outputs 8 r
  mirrored_outputs =
      let a : mirror 15 r / 2 ^ 7 % 2 ^ 8 ≡ leaving 8 r = omega (arith, mirror_split_8, leaving-lt 8 r, leaving-lt 7 (steps 8 r)) in
      let b : mirror 15 r / 2 ^ 6 % 2 ^ 8 ≡ leaving 8 (step r) = omega (arith, mirror_split_9, leaving-lt 8 (step r), leaving-lt 6 (steps 9 r)) in
      xor_mod (mirror 15 r / 2 ^ 7) (mirror 15 r / 2 ^ 6) 8 ∙ ap₂ bit_xor a b ∙ sym (outputs-xor-leaving 8 r)

  pub mirrored_steps : mirror 15 r % 2 ^ 7 * 2 ^ 8 + outputs 8 r ≡ mirror 15 (steps 8 r)
  mirrored_steps =
      let a : mirror 15 r % 2 ^ 7 ≡ leaving 7 (steps 8 r) = omega (arith, mirror_split_8, leaving-lt 8 r, leaving-lt 7 (steps 8 r)) in
      ap₂ (λ (x y : ℕ). x * 2 ^ 8 + y) a (outputs_leave 8 r h ∙ ap (leaving 8) (sym (steps_add 7 8 r)))
      ∙ sym (leaving-split 7 8 (steps 8 r)) ∙ leaving_is_mirror 15 (steps 8 r) (omega arith)

-- a turn of the whitening loop: the mask is the next eight outputs, and the mirrored register moves on behind them
pub mirrored_next : (q r i m : ℕ) → r < 2 ^ 15 → q ≡ mirror 15 (steps (8 * i) r) → m ≡ bit_xor (q / 2 ^ 7) (q / 2 ^ 6) % 2 ^ 8
    → (m ≡ outputs 8 (steps (8 * i) r)) × (q % 2 ^ 7 * 2 ^ 8 + m ≡ mirror 15 (steps (8 * (i + 1)) r))
mirrored_next q r i m h e em =
    let p : ℕ = steps (8 * i) r in
    let hp : p < 2 ^ 15 = steps-lt (8 * i) r h in
    let a : m ≡ outputs 8 p = em ∙ ap (λ (x : ℕ). bit_xor (x / 2 ^ 7) (x / 2 ^ 6) % 2 ^ 8) e ∙ mirrored_outputs p hp in
    let b : steps 8 p ≡ steps (8 * (i + 1)) r = steps_add 8 (8 * i) r ∙ ap (λ (x : ℕ). steps x r) (omega arith) in
    (a, ap₂ (λ (x y : ℕ). x % 2 ^ 7 * 2 ^ 8 + y) e a ∙ mirrored_steps p hp ∙ ap (mirror 15) b)

pub mirrored_back : (q r : ℕ) → r < 2 ^ 15 → q ≡ mirror 15 r → mirror 15 (q % 2 ^ 15) ≡ r
mirrored_back q r h e =
    let s : q % 2 ^ 15 ≡ mirror 15 r = omega (arith, e, mirror-lt 15 r) in ap (mirror 15) s ∙ mirror-mirror 15 r h

-- before the loop and behind it
pub mirrored_start : (q x : ℕ) → q ≡ mirror 15 x → q ≡ mirror 15 (steps (8 * 0) (mirror 15 q))
unfolding steps
mirrored_start q x e = sym (mirror-mirror 15 q (subst (λ (y : ℕ). y < 2 ^ 15) (sym e) (mirror-lt 15 x)))

pub mirrored_mirrored : (q x : ℕ) → x < 2 ^ 15 → q ≡ mirror 15 x → mirror 15 q ≡ x
mirrored_mirrored q x h e = ap (mirror 15) e ∙ mirror-mirror 15 x h
