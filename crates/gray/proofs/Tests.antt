-- A test that antt computes over every list of so many bits, carried to each of them; and one number is below another
-- or not. Assumes nothing.
use Prim.Native.Nat.{ℕ, zero, suc, ◌≤◌, ◌<◌}
use native.Mathlib.Nat.{suc_inj, suc-ne-zero}
use native.Mathlib.Decide.{dec_lt}
use native.Mathlib.Omega.{arith}
use mathlib.Core.Path.{◌≡◌, sym}
use mathlib.Core.Logic.{◌⊎◌, inl, inr}
use mathlib.Core.Bool.{Bool, ◌&&◌}
use mathlib.Core.List.{List, [], ◌∷◌}
use lib.Dec.{T}
use lib.Ieee.Fits.{and_l, and_r}
use lib.ListN.{length}
use Rattle.ground.specs.Bits.{Bits}
use Rattle.ground.proofs.Xor.{bit_cases}

unfoldable pub every : ℕ → (List ℕ → Bool) → Bool
every zero f = f []
every (suc n) f = every n (λ l. f (0 ∷ l)) && every n (λ l. f (1 ∷ l))

pub every-at : (n : ℕ) (f : List ℕ → Bool) → T (every n f) → (l : List ℕ) → length l ≡ n → Bits l → T (f l)
unfolding every
every-at zero f t [] e h = t
every-at zero f t (b ∷ r) e h = absurd (suc-ne-zero (length r) e)
every-at (suc n) f t [] e h = absurd (suc-ne-zero n (sym e))
every-at (suc n) f t (b ∷ r) e h =
    let zeros : Bool = every n (λ l. f (0 ∷ l)) in
    let ones : Bool = every n (λ l. f (1 ∷ l)) in
    bit_cases (λ (x : ℕ). T (f (x ∷ r)))
    (every-at n (λ l. f (0 ∷ l)) (and_l zeros ones t) r (suc_inj e) h.1)
    (every-at n (λ l. f (1 ∷ l)) (and_r zeros ones t) r (suc_inj e) h.1) b h.0

pub lt_or_ge : (a b : ℕ) → (a < b) ⊎ (b ≤ a)
lt_or_ge a b = by (dec_lt a b)
  where
    by : Dec (a < b) → (a < b) ⊎ (b ≤ a)
    by (yes l) = inl l
    by (no n) = inr (omega arith)
