-- How long null packets are, and that none are added where the target is there already. Assumes nothing.
use Prim.Native.Nat.{ℕ, ◌-◌, ◌*◌, ◌/◌, ◌%◌, ◌≤◌, max}
use native.Mathlib.Omega.{arith}
use mathlib.Core.Path.{◌≡◌, refl, sym, ap, ap₂, ◌∙◌}
use mathlib.Core.List.{List, [], ◌++◌, append-nil}
use lib.ListN.{take, drop, take-append-drop}
use Rattle.ground.specs.Chunks.{chunks}
use Rattle.ground.proofs.Chunks.{Each}
use Rattle.ts.specs.Stuffing.{null, nulls, stuffed}

pub nulls_each : (n : ℕ) → Each (λ (i : ℕ) (p : List ℕ). null) 188 188 n 0 []
nulls_each n j l = refl

-- where the target is there already, nothing is added
pub stuffed-none : (used target : ℕ) (o : List ℕ) → used % 188 ≡ 0 → target ≤ used / 188 → o ≡ stuffed used target o
unfolding chunks
stuffed-none used target o m l =
    let z : 0 ≡ target - used / 188 = omega arith in
    let y : used ≡ max used (188 * target) = omega arith in
    sym (take-append-drop used o)
    ∙ ap (λ (x : List ℕ). x ++ drop used o) (sym (append-nil (take used o)))
    ∙ ap₂ (λ (x n : ℕ). take used o ++ nulls x ++ drop n o) z y
