-- The same parameters are the same constellation, rate and guard; and the test of the desk decides them. Assumes
-- nothing.
use mathlib.Core.Path.{◌≡◌, refl, ap, subst}
use mathlib.Core.Logic.{◌↔◌}
use mathlib.Core.Bool.{true}
use Prim.Native.Nat.{ℕ}
use native.Mathlib.Omega.{arith}
use Rattle.tps.specs.declared.word.TpsWord.{TpsWord}
use Rattle.tps.specs.Codes.{constellation_code, rate_code, guard_code}
use Rattle.tps.proofs.Faithful.{constellation_faithful, rate_faithful, guard_faithful}
use Rattle.desk.specs.declared.Parameters.{Parameters}
use Rattle.desk.specs.Desk.{are_same}
use Rattle.desk.specs.SuperFrame.{Same}

abbrev parameters : ℕ → ℕ → ℕ → Parameters
parameters c r g = record { constellation = c; code_rate_hp = r; guard = g }

three_equal : {c r g c' r' g' : ℕ} → c ≡ c' → r ≡ r' → g ≡ g' → parameters c r g ≡ parameters c' r' g'
three_equal e f h = rw (e, f, h) refl

-- constellation, rate and guard
pub same-parameters : (v w : TpsWord)
    → Same v w ↔ ((v.constellation ≡ w.constellation) × (v.code_rate_hp ≡ w.code_rate_hp) × (v.guard ≡ w.guard))
same-parameters v w = (
  λ e. (
    constellation_faithful v.constellation w.constellation (ap (λ (p : Parameters). p.constellation) e),
    rate_faithful v.code_rate_hp w.code_rate_hp (ap (λ (p : Parameters). p.code_rate_hp) e),
    guard_faithful v.guard w.guard (ap (λ (p : Parameters). p.guard) e),
  ),
  λ e. three_equal (ap constellation_code e.0) (ap rate_code e.1) (ap guard_code e.2),
)

-- ---- the test

all_same : (p : Parameters) → are_same p p ≡ true
all_same p = grind arith

pub same-holds : (p q : Parameters) → (are_same p q ≡ true) ↔ (p ≡ q)
same-holds p q = (λ e. grind arith, λ e. subst (λ (r : Parameters). are_same p r ≡ true) e (all_same p))
