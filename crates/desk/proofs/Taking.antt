-- What the desk answers and has gathered on each of the three ways that a word can go, and what agreeing asks at each
-- number. Assumes nothing.
use mathlib.Core.Path.{◌≡◌}
use mathlib.Core.Bool.{true, false}
use Prim.Native.Nat.{ℕ, ◌<◌}
use native.Mathlib.Omega.{arith}
use Rattle.std.specs.Prelude.{None}
use Rattle.ground.specs.declared.Refusal.TheVariants.{OutOfStep, Mismatch}
use Rattle.tps.specs.declared.word.TpsWord.{TpsWord}
use Rattle.desk.specs.declared.Desk.{Desk}
use Rattle.desk.specs.Desk.{parameters_of, are_same, wanted_by, agrees, accepted, went_on, refused, take_answer}

module _ (d : Desk) (w : TpsWord) where
  pub out_of_step : (w.frame_number ≡ wanted_by d → ⊥) → take_answer d w ≡ refused OutOfStep w
  unfolding take_answer
  out_of_step h = grind arith

  pub mismatch : w.frame_number ≡ wanted_by d → agrees (wanted_by d) d w ≡ false → take_answer d w ≡ refused Mismatch w
  unfolding take_answer
  mismatch e h = grind arith

  pub goes_on : w.frame_number ≡ wanted_by d → agrees (wanted_by d) d w ≡ true → take_answer d w ≡ went_on (wanted_by d) d w
  unfolding take_answer
  goes_on e h = grind arith

  -- ---- by the number that is wanted

  pub other-parameters : (n : ℕ) → 0 < n → are_same d.parameters (parameters_of w) ≡ false → agrees n d w ≡ false
  other-parameters n h e = grind arith

  pub accepted-fewer : (n : ℕ) → n < 3 → accepted n d w ≡ None
  accepted-fewer n h = grind arith
