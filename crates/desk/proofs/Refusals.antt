-- Each refusal of a call over any desk, exactly when, and what is gathered behind it; a desk made by hand. Assumes
-- nothing.
use mathlib.Core.Path.{◌≡◌, refl}
use mathlib.Core.Logic.{◌↔◌}
use mathlib.Core.Bool.{true}
use mathlib.Core.List.{List}
use Prim.Native.Nat.{ℕ, ◌<◌}
use native.Mathlib.Omega.{arith}
use Rattle.std.specs.Prelude.{Option, Some, None, Ok, Err}
use Rattle.ground.specs.declared.Refusal.{Refusal}
use Rattle.ground.specs.Refusal.{ACCEPTED, OUT_OF_STEP, MISMATCH, code, code_of}
use Rattle.ground.specs.Answer.{number_of, answer_by, kept}
use Rattle.tps.specs.declared.word.TpsWord.{TpsWord}
use Rattle.desk.specs.declared.Desk.{Desk}
use Rattle.desk.specs.declared.SuperFrame.{SuperFrame}
use Rattle.desk.specs.declared.Taken.{Taken}
use Rattle.desk.specs.Desk.{Answer, parameters_of, fresh, started, afresh, wanted_by, agrees, gone_on, accepted, take_answer, answer_says}
use Rattle.desk.proofs.Taking.{out_of_step, mismatch, goes_on, other-parameters}
use Rattle.desk.proofs.SameParameters.{same-holds}

module _ (d : Desk) (w : TpsWord) where
  pub taking_out_of_step : (number_of (take_answer d w).answer ≡ OUT_OF_STEP) ↔ (w.frame_number ≡ wanted_by d → ⊥)
  unfolding take_answer
  taking_out_of_step = grind arith

  pub taking_mismatch : (number_of (take_answer d w).answer ≡ MISMATCH)
      ↔ ((w.frame_number ≡ wanted_by d) × (agrees (wanted_by d) d w ≡ true → ⊥))
  taking_mismatch = (λ e. (grind (arith, out_of_step d w), λ g. grind (arith, out_of_step d w, goes_on d w)), λ p. grind (arith, mismatch d w p.0))

  -- ---- what is gathered behind a refusal, and where the number is 0

  -- behind a refused word nothing is gathered, or this word where its number is 0
  pub refused-leaves : (number_of (take_answer d w).answer ≡ ACCEPTED → ⊥) → (take_answer d w).desk ≡ afresh w
  unfolding take_answer
  refused-leaves h = grind arith

  -- a word with number 0 starts afresh, whatever was gathered and whether it is refused or not
  pub zero_starts_afresh : w.frame_number ≡ 0 → (take_answer d w).desk ≡ started w
  unfolding take_answer
  zero_starts_afresh z = grind arith

  -- behind a word that completes a super-frame nothing is gathered
  pub complete-leaves : (s : SuperFrame) → (take_answer d w).answer ≡ Ok (Some s) → (take_answer d w).desk ≡ fresh
  unfolding take_answer
  complete-leaves s e = grind arith

  -- no call is refused by 0
  pub taken_by_0 : number_of (take_answer d w).answer ≡ ACCEPTED → (take_answer d w).answer ≡ Ok (accepted (wanted_by d) d w)
  unfolding take_answer
  taken_by_0 e = grind arith

-- ---- a desk made by hand

-- where 0 is wanted, which a number above 3 says too, nothing that is held is read
module _ (d : Desk) (w : TpsWord) where
  abbrev by_number : Option Refusal → ℕ → Taken
  by_number k n = record { answer = answer_by k (accepted n d w); desk = kept k (gone_on n d w) (afresh w) }

  pub nothing_read : wanted_by d ≡ 0 → take_answer d w ≡ take_answer fresh w
  unfolding take_answer
  nothing_read e = grind arith

  pub above_is_new : 3 < d.wanted → take_answer d w ≡ take_answer fresh w
  above_is_new h = nothing_read (grind arith)

  -- parameters that no word has agree with none: the word with the number wanted is MISMATCH
  pub strange_mismatch : ((v : TpsWord) → d.parameters ≡ parameters_of v → ⊥) → 0 < wanted_by d → w.frame_number ≡ wanted_by d
      → number_of (take_answer d w).answer ≡ MISMATCH
  strange_mismatch h p e = grind (arith, taking_mismatch, other-parameters, same-holds)

-- ---- no two cases of an answer say the same

code-told : (a b : Refusal) → code_of a ≡ code_of b → a ≡ b
code-told a b e = grind arith

abbrev Says : Type 0
Says = ℕ × List (List SuperFrame)

-- the number that an answer says is that of its refusal, by which the refusals above are told
pub answer-number-is : (a : Answer) → (answer_says a).0 ≡ code (number_of a)
answer-number-is (Ok None) = refl
answer-number-is (Ok (Some s)) = refl
answer-number-is (Err r) = refl

pub answer_faithful : (a b : Answer) → answer_says a ≡ answer_says b → a ≡ b
answer_faithful a b e = grind (arith, code-told)
