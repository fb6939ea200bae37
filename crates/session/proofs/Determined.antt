-- Two results of a call that meet its promise are equal, for each public call. Assumes nothing.
use mathlib.Core.Path.{◌≡◌, sym, ap, ◌∙◌}
use mathlib.Core.List.{List}
use Prim.Native.Nat.{ℕ}
use lib.Ieee.{Float}
use Rattle.std.specs.Prelude.{Option}
use Rattle.ground.specs.declared.Refusal.{Refusal}
use Rattle.ground.proofs.Answers.{OneAnswer, one_answer, answer-says-number}
use Rattle.carriers.specs.Mode.{Mode}
use Rattle.tps.specs.Packing.{Unpacked}
use Rattle.tps.proofs.Determined.{word_determined}
use Rattle.session.specs.declared.Session.{Session}
use Rattle.session.specs.declared.Called.{Called}
use Rattle.session.specs.Session.{decoder_of, next_phase, fresh, Feeds, step_number, step_by, step_back_answer, Words}

pub session_determined : (m : Mode) → OneAnswer (fresh m)
session_determined m = one_answer (fresh m)

pub phase_determined : (s : Session) → OneAnswer (next_phase s)
phase_determined s = one_answer (next_phase s)

pub same-fed : {m : Mode} {s : Session} {y d j : List Float} {r r' : Called ℕ} {d₁ d₂ j₁ j₂ : List Float} → Feeds m s y d j r d₁ j₁
    → Feeds m s y d j r' d₂ j₂ → (r ≡ r') × (d₁ ≡ d₂) × (j₁ ≡ j₂)
same-fed p q = (p.result ∙ sym q.result, p.data_cells ∙ sym q.data_cells, p.journal_cells ∙ sym q.journal_cells)

pub step_back_determined : (m : Mode) (s : Session) (journal : List Float) → OneAnswer (step_back_answer m s journal)
step_back_determined m s journal = one_answer (step_back_answer m s journal)

-- a step back says its refusal, and no two of its answers say the same
pub step-says : (n : Option Refusal) → step_number (step_by n) ≡ n
step-says n = answer-says-number n tt

pub step-told : (n k : Option Refusal) → step_number (step_by n) ≡ step_number (step_by k) → step_by n ≡ step_by k
step-told n k e = ap step_by (sym (step-says n) ∙ e ∙ step-says k)

pub same_word : (s : Session) (r q : Unpacked) → Words s r → Words s q → r ≡ q
same_word s r q h k = word_determined (decoder_of s) r q h k
