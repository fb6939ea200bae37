-- Document 02, E3; EN 300 744, 4.6.2.4 and 4.6.2.10: what the desk answers to a word, and what it has gathered then.
-- That this is the rule over the words handed in is said in SuperFrame.antt, without a desk.
use Rattle.std.specs.Prelude.{Bool, true, not, ◌&&◌, cond, List, [], ◌∷◌, ℕ, zero, suc, ◌+◌, ◌*◌, eqb, leb}
use Rattle.std.specs.Prelude.{Option, Some, None, Result, Ok, Err}
use Rattle.ground.specs.declared.Refusal.{Refusal}
use Rattle.ground.specs.Refusal.{OUT_OF_STEP, MISMATCH, ◌gives◌, first_of, code}
use Rattle.ground.specs.Answer.{answer_by, kept}
use Rattle.tps.specs.declared.word.TpsWord.{TpsWord}
use Rattle.tps.specs.Codes.{codes_of}
use Rattle.desk.specs.declared.Parameters.{Parameters}
use Rattle.desk.specs.declared.Desk.{Desk}
use Rattle.desk.specs.declared.SuperFrame.{SuperFrame}
use Rattle.desk.specs.declared.Taken.{Taken}

-- ---- what the words of a super-frame share

abbrev pub parameters_of : TpsWord → Parameters
parameters_of w =
    record {
      constellation = (codes_of w).constellation;
      code_rate_hp = (codes_of w).rate;
      guard = (codes_of w).guard;
    }

abbrev pub are_same : Parameters → Parameters → Bool
are_same p q =
    eqb p.constellation q.constellation
    && eqb p.code_rate_hp q.code_rate_hp
    && eqb p.guard q.guard

-- ---- what is gathered

-- nothing: number 0 is wanted
abbrev pub fresh : Desk
fresh =
    record { wanted = 0; high = 0; low = 0; parameters = record { constellation = 0; code_rate_hp = 0; guard = 0 } }

-- the first word, which has the high byte of the cell id
abbrev pub started : TpsWord → Desk
started w = record { wanted = 1; high = w.cell_id; low = 0; parameters = parameters_of w }

-- after a word that doesn't go on with what was gathered: it starts afresh where its number is 0, and else is dropped
-- too
abbrev pub afresh : TpsWord → Desk
afresh w = cond (eqb w.frame_number 0) (started w) fresh

-- the number that is wanted; a desk made by hand with a number above 3 wants 0
abbrev pub wanted_by : Desk → ℕ
wanted_by d = cond (leb d.wanted 3) d.wanted 0

-- the desk that wants it, and holds the same
abbrev pub as_read : Desk → Desk
as_read d = record { wanted = wanted_by d; high = d.high; low = d.low; parameters = d.parameters }

-- a word with the number that is wanted agrees with what is gathered: nothing is compared at 0; the parameters are at
-- 1, the high byte too at 2, and the low byte too at 3
abbrev pub agrees : ℕ → Desk → TpsWord → Bool
agrees zero d w = true
agrees (suc zero) d w = are_same d.parameters (parameters_of w)
agrees (suc (suc zero)) d w = are_same d.parameters (parameters_of w) && eqb d.high w.cell_id
agrees (suc (suc (suc n))) d w = are_same d.parameters (parameters_of w) && eqb d.low w.cell_id

-- what is gathered with it
abbrev pub gone_on : ℕ → Desk → TpsWord → Desk
gone_on zero d w = started w
gone_on (suc zero) d w = record { wanted = 2; high = d.high; low = w.cell_id; parameters = d.parameters }
gone_on (suc (suc zero)) d w = record { wanted = 3; high = d.high; low = d.low; parameters = d.parameters }
gone_on (suc (suc (suc n))) d w = fresh

-- ---- a call

-- the super-frame that its last word completes
abbrev pub super_frame_by : Desk → TpsWord → SuperFrame
super_frame_by d w =
    record {
      cell_id = d.high * 256 + d.low;
      constellation = w.constellation;
      code_rate_hp = w.code_rate_hp;
      guard = w.guard;
    }

-- an answer: the super-frame that a word completes, or none where it is gathered; or the refusal
abbrev pub Answer : Type 0
Answer = Result (Option SuperFrame) Refusal

-- what a word that isn't refused completes
abbrev pub accepted : ℕ → Desk → TpsWord → Option SuperFrame
accepted zero d w = None
accepted (suc zero) d w = None
accepted (suc (suc zero)) d w = None
accepted (suc (suc (suc n))) d w = Some (super_frame_by d w)

abbrev pub take_no : Desk → TpsWord → Option Refusal
take_no d w =
    first_of
    (not (eqb w.frame_number (wanted_by d)) gives OUT_OF_STEP
    ∷ not (agrees (wanted_by d) d w) gives MISMATCH
    ∷ [])

-- the answer and the desk after it, where the word isn't refused, and where it is: unlike document 01's, these
-- refusals change the state
abbrev pub went_on : ℕ → Desk → TpsWord → Taken
went_on n d w = record { answer = Ok (accepted n d w); desk = gone_on n d w }

abbrev pub refused : Refusal → TpsWord → Taken
refused r w = record { answer = Err r; desk = afresh w }

unfoldable pub take_answer : Desk → TpsWord → Taken
take_answer d w =
    record {
      answer = answer_by (take_no d w) (accepted (wanted_by d) d w);
      desk = kept (take_no d w) (gone_on (wanted_by d) d w) (afresh w);
    }

-- document 02's number, and what is complete, for each case of an answer: no two answers say the same
abbrev pub answer_says : Answer → ℕ × List (List SuperFrame)
answer_says (Ok None) = (0, [] ∷ [])
answer_says (Ok (Some s)) = (0, (s ∷ []) ∷ [])
answer_says (Err r) = (code (Some r), [])
