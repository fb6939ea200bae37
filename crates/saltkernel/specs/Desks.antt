-- Document 02, E3, over the C interface: a word by its codes, and the desk's answer to it as numbers, 0 for accepted;
-- a code that stands for nothing is RESERVED before the desk's own refusals, and leaves the desk as it was.
use Rattle.std.specs.Prelude.{◌≡◌, ℕ, Some, None, Result, Ok, Err}
use Rattle.ground.specs.declared.Refusal.{Refusal}
use Rattle.ground.specs.Refusal.{code_of}
use Rattle.tps.specs.declared.word.TpsWord.{TpsWord}
use Rattle.tps.specs.Codes.{constellation_code, rate_code, guard_code}
use Rattle.desk.specs.declared.Parameters.{Parameters}
use Rattle.desk.specs.declared.Desk.{Desk}
use Rattle.desk.specs.declared.SuperFrame.{SuperFrame}
use Rattle.desk.specs.declared.Taken.{Taken}
use Rattle.desk.specs.Desk.{Answer}
use Rattle.desk.specs.Desk as desk
use Rattle.saltkernel.specs.Words.{word_in}
use Rattle.saltkernel.specs.declared.words.SaltTpsWord.{SaltTpsWord}
use Rattle.saltkernel.specs.declared.desks.SaltDeskTaken.{SaltDeskTaken}

-- the answer to what codes say
abbrev pub taken_by : Desk → Result TpsWord Refusal → Taken
taken_by d (Ok w) = desk.take_answer d w
taken_by d (Err r) = record { answer = Err r; desk = d }

abbrev pub take_answer : Desk → SaltTpsWord → Taken
take_answer d c = taken_by d (word_in c)

-- the codes of a super-frame's parameters
abbrev pub frame_codes : SuperFrame → Parameters
frame_codes s =
    record {
      constellation = constellation_code s.constellation;
      code_rate_hp = rate_code s.code_rate_hp;
      guard = guard_code s.guard;
    }

-- the numbers of a complete super-frame, and of any other answer
abbrev pub complete : SuperFrame → Desk → SaltDeskTaken
complete s d = record { number = 0; complete = 1; cell_id = s.cell_id; parameters = frame_codes s; desk = d }

abbrev pub incomplete : ℕ → Desk → SaltDeskTaken
incomplete k d =
    record {
      number = k;
      complete = 0;
      cell_id = 0;
      parameters = record { constellation = 0; code_rate_hp = 0; guard = 0 };
      desk = d;
    }

abbrev pub taken_numbers : Answer → Desk → SaltDeskTaken
taken_numbers (Ok None) d = incomplete 0 d
taken_numbers (Ok (Some s)) d = complete s d
taken_numbers (Err r) d = incomplete (code_of r) d

-- the numbers and the desk are what the answer says
pub record SaysTaken (r : SaltDeskTaken) (a : Taken) : Type 0 where
  pub says : r ≡ taken_numbers a.answer a.desk
