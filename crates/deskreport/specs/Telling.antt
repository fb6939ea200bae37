-- Document 02, E3: how the desk's report is told. The word of a line is handed to the desk; a line that document 01's
-- report refuses is refused here too, and isn't handed to it.
use Rattle.std.specs.Prelude.{ℕ, Some, None, Ok, Err}
use Rattle.tps.specs.Packing.{Unpacked}
use Rattle.desk.specs.declared.Desk.{Desk}
use Rattle.desk.specs.declared.Taken.{Taken}
use Rattle.desk.specs.Desk.{Answer}
use Rattle.desk.specs.Desk as desk
use Rattle.report.specs.Telling.{Teller}
use Rattle.report.specs.Stream.{plus}
use Rattle.deskreport.specs.declared.inner.Tally.{Tally}
use Rattle.deskreport.specs.Text.{answer_text, closing}

-- what the desk says to a line's answer, and the desk then
abbrev pub line_taken : Desk → Unpacked → Taken
line_taken d (Ok m) = desk.take_answer d m.word
line_taken d (Err r) = record { answer = Err r; desk = d }

-- how many complete super-frames, and how many refusals, an answer is
abbrev pub completions : Answer → ℕ
completions (Ok None) = 0
completions (Ok (Some s)) = 1
completions (Err r) = 0

abbrev pub refusals : Answer → ℕ
refusals (Ok None) = 0
refusals (Ok (Some s)) = 0
refusals (Err r) = 1

-- before the first line
abbrev pub start : Tally
start = record { lines = 0; complete = 0; refused = 0; desk = desk.fresh }

-- a line more
abbrev pub counted : Tally → Taken → Tally
counted k t =
    record {
      lines = plus k.lines 1;
      complete = plus k.complete (completions t.answer);
      refused = plus k.refused (refusals t.answer);
      desk = t.desk;
    }

abbrev pub teller : Teller Tally
teller =
    record {
      moved = λ k a. counted k (line_taken k.desk a);
      text = λ k a. answer_text (plus k.lines 1) (line_taken k.desk a).answer;
      closing = closing;
    }
