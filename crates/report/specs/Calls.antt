-- Document 01, 'Report program' and 'Refusal numbers': what the calls of the report answer and leave. Each is OUTPUT
-- SHORT where the lent output has less than the room for any text of its kind.
use Rattle.std.specs.Prelude.{ℕ, ◌*◌, List, length, Option, Result}
use Rattle.ground.specs.declared.Refusal.{Refusal}
use Rattle.ground.specs.Answer.{counted, kept, fill_no, fill_answer, fill_leaves}
use Rattle.tps.specs.declared.word.MendedWord.{MendedWord}
use Rattle.report.specs.declared.Reader.{Reader}
use Rattle.report.specs.declared.Fed.{Fed}
use Rattle.report.specs.Text.{heading, line_text}
use Rattle.report.specs.Stream.{feed_text, feed_reader, close_text}

-- ---- the heading

abbrev pub heading_answer : List ℕ → Result ℕ Refusal
heading_answer out = fill_answer (length heading) out

abbrev pub heading_leaves : List ℕ → List ℕ
heading_leaves out = fill_leaves (length heading) heading out

-- ---- a line, whose number has at most 20 digits

abbrev pub line_room : ℕ
line_room = 60

abbrev pub line_no : List ℕ → Option Refusal
line_no out = fill_no line_room out

abbrev pub line_answer : ℕ → Result MendedWord ℕ → List ℕ → Result ℕ Refusal
line_answer n a out = counted (line_no out) (length (line_text n a))

abbrev pub line_leaves : ℕ → Result MendedWord ℕ → List ℕ → List ℕ
line_leaves n a out = fill_leaves line_room (line_text n a) out

-- ---- a part of the input: each of its characters may end a line

abbrev pub part_room : List ℕ → ℕ
part_room part = line_room * length part

abbrev pub feed_no : List ℕ → List ℕ → Option Refusal
feed_no part out = fill_no (part_room part) out

abbrev pub feed_answer : Reader → List ℕ → List ℕ → Fed
feed_answer s part out =
    record {
      answer = counted (feed_no part out) (length (feed_text s part));
      reader = kept (feed_no part out) (feed_reader s part) s;
    }

abbrev pub feed_leaves : Reader → List ℕ → List ℕ → List ℕ
feed_leaves s part out = fill_leaves (part_room part) (feed_text s part) out

-- ---- the end of the input: an open line and the closing line

abbrev pub close_room : ℕ
close_room = 2 * line_room

abbrev pub close_no : List ℕ → Option Refusal
close_no out = fill_no close_room out

abbrev pub close_answer : Reader → List ℕ → Result ℕ Refusal
close_answer s out = counted (close_no out) (length (close_text s))

abbrev pub close_leaves : Reader → List ℕ → List ℕ
close_leaves s out = fill_leaves close_room (close_text s) out
