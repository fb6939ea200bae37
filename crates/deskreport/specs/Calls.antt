-- Document 02, E3, and document 01, 'Refusal numbers': what the calls of the desk's report answer and leave. Each is
-- OUTPUT SHORT where the lent output has less than the room for any text of its kind.
use Rattle.std.specs.Prelude.{ℕ, ◌+◌, List, length, Result}
use Rattle.ground.specs.declared.Refusal.{Refusal}
use Rattle.ground.specs.Answer.{counted, kept, fill_no, fill_answer, fill_leaves}
use Rattle.report.specs.Calls.{line_room, part_room, feed_no}
use Rattle.deskreport.specs.declared.inner.Reader.{Reader}
use Rattle.deskreport.specs.declared.inner.Fed.{Fed}
use Rattle.deskreport.specs.Text.{heading}
use Rattle.deskreport.specs.Stream.{feed_text, feed_reader, close_text}

-- ---- the heading

abbrev pub heading_answer : List ℕ → Result ℕ Refusal
heading_answer out = fill_answer (length heading) out

abbrev pub heading_leaves : List ℕ → List ℕ
heading_leaves out = fill_leaves (length heading) heading out

-- ---- a part of the input: each of its characters may end a line, as in document 01's report

abbrev pub feed_answer : Reader → List ℕ → List ℕ → Fed
feed_answer s part out =
    record {
      answer = counted (feed_no part out) (length (feed_text s part));
      reader = kept (feed_no part out) (feed_reader s part) s;
    }

abbrev pub feed_leaves : Reader → List ℕ → List ℕ → List ℕ
feed_leaves s part out = fill_leaves (part_room part) (feed_text s part) out

-- ---- the end of the input: an open line and the closing line

abbrev pub closing_room : ℕ
closing_room = 90

abbrev pub close_room : ℕ
close_room = line_room + closing_room

abbrev pub close_answer : Reader → List ℕ → Result ℕ Refusal
close_answer s out = counted (fill_no close_room out) (length (close_text s))

abbrev pub close_leaves : Reader → List ℕ → List ℕ
close_leaves s out = fill_leaves close_room (close_text s) out
