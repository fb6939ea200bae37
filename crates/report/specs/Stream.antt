-- Document 01, 'Report program': the report of an input in parts of any size. What the reader holds after a part, and
-- what is written for it. That the parts make up the report of the whole input is the theorem `any-cutting`.
use Rattle.std.specs.Prelude.{ℕ, ◌+◌, ◌%◌, ◌^◌, List, replicate}
use Rattle.report.specs.declared.Reader.{Reader}
use Rattle.report.specs.declared.inner.OpenLine.{OpenLine}
use Rattle.report.specs.declared.stream.Counts.{Counts}
use Rattle.report.specs.Reading.{refusals}
use Rattle.report.specs.OpenLine.{open_line, answers_in, line_after, last_answers}
use Rattle.report.specs.Text.{in_numbers, line_text, closing}
use Rattle.report.specs.Telling.{Teller, kept_after, text_over, rest_text}

-- ---- what the reader holds

abbrev pub fresh : Reader
fresh = record { held = replicate 17 0; count = 0; lines = 0; refused = 0 }

abbrev pub line_of : Reader → OpenLine
line_of s = open_line s.held s.count

-- a count of 64 bits: behind its highest it starts again
abbrev pub plus : ℕ → ℕ → ℕ
plus n k = (n + k) % 2 ^ 64

abbrev pub counts_of : Reader → Counts
counts_of s = record { lines = s.lines; refused = s.refused }

-- a line more, its text, and the closing line
abbrev pub teller : Teller Counts
teller =
    record {
      moved = λ k a. record { lines = plus k.lines 1; refused = plus k.refused (refusals a) };
      text = λ k a. line_text (plus k.lines 1) (in_numbers a);
      closing = λ k. closing k.lines k.refused;
    }

-- ---- what is written

-- a part of the input
abbrev pub feed_text : Reader → List ℕ → List ℕ
feed_text s part = text_over teller (counts_of s) (answers_in (line_of s) part)

abbrev pub feed_reader : Reader → List ℕ → Reader
feed_reader s part =
    record {
      held = (line_after (line_of s) part).held;
      count = (line_after (line_of s) part).count;
      lines = (kept_after teller (counts_of s) (answers_in (line_of s) part)).lines;
      refused = (kept_after teller (counts_of s) (answers_in (line_of s) part)).refused;
    }

-- the end of the input
unfoldable pub close_text : Reader → List ℕ
close_text s = rest_text teller (counts_of s) (last_answers (line_of s))
