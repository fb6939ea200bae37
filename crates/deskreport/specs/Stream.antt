-- Document 02, E3: the desk's report of an input in parts of any size. What the reader holds after a part, and what is
-- written for it. That the parts make up the report of the whole input is the theorem `told-whole`.
use Rattle.std.specs.Prelude.{ℕ, List}
use Rattle.report.specs.OpenLine.{empty_line, answers_in, line_after, last_answers}
use Rattle.report.specs.Telling.{kept_after, text_over, rest_text}
use Rattle.deskreport.specs.declared.inner.Reader.{Reader}
use Rattle.deskreport.specs.Telling.{start, teller}

abbrev pub fresh : Reader
fresh = record { line = empty_line; tally = start }

-- a part of the input
abbrev pub feed_text : Reader → List ℕ → List ℕ
feed_text s part = text_over teller s.tally (answers_in s.line part)

abbrev pub feed_reader : Reader → List ℕ → Reader
feed_reader s part =
    record { line = line_after s.line part; tally = kept_after teller s.tally (answers_in s.line part) }

-- the end of the input
unfoldable pub close_text : Reader → List ℕ
close_text s = rest_text teller s.tally (last_answers s.line)
