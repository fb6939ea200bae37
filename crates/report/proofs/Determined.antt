-- Two results that meet the promise of one call of the report are equal, and so is what they leave in the lent output.
-- Assumes nothing.
use Rattle.std.proofs.Common.{ℕ, List, Result}
use Rattle.ground.proofs.Answers.{OneAnswer, one_answer, OneResult, one-result}
use Rattle.tps.specs.declared.word.MendedWord.{MendedWord}
use Rattle.report.specs.declared.Reader.{Reader}
use Rattle.report.specs.Reading.{read_answer}
use Rattle.report.specs.Stream.{fresh}
use Rattle.report.specs.Calls.{heading_answer, heading_leaves, line_answer, line_leaves, feed_answer, feed_leaves, close_answer, close_leaves}

pub read_line_determined : (line : List ℕ) → OneAnswer (read_answer line)
read_line_determined line = one_answer (read_answer line)

pub put_heading_determined : (out : List ℕ) → OneResult (heading_answer out) (heading_leaves out)
put_heading_determined out = one-result (heading_answer out) (heading_leaves out)

pub put_line_determined : (number : ℕ) (answer : Result MendedWord ℕ) (out : List ℕ) → OneResult (line_answer number answer out) (line_leaves number answer out)
put_line_determined number answer out = one-result (line_answer number answer out) (line_leaves number answer out)

pub new_determined : OneAnswer fresh
new_determined = one_answer fresh

pub feed_determined : (s : Reader) (part out : List ℕ) → OneResult (feed_answer s part out) (feed_leaves s part out)
feed_determined s part out = one-result (feed_answer s part out) (feed_leaves s part out)

pub close_determined : (s : Reader) (out : List ℕ) → OneResult (close_answer s out) (close_leaves s out)
close_determined s out = one-result (close_answer s out) (close_leaves s out)
