-- Document 01, 'Report program': an input that is read in parts. Each call's output is any; a feed whose output has
-- less than the room is refused, which changes nothing, and its part may be fed again, or in smaller parts.
use Rattle.std.specs.Prelude.{◌≡◌, ℕ, List, [], ◌∷◌, ◌++◌, take, Result}
use Rattle.ground.specs.declared.Refusal.{Refusal}
use Rattle.ground.specs.Refusal.{ACCEPTED}
use Rattle.ground.specs.Answer.{number_of, count_of, kept}
use Rattle.report.specs.declared.Reader.{Reader}
use Rattle.report.specs.declared.Fed.{Fed}
use Rattle.report.specs.Stream.{fresh}
use Rattle.report.specs.Calls.{heading_answer, heading_leaves, feed_no, feed_answer, feed_leaves, close_answer}
use Rattle.report.specs.Calls.{close_leaves}

-- what a call wrote that answered so and left its output so: as many bytes as it says, and none where it was refused
abbrev pub written_by : Result ℕ Refusal → List ℕ → List ℕ
written_by answer left = take (count_of answer) left

-- a call that was accepted and keeps its promise, which says its answer and what it leaves for each output, and what
-- it wrote
pub record Writes (answerFor : List ℕ → Result ℕ Refusal) (leavesFor : List ℕ → List ℕ) (t : List ℕ) : Type 0 where
  pub out : List ℕ
  pub answer : Result ℕ Refusal
  pub left : List ℕ
  pub answers : answer ≡ answerFor out
  pub leaves : left ≡ leavesFor out
  pub accepted : number_of answer ≡ ACCEPTED
  pub text : t ≡ written_by answer left

-- ---- the feeds

-- the part that a call is given, and what stands in its output; the decoder by which its lines are read plays no part
-- in what it promises
pub record Call : Type 0 where
  pub part : List ℕ
  pub out : List ℕ

-- the parts that are taken: those of the calls that aren't refused
abbrev pub taken : List Call → List (List ℕ)
taken [] = []
taken (c ∷ calls) = kept (feed_no c.part c.out) (c.part ∷ taken calls) (taken calls)

-- a call that feeds the reader s and keeps its promise, accepted or not, what it wrote, and the reader after it
pub record Feeds (s : Reader) (c : Call) (t : List ℕ) (s' : Reader) : Type 0 where
  pub fed : Fed
  pub left : List ℕ
  pub answers : fed ≡ feed_answer s c.part c.out
  pub leaves : left ≡ feed_leaves s c.part c.out
  pub text : t ≡ written_by fed.answer left
  pub reader : s' ≡ fed.reader

-- the calls were made in turn, beginning with the reader s; they wrote t, in turn, and left the reader s'
pub data Run : Reader → List Call → List ℕ → Reader → Type 0 where
  none : {s : Reader} → Run s [] [] s
  next : {s s' s'' : Reader} {c : Call} {t u : List ℕ} {calls : List Call} → Feeds s c t s' → Run s' calls u s''
      → Run s (c ∷ calls) (t ++ u) s''

-- a whole run over an input: the heading, the feeds, and the end of the input; what the calls wrote is printed, in
-- turn
pub record Prints (calls : List Call) (printed : List ℕ) : Type 0 where
  pub first : List ℕ
  pub middle : List ℕ
  pub last : List ℕ
  pub reader : Reader
  pub begins : Writes heading_answer heading_leaves first
  pub runs : Run fresh calls middle reader
  pub ends : Writes (close_answer reader) (close_leaves reader) last
  pub all : printed ≡ first ++ (middle ++ last)
