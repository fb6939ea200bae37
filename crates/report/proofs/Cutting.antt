-- For any way of cutting an input into parts, and whichever feeds are refused among them, the calls print the report of
-- the whole input. The promises of feeding and of ending don't speak of the decoder that a call is given, so runs by
-- the fast decoder, by the slow one or by both in turn print the same. There is a run for any calls, and calls for any
-- cutting. Assumes nothing.
use Rattle.std.proofs.Common.{Option, Some, None, ◌≡◌, ℕ, ◌^◌, ◌<◌, List, [], ◌∷◌, ◌++◌, length, replicate, sym, refl, ap, ◌∙◌, subst, ap₂, append_assoc, arith, take_at}
use lib.ListN.{length-replicate}
use Rattle.ground.specs.declared.Refusal.{Refusal}
use Rattle.ground.specs.Refusal.{ACCEPTED}
use Rattle.ground.specs.Answer.{number_of, counted, kept, written, fill_no, fill_leaves}
use Rattle.ground.proofs.Answers.{counted-says-number}
use Rattle.report.specs.declared.Reader.{Reader}
use Rattle.report.specs.declared.Fed.{Fed}
use Rattle.report.specs.Text.{heading}
use Rattle.report.specs.OpenLine.{answers_in, line_after, answers_over, joined}
use Rattle.report.specs.Report.{report}
use Rattle.report.specs.Telling.{rest_text}
use Rattle.report.specs.Stream.{fresh, line_of, counts_of, teller, feed_text, feed_reader, close_text}
use Rattle.report.specs.Calls.{part_room, feed_no, feed_answer, feed_leaves, close_room}
use Rattle.report.specs.Cutting.{written_by, Writes, Call, taken, Run, none, next, Prints}
use Rattle.report.proofs.Calls.{text_answer, room-there}
use Rattle.report.proofs.Lines.{parts_answers}
use Rattle.report.proofs.Telling.{rest-append}
use Rattle.report.proofs.Counts.{rest_is_report}

-- ---- what a call wrote, by its number

wrote_all : (text out : List ℕ) → written_by (counted ACCEPTED (length text)) (kept ACCEPTED (written text out) out) ≡ text
wrote_all text out = take_at text _ (length text) refl

writes_text : (room : ℕ) (text : List ℕ) {t : List ℕ} → Writes (text_answer room text) (fill_leaves room text) t → t ≡ text
writes_text room text {t} w =
    let o = w.out in
    let n : fill_no room o ≡ ACCEPTED = sym (counted-says-number (fill_no room o) (length text)) ∙ ap number_of (sym w.answers) ∙ w.accepted in
    w.text
    ∙ ap₂ written_by w.answers w.leaves
    ∙ ap (λ (k : Option Refusal). written_by (counted k (length text)) (kept k (written text o) o)) n
    ∙ wrote_all text o

-- ---- a run of calls

-- what is written for answers to the lines of parts, and at the end, where a reader s takes them
abbrev rest_of : Reader → List (List ℕ) → List ℕ
rest_of s parts = rest_text teller (counts_of s) (answers_over (line_of s) parts)

-- a feed, accepted or refused, in front of what is written behind it
feed-rest : (no : Option Refusal) (s : Reader) (part out : List ℕ) (parts : List (List ℕ))
    → written_by (counted no (length (feed_text s part))) (kept no (written (feed_text s part) out) out) ++ rest_of (kept no (feed_reader s part) s) parts
    ≡ rest_of s (kept no (part ∷ parts) parts)
feed-rest None s part out parts =
    ap (λ (t : List ℕ). t ++ rest_of (feed_reader s part) parts) (wrote_all (feed_text s part) out)
    ∙ rest-append teller (counts_of s) (answers_in (line_of s) part) (answers_over (line_after (line_of s) part) parts)
feed-rest (Some k) s part out parts = refl

-- what the calls write, and at the end, is the report's rest for the answers to the lines of the parts that are taken
run_text : {s s' : Reader} {calls : List Call} {t : List ℕ} → Run s calls t s' → t ++ close_text s' ≡ rest_of s (taken calls)
unfolding close_text
run_text none = refl
run_text {s} {s'} (next {c = c} {t = t} {u = u} {calls = calls} f r) =
    let z = f.reader ∙ ap (λ (x : Fed). x.reader) f.answers in
    append_assoc t u (close_text s')
    ∙ ap₂ (λ (x y : List ℕ). x ++ y) (f.text ∙ ap₂ (λ (x : Fed) (l : List ℕ). written_by x.answer l) f.answers f.leaves)
    (run_text r ∙ ap (λ (x : Reader). rest_of x (taken calls)) z)
    ∙ feed-rest (feed_no c.part c.out) s c.part c.out (taken calls)

-- however an input is cut into the parts that are taken, and whatever is refused between them, what is printed is the
-- report of the whole input
pub any_cutting : {calls : List Call} {printed : List ℕ} → length (joined (taken calls)) < 2 ^ 64 → Prints calls printed
    → printed ≡ report (joined (taken calls))
any_cutting {calls} w p =
    p.all
    ∙ ap₂ (λ (x y : List ℕ). x ++ (p.middle ++ y)) (writes_text (length heading) heading p.begins) (writes_text close_room (close_text p.reader) p.ends)
    ∙ ap (λ (x : List ℕ). heading ++ x) (run_text p.runs ∙ ap (rest_text teller (counts_of fresh)) (parts_answers (taken calls)))
    ∙ rest_is_report (joined (taken calls)) w

-- two runs that take the same parts print the same, whichever decoders their calls are given
pub same_text : {calls others : List Call} {printed other : List ℕ} → taken calls ≡ taken others → length (joined (taken calls)) < 2 ^ 64
    → Prints calls printed → Prints others other → printed ≡ other
same_text e w p q =
    any_cutting w p ∙ ap (λ (parts : List (List ℕ)). report (joined parts)) e
    ∙ sym (any_cutting (subst (λ (parts : List (List ℕ)). length (joined parts) < 2 ^ 64) e w) q)

-- ---- there is a run for any calls, and calls for any cutting

has_room : (room : ℕ) → fill_no {A = ℕ} room (replicate room 0) ≡ ACCEPTED
has_room room = room-there room (replicate room 0) (omega (arith, length-replicate {A = ℕ} room 0))

writes_exist : (room : ℕ) (text : List ℕ) → (t : List ℕ) × Writes (text_answer room text) (fill_leaves room text) t
writes_exist room text =
    let out : List ℕ = replicate room 0 in (
      written_by (text_answer room text out) (fill_leaves room text out),
      record {
        out = out;
        answer = text_answer room text out;
        left = fill_leaves room text out;
        answers = refl;
        leaves = refl;
        accepted = counted-says-number (fill_no room out) (length text) ∙ has_room room;
        text = refl;
      },
    )

run_exists : (s : Reader) (calls : List Call) → (t : List ℕ) × (s' : Reader) × Run s calls t s'
run_exists s [] = ([], s, none)
run_exists s (c ∷ calls) =
    let fed = feed_answer s c.part c.out in
    let left = feed_leaves s c.part c.out in
    let r = run_exists fed.reader calls in (
      written_by fed.answer left ++ r.0,
      r.1,
      next (record { fed = fed; left = left; answers = refl; leaves = refl; text = refl; reader = refl }) r.2,
    )

pub cutting_exists : (calls : List Call) → (printed : List ℕ) × Prints calls printed
cutting_exists calls =
    let h = writes_exist (length heading) heading in
    let r = run_exists fresh calls in
    let u = writes_exist close_room (close_text r.1) in (
      h.0 ++ (r.0 ++ u.0),
      record { first = h.0; middle = r.0; last = u.0; reader = r.1; begins = h.1; runs = r.2; ends = u.1; all = refl },
    )

pub any_parts_taken : (parts : List (List ℕ)) → (calls : List Call) × (taken calls ≡ parts)
any_parts_taken [] = ([], refl)
any_parts_taken (part ∷ parts) =
    let r = any_parts_taken parts in (
      record { part = part; out = replicate (part_room part) 0 } ∷ r.0,
      ap (λ (k : Option Refusal). kept k (part ∷ taken r.0) (taken r.0)) (has_room (part_room part)) ∙ ap (λ (l : List (List ℕ)). part ∷ l) r.1,
    )
