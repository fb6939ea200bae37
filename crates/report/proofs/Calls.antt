-- A call that writes a text: OUTPUT SHORT where the output has less than the room, and else the text at the output's
-- front. Assumes nothing.
use Rattle.std.proofs.Common.{Result, Ok, Err, ◌+◌, ◌≡◌, ℕ, ◌<◌, ◌≤◌, List, length, refl, ap, arith, le-ltb, lt-ltb}
use Rattle.ground.specs.Refusal.{ACCEPTED, OUTPUT_SHORT}
use Rattle.ground.specs.declared.Refusal.{Refusal}
use Rattle.ground.specs.declared.Refusal.TheVariants.{OutputShort}
use Rattle.ground.specs.Answer.{counted, fill_no, fill_leaves}
use Rattle.report.specs.declared.Reader.{Reader}
use Rattle.report.specs.declared.inner.OpenLine.{OpenLine}
use Rattle.report.specs.declared.stream.Counts.{Counts}
use Rattle.report.specs.declared.inner.Text.{Text}
use Rattle.report.specs.Stream.{line_of, counts_of, teller, feed_text}
use Rattle.report.specs.Calls.{part_room, feed_answer, feed_leaves}
use Rattle.report.specs.Inner.{Begun, Puts, PartTold}
use Rattle.report.proofs.Texts.{sets_written}

-- the answer of a call that writes a text and asks for so much room
abbrev pub text_answer : ℕ → List ℕ → List ℕ → Result ℕ Refusal
text_answer room text out = counted (fill_no room out) (length text)

room-short : (room : ℕ) (out : List ℕ) → length out < room → fill_no room out ≡ OUTPUT_SHORT
room-short room out h = simp (lt-ltb (length out) room h)

pub room-there : (room : ℕ) (out : List ℕ) → room ≤ length out → fill_no room out ≡ ACCEPTED
room-there room out h = simp (le-ltb (length out) room h)

module _ (room : ℕ) (t out : List ℕ) where
  pub text-refused : length out < room → (Err OutputShort ≡ text_answer room t out) × (out ≡ fill_leaves room t out)
  text-refused h = rw (room-short room out h) (refl, refl)

-- a text that was begun at the output's front and written as a whole
module _ (room : ℕ) (t out : List ℕ) {s s' : Text} (h : room ≤ length out) (b : Begun s out) (p : Puts s t s') (k : s'.len ≤ s.len + room) where
  pub text-answered : {n : ℕ} → n ≡ s'.len → Ok n ≡ text_answer room t out
  text-answered e = rw (room-there room out h, e) (ap Ok (omega (arith, p.next, b.none)))

  pub text-left : {left : List ℕ} → left ≡ s'.out.now → left ≡ fill_leaves room t out
  text-left e = rw (e, p.list, b.begins, b.none, room-there room out h) (sets_written out t (omega (arith, p.next, b.none)))

module _ (r : Reader) (part out : List ℕ) where
  pub part-refused : length out < part_room part
      → (record { answer = Err OutputShort; reader = r } ≡ feed_answer r part out) × (out ≡ feed_leaves r part out)
  part-refused h = rw (room-short (part_room part) out h) (refl, refl)

  pub part-answered : {l : OpenLine} {k : Counts} {s s' : Text} {n : ℕ} → part_room part ≤ length out → Begun s out
      → PartTold teller (line_of r) (counts_of r) part s l k s' → n ≡ s'.len
      → record { answer = Ok n; reader = record { held = l.held; count = l.count; lines = k.lines; refused = k.refused } } ≡ feed_answer r part out
  part-answered h b p e =
      rw (text-answered (part_room part) (feed_text r part) out h b p.written p.room e, p.line, p.kept, room-there (part_room part) out h) refl
