-- What the private helpers promise. No public promise cites this file.
use Rattle.std.specs.Prelude.{◌==◌, ◌&&◌, ◌≡◌, ℕ, ◌+◌, ◌≤◌, List, ◌∷◌, ◌++◌}
use Rattle.std.specs.Prelude.{cond, Result, Ok, Err, length}
use Rattle.std.proofs.lemmas.List.Edits.{sets}
use Rattle.ground.specs.declared.Refusal.{Refusal}
use Rattle.ground.specs.declared.Refusal.TheVariants.{BadLine}
use Rattle.ground.specs.declared.ConstellationOrder.{ConstellationOrder}
use Rattle.tps.specs.declared.word.PunctureRate.{PunctureRate}
use Rattle.tps.specs.declared.word.GuardInterval.{GuardInterval}
use Rattle.report.specs.declared.inner.OpenLine.{OpenLine}
use Rattle.tps.specs.Packing.{Unpacked}
use Rattle.report.specs.declared.inner.Text.{Text}
use Rattle.report.specs.Characters.{space}
use Rattle.report.specs.OpenLine.{answers_in, line_after}
use Rattle.report.specs.Reading.{are_digits, bits_of}
use Rattle.report.specs.Text.{points_text, rate_text, guard_text}
use Rattle.report.specs.Telling.{Teller, kept_after, text_over}
use Rattle.report.specs.Calls.{part_room, line_room}

-- the bits of a line, where it is one of 17 digits; else BAD LINE
abbrev pub line_bits : List ℕ → Result (List ℕ) Refusal
line_bits l = cond (length l == 17 && are_digits l) (Ok (bits_of l)) (Err BadLine)

-- the output has room for so many bytes behind the text
abbrev pub Room : Text → ℕ → Type 0
Room s n = s.len + n ≤ length s.out.now

-- no text stands yet at the front of an output
pub record Begun (s : Text) (out : List ℕ) : Type 0 where
  pub begins : s.out.now ≡ out
  pub none : s.len ≡ 0

-- the text t is written behind what stands
pub record Puts (s : Text) (t : List ℕ) (s' : Text) : Type 0 where
  pub same : s'.out.ghost_name ≡ s.out.ghost_name
  pub list : s'.out.now ≡ sets s.out.now s.len t
  pub next : s'.len ≡ s.len + length t
  pub size : length s'.out.now ≡ length s.out.now

-- columns of a word's line, a space before each
abbrev pub columns_text : ConstellationOrder → PunctureRate → GuardInterval → List ℕ
columns_text constellation rate guard =
    space ∷ (points_text constellation ++ (space ∷ (rate_text rate ++ (space ∷ guard_text guard))))

-- the end of a line in a report that a teller tells, by the answer a: what is kept, k and then k', and the line's text
pub record EndsBy {Kept : Type 0} (t : Teller Kept) (a : Unpacked) (k : Kept) (s : Text) (k' : Kept)
    (s' : Text) : Type 0 where
  pub kept : k' ≡ t.moved k a
  pub written : Puts s (t.text k a) s'
  pub room : s'.len ≤ s.len + line_room

-- a part of the input in such a report: the open line, l and then l', what is kept, and the texts
pub record PartTold {Kept : Type 0} (t : Teller Kept) (l : OpenLine) (k : Kept) (part : List ℕ) (s : Text)
    (l' : OpenLine) (k' : Kept) (s' : Text) : Type 0 where
  pub line : l' ≡ line_after l part
  pub kept : k' ≡ kept_after t k (answers_in l part)
  pub written : Puts s (text_over t k (answers_in l part)) s'
  pub room : s'.len ≤ s.len + part_room part
