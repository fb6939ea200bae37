-- A report that a teller tells, for two lists of answers in turn, for a part of the input that is taken line by line, and
-- for an input in parts. Assumes nothing.
use Rattle.std.proofs.Common.{◌≡◌, ℕ, ◌+◌, ◌*◌, ◌<◌, ◌≤◌, List, [], ◌∷◌, ◌++◌, length, get_or, sym, refl, ap, ◌∙◌, append_assoc, arith}
use Rattle.tps.specs.Packing.{Unpacked}
use Rattle.report.specs.declared.inner.OpenLine.{OpenLine}
use Rattle.report.specs.declared.inner.Text.{Text}
use Rattle.report.specs.Lines.{answers}
use Rattle.report.specs.OpenLine.{open_line, grown, empty_line, open_answer, answers_in, line_after, last_answers, answers_over, joined}
use Rattle.report.specs.Telling.{Teller, kept_after, text_over, rest_text}
use Rattle.report.specs.Calls.{line_room}
use Rattle.report.specs.Inner.{Puts, EndsBy, PartTold}
use Rattle.report.proofs.Texts.{puts_none, puts_then}
use Rattle.report.proofs.Lines.{parts_answers}
use Rattle.report.proofs.LineEnds.{Passed, none_passed, ended_passed, open_passed, all_passed}

module _ {Kept : Type 0} (t : Teller Kept) where
  -- ---- two lists in turn

  pub kept_append : (k : Kept) (a b : List Unpacked) → kept_after t k (a ++ b) ≡ kept_after t (kept_after t k a) b
  kept_append k [] b = refl
  kept_append k (x ∷ a) b = kept_append (t.moved k x) a b

  pub text-append : (k : Kept) (a b : List Unpacked) → text_over t k (a ++ b) ≡ text_over t k a ++ text_over t (kept_after t k a) b
  text-append k [] b = refl
  text-append k (x ∷ a) b =
      ap (λ (u : List ℕ). t.text k x ++ u) (text-append (t.moved k x) a b)
      ∙ sym (append_assoc (t.text k x) (text_over t (t.moved k x) a) (text_over t (kept_after t (t.moved k x) a) b))

  pub rest-append : (k : Kept) (a b : List Unpacked) → text_over t k a ++ rest_text t (kept_after t k a) b ≡ rest_text t k (a ++ b)
  rest-append k a b =
      sym (append_assoc (text_over t k a) (text_over t (kept_after t k a) b) (t.closing (kept_after t (kept_after t k a) b)))
      ∙ rw (text-append k a b, kept_append k a b) refl

  -- ---- an input in parts

  -- what is written for parts in turn, and at the input's end
  abbrev pub tell_parts : OpenLine → Kept → List (List ℕ) → List ℕ
  tell_parts l k [] = rest_text t k (last_answers l)
  tell_parts l k (p ∷ ps) = text_over t k (answers_in l p) ++ tell_parts (line_after l p) (kept_after t k (answers_in l p)) ps

  tells-over : (l : OpenLine) (k : Kept) (parts : List (List ℕ)) → tell_parts l k parts ≡ rest_text t k (answers_over l parts)
  tells-over l k [] = refl
  tells-over l k (p ∷ ps) =
      ap (λ (u : List ℕ). text_over t k (answers_in l p) ++ u) (tells-over (line_after l p) (kept_after t k (answers_in l p)) ps)
      ∙ rest-append k (answers_in l p) (answers_over (line_after l p) ps)

  -- however an input is cut, what is written is told of the lines of the whole
  pub told_in_parts : (k : Kept) (parts : List (List ℕ)) → tell_parts empty_line k parts ≡ rest_text t k (answers (joined parts))
  told_in_parts k parts = tells-over empty_line k parts ∙ ap (rest_text t k) (parts_answers parts)

  -- ---- a part, character by character

  -- with i characters of the part behind it, the line l is open, k is kept, and what is told of those that ended is
  -- written
  pub record Reached (l₀ : OpenLine) (k₀ : Kept) (part : List ℕ) (s₀ : Text) (i : ℕ) (l : OpenLine) (k : Kept) (s : Text) : Type 0 where
    pub answers : List Unpacked
    pub passed : Passed l₀ part i l answers
    pub kept : k ≡ kept_after t k₀ answers
    pub put : Puts s₀ (text_over t k₀ answers) s
    pub room : s.len ≤ s₀.len + line_room * i
    pub size : length s.out.now ≡ length s₀.out.now

  pub reached_start : (l : OpenLine) (k : Kept) (part : List ℕ) (s : Text) → Reached l k part s 0 l k s
  reached_start l k part s =
      record { answers = []; passed = none_passed l part; kept = refl; put = puts_none s; room = omega arith; size = refl }

  module _ {l₀ l : OpenLine} {k₀ k : Kept} {part : List ℕ} {s₀ s : Text} {i : ℕ} (r : Reached l₀ k₀ part s₀ i l k s) where
    pub reached_open : i < length part → (get_or part i 0 ≡ 10 → ⊥) → Reached l₀ k₀ part s₀ (i + 1) (grown l (get_or part i 0)) k s
    reached_open h e =
        record {
          answers = r.answers;
          passed = open_passed r.passed h e;
          kept = r.kept;
          put = r.put;
          room = omega (arith, r.room);
          size = r.size;
        }

    pub reached_ended : i < length part → get_or part i 0 ≡ 10 → {k' : Kept} {s' : Text} → EndsBy t (open_answer l) k s k' s'
        → Reached l₀ k₀ part s₀ (i + 1) (open_line l.held 0) k' s'
    reached_ended h e {k'} {s'} g =
        let a = open_answer l in
        let p : Puts s₀ (text_over t k₀ (r.answers ++ (a ∷ []))) s' =
        rw (text-append k₀ r.answers (a ∷ []), ← r.kept) (puts_then r.put (puts_then g.written (puts_none s'))) in
        record {
          answers = r.answers ++ (a ∷ []);
          passed = ended_passed r.passed h e;
          kept = rw (kept_append k₀ r.answers (a ∷ []), ← r.kept) g.kept;
          put = p;
          room = omega (arith, r.room, g.room);
          size = p.size;
        }

    -- the whole part
    pub reached_end : length part ≡ i → PartTold t l₀ k₀ part s₀ l k s
    reached_end h =
        let e = all_passed r.passed (omega arith) in
        record { line = sym e.1; kept = rw e.0 r.kept; written = rw e.0 r.put; room = omega (arith, r.room) }
