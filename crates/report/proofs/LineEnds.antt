-- A loop that takes the characters of a part one by one, each of which ends the open line or is one more of it. Assumes
-- nothing.
use Rattle.std.proofs.Common.{◌≡◌, ℕ, ◌+◌, ◌<◌, ◌≤◌, Bool, cond, List, [], ◌∷◌, ◌++◌, length, get_or, drop, sym, refl, ap, ◌∙◌, append_assoc, append-nil, drop_of_length-le, drop-cons, add-one, eq-eqb, ne_eqb}
use Rattle.tps.specs.Packing.{Unpacked}
use Rattle.report.specs.declared.inner.OpenLine.{OpenLine}
use Rattle.report.specs.OpenLine.{open_line, emptied, grown, open_answer, answers_in, line_after}

-- with i characters of the part behind it, the line l is open, and the lines that ended were answered so
pub record Passed (l₀ : OpenLine) (part : List ℕ) (i : ℕ) (l : OpenLine) (passed : List Unpacked) : Type 0 where
  pub answers : answers_in l₀ part ≡ passed ++ answers_in l (drop i part)
  pub line : line_after l₀ part ≡ line_after l (drop i part)

pub none_passed : (l : OpenLine) (part : List ℕ) → Passed l part 0 l []
none_passed l part = record { answers = refl; line = refl }

module _ {l₀ l : OpenLine} {part : List ℕ} {i : ℕ} {passed : List Unpacked} (p : Passed l₀ part i l passed) where
  module _ (h : i < length part) where
    next : drop i part ≡ get_or part i 0 ∷ drop (i + 1) part
    next = drop-cons part i 0 h ∙ ap (λ (n : ℕ). get_or part i 0 ∷ drop n part) (sym (add-one i))

    -- the next character is a newline
    pub ended_passed : get_or part i 0 ≡ 10 → Passed l₀ part (i + 1) (open_line l.held 0) (passed ++ (open_answer l ∷ []))
    ended_passed e =
        let n = eq-eqb (get_or part i 0) 10 e in
        record {
          answers =
              rw next at p.answers ∙ simp n (sym (append_assoc passed (open_answer l ∷ []) (answers_in (emptied l) (drop (i + 1) part))));
          line = rw next at p.line ∙ ap (λ (b : Bool). line_after (cond b (emptied l) (grown l (get_or part i 0))) (drop (i + 1) part)) n;
        }

    -- or another
    pub open_passed : (get_or part i 0 ≡ 10 → ⊥) → Passed l₀ part (i + 1) (grown l (get_or part i 0)) passed
    open_passed e =
        let n = ne_eqb (get_or part i 0) 10 e in
        record {
          answers = rw next at p.answers ∙ simp n;
          line = rw next at p.line ∙ ap (λ (b : Bool). line_after (cond b (emptied l) (grown l (get_or part i 0))) (drop (i + 1) part)) n;
        }

  pub all_passed : length part ≤ i → (answers_in l₀ part ≡ passed) × (line_after l₀ part ≡ l)
  all_passed h =
      let d = drop_of_length-le part h in (
        p.answers ∙ ap (λ (s : List ℕ). passed ++ answers_in l s) d ∙ append-nil passed,
        p.line ∙ ap (line_after l) d,
      )
