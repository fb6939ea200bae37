-- However an input is cut into parts, the lines that end in them and at its end are answered as the lines of the whole
-- input. Assumes nothing.
use Rattle.std.proofs.Common.{◌≡◌, ℕ, Bool, true, false, cond, eqb, List, [], ◌∷◌, ◌++◌, map, sym, refl, ap, ◌∙◌, ap₂, append_assoc, append-nil, arith, eq-eqb, ne_eqb}
use Rattle.tps.specs.Packing.{Unpacked}
use Rattle.report.specs.declared.inner.OpenLine.{OpenLine}
use Rattle.report.specs.Reading.{read_answer}
use Rattle.report.specs.Lines.{before, lines, answers}
use Rattle.report.specs.OpenLine.{empty_line, emptied, grown, open_answer, answers_in, line_after, last_answers, answers_over, joined}
use Rattle.report.proofs.OpenLine.{Holds, empty_holds, emptied-holds, grown-holds, holds-answer}

-- ---- two parts in turn

pub line-append : (l : OpenLine) (a b : List ℕ) → line_after l (a ++ b) ≡ line_after (line_after l a) b
line-append l [] b = refl
line-append l (c ∷ a) b = line-append (cond (eqb c 10) (emptied l) (grown l c)) a b

abbrev Append : OpenLine → List ℕ → List ℕ → Type 0
Append l a b = answers_in l (a ++ b) ≡ answers_in l a ++ answers_in (line_after l a) b

append-more : (l : OpenLine) (c : ℕ) (a b : List ℕ) (t : Bool) → eqb c 10 ≡ t → Append (emptied l) a b → Append (grown l c) a b
    → Append l (c ∷ a) b
append-more l c a b true e i j = simp e (ap (λ (r : List Unpacked). open_answer l ∷ r) i)
append-more l c a b false e i j = simp e j

pub answers-append : (l : OpenLine) (a b : List ℕ) → answers_in l (a ++ b) ≡ answers_in l a ++ answers_in (line_after l a) b
answers-append l [] b = refl
answers-append l (c ∷ a) b = append-more l c a b (eqb c 10) refl (answers-append (emptied l) a b) (answers-append (grown l c) a b)

-- ---- the lines of an input whose first line has begun with l

abbrev opened : List ℕ → List (List ℕ) → List (List ℕ)
opened [] ls = ls
opened (c ∷ l) ls = before (c ∷ l) ls

opened-newline : (l : List ℕ) (ls : List (List ℕ)) → opened l ([] ∷ ls) ≡ l ∷ ls
opened-newline [] ls = refl
opened-newline (c ∷ l) ls = ap (λ (y : List ℕ). y ∷ ls) (append-nil (c ∷ l))

opened-grown : (l : List ℕ) (c : ℕ) (ls : List (List ℕ)) → opened (l ++ (c ∷ [])) ls ≡ opened l (before (c ∷ []) ls)
opened-grown [] c ls = refl
opened-grown (x ∷ l) c [] = refl
opened-grown (x ∷ l) c (y ∷ ys) = ap (λ (z : List ℕ). z ∷ ys) (append_assoc (x ∷ l) (c ∷ []) y)

-- ---- from any open line on

abbrev Answered : List ℕ → Type 0
Answered input =
    (l : OpenLine) (s : List ℕ) → Holds l s → answers_in l input ++ last_answers (line_after l input) ≡ map read_answer (opened s (lines input))

one_more_lem : (c : ℕ) (input : List ℕ) → Answered input → (t : Bool) → eqb c 10 ≡ t → Answered (c ∷ input)
one_more_lem c input i true e l s h =
    simp e
    (ap₂ (λ (a : Unpacked) (r : List Unpacked). a ∷ r) (holds-answer h) (i (emptied l) [] (emptied-holds h))
    ∙ ap (map read_answer) (sym (opened-newline s (lines input))))
one_more_lem c input i false e l s h =
    simp e (i (grown l c) (s ++ (c ∷ [])) (grown-holds h c) ∙ ap (map read_answer) (opened-grown s c (lines input)))

all-answered : (input : List ℕ) → Answered input
all-answered [] l [] h = simp (eq-eqb l.count 0 h.count)
all-answered [] l (x ∷ s) h =
    simp (ne_eqb l.count 0 (λ q. omega (arith, h.count, q))) (ap (λ (a : Unpacked). a ∷ []) (holds-answer h))
all-answered (c ∷ input) l s h = one_more_lem c input (all-answered input) (eqb c 10) refl l s h

-- ---- an input in parts

over-joined : (l : OpenLine) (parts : List (List ℕ))
    → answers_over l parts ≡ answers_in l (joined parts) ++ last_answers (line_after l (joined parts))
over-joined l [] = refl
over-joined l (p ∷ ps) =
    let q = joined ps in
    ap (λ (r : List Unpacked). answers_in l p ++ r) (over-joined (line_after l p) ps)
    ∙ sym (append_assoc (answers_in l p) (answers_in (line_after l p) q) (last_answers (line_after (line_after l p) q)))
    ∙ ap₂ (λ (r : List Unpacked) (m : OpenLine). r ++ last_answers m) (sym (answers-append l p q)) (sym (line-append l p q))

-- the answers to the lines of parts, whatever the cutting, are the answers to the lines of the whole input
pub parts_answers : (parts : List (List ℕ)) → answers_over empty_line parts ≡ answers (joined parts)
parts_answers parts = over-joined empty_line parts ∙ all-answered (joined parts) empty_line [] empty_holds
