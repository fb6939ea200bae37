-- The report's lines for answers, and their counts, behind lines that stand already, where no count starts again: for a
-- whole input. Assumes nothing.
use Rattle.std.proofs.Common.{Ok, Err, ◌≡◌, ℕ, suc, ◌+◌, ◌^◌, ◌<◌, ◌≤◌, Bool, true, false, cond, eqb, List, [], ◌∷◌, ◌++◌, length, sym, ap, ◌∙◌, ap₂, append_assoc, append-nil, add-zero, mod-eq_of_lt, zero-add, arith}
use lib.ListN.{length-map}
use Rattle.tps.specs.Packing.{Unpacked}
use Rattle.report.specs.Reading.{read_answer, refusals}
use Rattle.report.specs.Lines.{before, lines, answers}
use Rattle.report.specs.Text.{in_numbers, line_text, heading, closing}
use Rattle.report.specs.Report.{numbered, all_refusals, report}
use Rattle.report.specs.Telling.{rest_text}
use Rattle.report.specs.Stream.{plus, teller}
use Rattle.report.proofs.Telling.{rest-append}
use Rattle.report.specs.declared.stream.Counts.{Counts}

abbrev pub counts : ℕ → ℕ → Counts
counts n m = record { lines = n; refused = m }

-- ---- where no count starts again

one_refusal : (a : Unpacked) → refusals a ≤ 1
one_refusal (Ok u) = omega arith
one_refusal (Err k) = omega arith

rest-numbered : (n m : ℕ) (r : List Unpacked) → n + length r < 2 ^ 64 → m + length r < 2 ^ 64
    → rest_text teller (counts n m) r ≡ numbered (suc n) r ++ closing (n + length r) (m + all_refusals r)
rest-numbered n m [] h k = ap₂ closing (sym (add-zero n)) (sym (add-zero m))
rest-numbered n m (a ∷ r) h k =
    let i = one_refusal a in
    let p : plus n 1 ≡ suc n = mod-eq_of_lt (omega arith) ∙ omega arith in
    let q : plus m (refusals a) ≡ m + refusals a = mod-eq_of_lt (omega arith) in
    let e : suc n + length r ≡ n + suc (length r) = omega arith in
    let f : m + refusals a + all_refusals r ≡ m + (refusals a + all_refusals r) = omega arith in
    sym (rest-append teller (counts n m) (a ∷ []) r)
    ∙ ap (λ (t : List ℕ). t ++ rest_text teller (counts (plus n 1) (plus m (refusals a))) r) (append-nil (line_text (plus n 1) (in_numbers a)))
    ∙ ap₂ (λ (x y : ℕ). line_text x (in_numbers a) ++ rest_text teller (counts x y) r) p q
    ∙ ap (λ (t : List ℕ). line_text (suc n) (in_numbers a) ++ t) (rest-numbered (suc n) (m + refusals a) r (omega arith) (omega arith))
    ∙ ap₂ (λ (x y : ℕ). line_text (suc n) (in_numbers a) ++ (numbered (suc (suc n)) r ++ closing x y)) e f
    ∙ sym (append_assoc (line_text (suc n) (in_numbers a)) (numbered (suc (suc n)) r) (closing (n + suc (length r)) (m + (refusals a + all_refusals r))))

-- ---- an input has at most as many lines as characters

one-line-more : (c : ℕ) (ls : List (List ℕ)) (t : Bool) → length (cond t ([] ∷ ls) (before (c ∷ []) ls)) ≤ suc (length ls)
one-line-more c ls true = omega arith
one-line-more c [] false = omega arith
one-line-more c (l ∷ ls) false = omega arith

lines-length : (s : List ℕ) → length (lines s) ≤ length s
lines-length [] = omega arith
lines-length (c ∷ s) = omega (arith, one-line-more c (lines s) (eqb c 10), lines-length s)

-- the report's lines and its closing line
pub rest_is_report : (s : List ℕ) → length s < 2 ^ 64 → heading ++ rest_text teller (counts 0 0) (answers s) ≡ report s
unfolding report
rest_is_report s h =
    let r = answers s in
    let k : length r ≤ length s = omega (arith, lines-length s, length-map (lines s) read_answer) in
    ap (λ (t : List ℕ). heading ++ t)
    (rest-numbered 0 0 r (omega arith) (omega arith)
    ∙ ap₂ (λ (x y : ℕ). numbered 1 r ++ closing x y) (zero-add (length r)) (zero-add (all_refusals r)))
