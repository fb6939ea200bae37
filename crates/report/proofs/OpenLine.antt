-- What is held of an open line is enough for the line's answer, whatever the line's length. Assumes nothing.
use Rattle.std.proofs.Common.{◌≡◌, ℕ, suc, ◌+◌, ◌≤◌, min, Bool, true, false, cond, eqb, ltb, List, [], ◌∷◌, ◌++◌, length, take, set, sym, refl, ap, ◌∙◌, arith, length-append, length-set, take_all, take-suc-set, ltb-false, ltb-true, eqb-true}
use borrow.Author.Tests.{eqb-false}
use Rattle.report.specs.declared.inner.OpenLine.{OpenLine}
use Rattle.report.specs.Reading.{read_answer}
use Rattle.report.specs.OpenLine.{open_line, empty_line, emptied, grown, open_answer}
use Rattle.report.proofs.LineAnswers.{other-length-refused, other-count-refused, held-read}

-- l is the open line of the characters s: it holds the first 17, and counts them up to 18
pub record Holds (l : OpenLine) (s : List ℕ) : Type 0 where
  pub room : length l.held ≡ 17
  pub count : l.count ≡ min 18 (length s)
  pub same : length s ≤ 17 → take (length s) l.held ≡ s

pub empty_holds : Holds empty_line []
empty_holds = record { room = refl; count = refl; same = λ q. refl }

module _ {l : OpenLine} {s : List ℕ} (h : Holds l s) where
  pub emptied-holds : Holds (emptied l) []
  emptied-holds = record { room = h.room; count = refl; same = λ q. refl }

  pub holds-answer : open_answer l ≡ read_answer s
  holds-answer = go (eqb (length s) 17) refl
    where
      go : (t : Bool) → eqb (length s) 17 ≡ t → open_answer l ≡ read_answer s
      go true e =
          let n = eqb-true (length s) 17 e in
          let k : l.held ≡ s = sym (take_all (length s) l.held (omega (arith, h.room))) ∙ h.same (omega arith) in
          held-read l (omega (arith, h.count)) ∙ ap read_answer k
      go false e =
          let n = eqb-false (length s) 17 e in
          sym (other-count-refused l (λ q. n (omega (arith, h.count, q)))) ∙ other-length-refused s n

  pub grown-holds : (c : ℕ) → Holds (grown l c) (s ++ (c ∷ []))
  unfolding grown
  grown-holds c = go (ltb l.count 17) refl
    where
      z : length (s ++ (c ∷ [])) ≡ suc (length s)
      z = length-append s (c ∷ []) ∙ omega arith

      go : (t : Bool) → ltb l.count 17 ≡ t
          → Holds (cond t (open_line (set l.held l.count c) (l.count + 1)) (open_line l.held 18)) (s ++ (c ∷ []))
      go true e =
          let q = ltb-true l.count 17 e in
          let k : l.count ≡ length s = omega (arith, h.count) in
          record {
            room = length-set l.held l.count c ∙ h.room;
            count = omega (arith, z);
            same = λ p.
                ap (λ (n : ℕ). take n (set l.held l.count c)) z
                ∙ ap (λ (n : ℕ). take (suc (length s)) (set l.held n c)) k
                ∙ take-suc-set l.held (length s) c (omega (arith, h.room))
                ∙ ap (λ (x : List ℕ). x ++ (c ∷ [])) (h.same (omega arith));
          }
      go false e =
          let q = ltb-false l.count 17 e in
          record {
            room = h.room;
            count = omega (arith, z, h.count);
            same = λ p. absurd (omega (arith, z, h.count, p));
          }
