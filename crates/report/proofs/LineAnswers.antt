-- The answer to a line, and to an open line, in each of the ways that the code takes. Assumes nothing.
use Rattle.std.proofs.Common.{Ok, Err, ◌≡◌, ◌&&◌, cond, Bool, ℕ, true, false, List, length, ap, ◌∙◌, eq-eqb, ne_eqb}
use Rattle.std.specs.Prelude.{◌==◌}
use Rattle.ground.specs.declared.Refusal.{Refusal}
use Rattle.ground.specs.declared.Refusal.TheVariants.{BadLine}
use Rattle.tps.specs.Packing.{Unpacked}
use Rattle.tps.specs.Packing.{Unpacks, unpack_answer}
use Rattle.tps.proofs.Determined.{unpack_is}
use Rattle.report.specs.declared.inner.OpenLine.{OpenLine}
use Rattle.report.specs.Reading.{are_digits, bits_of, read_answer}
use Rattle.report.specs.Inner.{line_bits}
use Rattle.report.specs.OpenLine.{open_answer}

module _ (l : List ℕ) where
  pub other-length-refused : (length l ≡ 17 → ⊥) → Err BadLine ≡ read_answer l
  unfolding read_answer
  other-length-refused h = simp (ne_eqb (length l) 17 h)

  pub other_line_refused : (r : Refusal) → Err r ≡ line_bits l → Err r ≡ read_answer l
  unfolding read_answer
  other_line_refused r e = by (length l == 17 && are_digits l) e
    where
      by : (t : Bool) → Err r ≡ cond t (Ok (bits_of l)) (Err BadLine) → Err r ≡ cond t (unpack_answer (bits_of l)) (Err BadLine)
      by true e = cc
      by false e = let f : r ≡ BadLine = cc in ap Err f

  pub digits_unpacked : (bits : List ℕ) (a : Unpacked) → Ok bits ≡ line_bits l → Unpacks bits a → a ≡ read_answer l
  unfolding read_answer
  digits_unpacked bits a e u = by (length l == 17 && are_digits l) e
    where
      by : (t : Bool) → Ok bits ≡ cond t (Ok (bits_of l)) (Err BadLine) → a ≡ cond t (unpack_answer (bits_of l)) (Err BadLine)
      by true e = let f : bits ≡ bits_of l = cc in unpack_is bits a u ∙ ap unpack_answer f
      by false e = cc

module _ (l : OpenLine) where
  pub other-count-refused : (l.count ≡ 17 → ⊥) → Err BadLine ≡ open_answer l
  unfolding open_answer
  other-count-refused h = simp (ne_eqb l.count 17 h)

  pub held-read : l.count ≡ 17 → open_answer l ≡ read_answer l.held
  unfolding open_answer
  held-read h = simp (eq-eqb l.count 17 h)
