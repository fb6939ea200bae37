-- Document 02, E1: the last column of an accepted line is the count of mended bits, in decimal. Assumes nothing.
use Rattle.std.proofs.Common.{Err, ◌≡◌, ℕ, zero, suc, ◌≤◌, Bool, true, false, cond, ◌&&◌, eqb, List, length, refl, subst, arith}
use Rattle.ground.specs.declared.Refusal.TheVariants.{BadLine}
use Rattle.bch.specs.declared.Mended.{Mended}
use Rattle.tps.specs.declared.word.TpsWord.{TpsWord}
use Rattle.tps.specs.Packing.{Unpacked, Unpacks, mended_word, unpack_answer}
use Rattle.tps.proofs.Determined.{unpack_answers}
use Rattle.tps.proofs.MendedBits.{mended_at_most_two}
use Rattle.report.specs.Reading.{are_digits, bits_of, read_answer}
use Rattle.report.specs.Text.{decimal, mended_text}

few_in_decimal : (n : ℕ) → n ≤ 2 → mended_text n ≡ decimal n
unfolding mended_text decimal
few_in_decimal zero h = refl
few_in_decimal (suc zero) h = refl
few_in_decimal (suc (suc zero)) h = refl
few_in_decimal (suc (suc (suc n))) h = absurd (omega arith)

module _ (l : List ℕ) (w : TpsWord) (m : Mended) where
  few-by : (t : Bool) → cond t (unpack_answer (bits_of l)) (Err BadLine) ≡ mended_word w m → m.count ≤ 2
  few-by true e = mended_at_most_two w m (bits_of l) (subst (λ (r : Unpacked). Unpacks (bits_of l) r) e (unpack_answers (bits_of l)))
  few-by false e = cc

  pub mended-column : read_answer l ≡ mended_word w m → mended_text m.count ≡ decimal m.count
  unfolding read_answer
  mended-column e = few_in_decimal m.count (few-by (eqb (length l) 17 && are_digits l) e)
