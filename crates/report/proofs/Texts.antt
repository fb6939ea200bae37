-- Texts that are written into a lent slice, one behind the other. Assumes nothing.
use Rattle.std.proofs.Common.{append_assoc, drop-drop, ◌≡◌, ℕ, suc, ◌+◌, ◌≤◌, List, [], ◌∷◌, ◌++◌, length, drop, set, sym, refl, ap, ◌∙◌, append-nil, add-zero, zero-add, arith, length-append}
use lib.Seq.{sets, sets-eq, drop-length}
use borrow.Rule.Slice.PartMut.{put_mid}
use Rattle.ground.specs.Answer.{written}
use Rattle.report.specs.declared.inner.Text.{Text}
use Rattle.report.specs.Inner.{Puts}

pub sets_append : (o : List ℕ) (i : ℕ) (t u : List ℕ) → sets o i (t ++ u) ≡ sets (sets o i t) (i + length t) u
sets_append o i [] u = ap (λ (k : ℕ). sets o k u) (sym (add-zero i))
sets_append o i (v ∷ t) u =
    let e : suc i + length t ≡ i + suc (length t) = omega arith in
    sets_append (set o i v) (suc i) t u ∙ ap (λ (k : ℕ). sets (sets (set o i v) (suc i) t) k u) e

-- a part that is written over
pub part-sets : (o t : List ℕ) (at k : ℕ) → at + length t ≤ length o → k ≡ length t → put_mid at k o t ≡ sets o at t
part-sets o t at k h e = rw (e, sets-eq t o at h) (simp (drop-drop, append_assoc))

-- from the front on
pub sets_written : (o t : List ℕ) → length t ≤ length o → sets o 0 t ≡ written t o
sets_written o t h = sets-eq t o 0 (omega arith) ∙ ap (λ (k : ℕ). t ++ drop k o) (zero-add (length t))

-- and as many as there are places
pub sets_whole : (o t : List ℕ) → length o ≡ length t → sets o 0 t ≡ t
sets_whole o t e =
    sets_written o t (omega arith) ∙ ap (λ (r : List ℕ). t ++ r) (ap (λ (k : ℕ). drop k o) (sym e) ∙ drop-length o) ∙ append-nil t

-- ---- a text in its place

pub puts_none : (s : Text) → Puts s [] s
puts_none s = record { same = refl; list = refl; next = omega arith; size = refl }

-- a text, and another behind it
pub puts_then : {s s₁ s₂ : Text} {t u : List ℕ} → Puts s t s₁ → Puts s₁ u s₂ → Puts s (t ++ u) s₂
puts_then {s} {s₁} {s₂} {t} {u} p q =
    record {
      same = q.same ∙ p.same;
      list = q.list ∙ rw (p.list, p.next) (sym (sets_append s.out.now s.len t u));
      next = simp length-append (omega (arith, p.next, q.next));
      size = q.size ∙ p.size;
    }
