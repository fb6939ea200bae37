-- No two cases of an answer say the same, nor have two cases of a field one code; and an answer that meets a promise
-- and says 0 is accepted: no call is refused by 0. Assumes nothing.
use mathlib.Core.Path.{◌≡◌, refl, sym, ap, ◌∙◌}
use mathlib.Core.List.{List, [], ◌∷◌}
use Prim.Native.Nat.{ℕ}
use native.Mathlib.Omega.{arith}
use lib.ListN.{length, get_or}
use Rattle.std.specs.Prelude.{Option, None, Some, Result, Ok, Err}
use Rattle.ground.specs.declared.Refusal.{Refusal}
use Rattle.ground.specs.Refusal.{ACCEPTED}
use Rattle.ground.specs.Answer.{value_or}
use Rattle.ground.specs.declared.ConstellationOrder.{ConstellationOrder}
use Rattle.ground.specs.declared.ConstellationOrder.TheVariants.{Qpsk}
use Rattle.bch.specs.declared.Mended.{Mended}
use Rattle.tps.specs.declared.word.PunctureRate.{PunctureRate}
use Rattle.tps.specs.declared.word.PunctureRate.TheVariants.{R1_2}
use Rattle.tps.specs.declared.word.GuardInterval.{GuardInterval}
use Rattle.tps.specs.declared.word.GuardInterval.TheVariants.{G1_32}
use Rattle.tps.specs.declared.word.TpsWord.{TpsWord}
use Rattle.tps.specs.Codes.{constellation_code, constellation_of, rate_code, rate_of, guard_code, guard_of}
use Rattle.tps.specs.Packing.{Unpacked, mended_word, unpacked_says, number_of, Unpacks}
use Rattle.tps.specs.Receive.{bit_says, bit_number, bit_answer}
use Rattle.tps.proofs.Codes.{constellation_known, rate_known, guard_known}

-- ---- answers

-- one value and none are told apart
pub some-none : {A : Type 0} {v : A} {l : List A} → v ∷ [] ≡ l → length l ≡ 0 → ⊥
some-none e z = omega (arith, ap length e, z)

pub bit_faithful : (a c : Result ℕ Refusal) → bit_says a ≡ bit_says c → a ≡ c
bit_faithful (Ok b) (Ok d) e = ap (λ (s : Option Refusal × List ℕ). Ok (get_or s.1 0 0)) e
bit_faithful (Ok b) (Err k) e = absurd (some-none (ap (λ (s : Option Refusal × List ℕ). s.1) e) refl)
bit_faithful (Err k) (Ok d) e = absurd (some-none (ap (λ (s : Option Refusal × List ℕ). s.1) (sym e)) refl)
bit_faithful (Err k) (Err j) e = let n = ap (λ (s : Option Refusal × List ℕ). s.0) e in cc

abbrev Says : Type 0
Says = Option Refusal × List (TpsWord × Mended)

pub unpacked_faithful : (a c : Unpacked) → unpacked_says a ≡ unpacked_says c → a ≡ c
unpacked_faithful (Ok u) (Ok v) e =
    ap (λ (s : Says). let t = get_or s.1 0 (u.word, u.mended) in mended_word t.0 t.1) e
unpacked_faithful (Ok u) (Err k) e = absurd (some-none (ap (λ (s : Says). s.1) e) refl)
unpacked_faithful (Err k) (Ok v) e = absurd (some-none (ap (λ (s : Says). s.1) (sym e)) refl)
unpacked_faithful (Err k) (Err j) e = let n = ap (λ (s : Says). s.0) e in cc

-- ---- number 0 is an accepted call's

pub fed_by_0 : (number : Option Refusal) (b : ℕ) → bit_number (bit_answer number b) ≡ ACCEPTED → bit_answer number b ≡ Ok b
fed_by_0 None b e = refl
fed_by_0 (Some k) b e = cc

-- the answer is a word
abbrev IsWord : Unpacked → Type 0
IsWord r = (w : TpsWord) × (m : Mended) × (r ≡ mended_word w m)

word_by_0 : (r : Unpacked) → number_of r ≡ ACCEPTED → IsWord r
word_by_0 (Ok u) e = (u.word, u.mended, refl)
word_by_0 (Err k) e = cc

pub unpacked_by_0 : (b : List ℕ) (r : Unpacked) → Unpacks b r → number_of r ≡ ACCEPTED → IsWord r
unpacked_by_0 b r u e = word_by_0 r e

-- ---- the codes of the fields

pub constellation_faithful : (a c : ConstellationOrder) → constellation_code a ≡ constellation_code c → a ≡ c
constellation_faithful a c e = ap (value_or Qpsk) (sym (constellation_known a) ∙ ap constellation_of e ∙ constellation_known c)

pub rate_faithful : (a c : PunctureRate) → rate_code a ≡ rate_code c → a ≡ c
rate_faithful a c e = ap (value_or R1_2) (sym (rate_known a) ∙ ap rate_of e ∙ rate_known c)

pub guard_faithful : (a c : GuardInterval) → guard_code a ≡ guard_code c → a ≡ c
guard_faithful a c e = ap (value_or G1_32) (sym (guard_known a) ∙ ap guard_of e ∙ guard_known c)
