-- The codes of a word: each is below its bound and says its case, those above are reserved, and the codes of a word
-- say the word. Assumes nothing.
use mathlib.Core.Path.{◌≡◌, refl, sym, ap, ap₂, ◌∙◌}
use mathlib.Core.Logic.{◌⊎◌, inl, inr}
use Prim.Native.Nat.{ℕ, zero, suc, ◌<◌, ◌≤◌}
use native.Mathlib.Omega.{arith}
use native.Mathlib.Decide.{dec_lt}
use Rattle.std.specs.Prelude.{Option, Result, Ok, Err}
use Rattle.ground.specs.declared.Refusal.{Refusal}
use Rattle.ground.specs.declared.Refusal.TheVariants.{Reserved}
use Rattle.ground.specs.Refusal.{ACCEPTED, RESERVED}
use Rattle.ground.specs.declared.ConstellationOrder.{ConstellationOrder}
use Rattle.ground.specs.declared.ConstellationOrder.TheVariants.{Qpsk, Qam16, Qam64}
use Rattle.tps.specs.declared.word.PunctureRate.{PunctureRate}
use Rattle.tps.specs.declared.word.PunctureRate.TheVariants.{R1_2, R2_3, R3_4, R5_6, R7_8}
use Rattle.tps.specs.declared.word.GuardInterval.{GuardInterval}
use Rattle.tps.specs.declared.word.GuardInterval.TheVariants.{G1_32, G1_16, G1_8, G1_4}
use Rattle.tps.specs.declared.word.TpsWord.{TpsWord}
use Rattle.bch.specs.declared.Mended.{Mended}
use Rattle.tps.specs.declared.inner.Codes.{Codes}
use Rattle.tps.specs.Codes.{constellation_code, constellation_of, rate_code, rate_of, guard_code, guard_of, codes_of, word_by, word_of}
use Rattle.tps.specs.Packing.{number_of, unpacked_by}

-- ---- the constellation

pub constellation_known : (c : ConstellationOrder) → constellation_of (constellation_code c) ≡ Ok c
constellation_known Qpsk = refl
constellation_known Qam16 = refl
constellation_known Qam64 = refl

pub constellation_small : (c : ConstellationOrder) → constellation_code c < 4
constellation_small Qpsk = omega arith
constellation_small Qam16 = omega arith
constellation_small Qam64 = omega arith

constellation_below : (n : ℕ) → n < 3 → (c : ConstellationOrder) × (constellation_of n ≡ Ok c)
constellation_below zero h = (Qpsk, refl)
constellation_below (suc zero) h = (Qam16, refl)
constellation_below (suc (suc zero)) h = (Qam64, refl)
constellation_below (suc (suc (suc n))) h = absurd (omega arith)

pub constellation_reserved : (n : ℕ) → 3 ≤ n → constellation_of n ≡ Err Reserved
constellation_reserved zero h = absurd (omega arith)
constellation_reserved (suc zero) h = absurd (omega arith)
constellation_reserved (suc (suc zero)) h = absurd (omega arith)
constellation_reserved (suc (suc (suc n))) h = refl

-- ---- the rate

pub rate_known : (r : PunctureRate) → rate_of (rate_code r) ≡ Ok r
rate_known R1_2 = refl
rate_known R2_3 = refl
rate_known R3_4 = refl
rate_known R5_6 = refl
rate_known R7_8 = refl

pub rate_small : (r : PunctureRate) → rate_code r < 8
rate_small R1_2 = omega arith
rate_small R2_3 = omega arith
rate_small R3_4 = omega arith
rate_small R5_6 = omega arith
rate_small R7_8 = omega arith

rate_below : (n : ℕ) → n < 5 → (r : PunctureRate) × (rate_of n ≡ Ok r)
rate_below zero h = (R1_2, refl)
rate_below (suc zero) h = (R2_3, refl)
rate_below (suc (suc zero)) h = (R3_4, refl)
rate_below (suc (suc (suc zero))) h = (R5_6, refl)
rate_below (suc (suc (suc (suc zero)))) h = (R7_8, refl)
rate_below (suc (suc (suc (suc (suc n))))) h = absurd (omega arith)

pub rate_reserved : (n : ℕ) → 5 ≤ n → rate_of n ≡ Err Reserved
rate_reserved zero h = absurd (omega arith)
rate_reserved (suc zero) h = absurd (omega arith)
rate_reserved (suc (suc zero)) h = absurd (omega arith)
rate_reserved (suc (suc (suc zero))) h = absurd (omega arith)
rate_reserved (suc (suc (suc (suc zero)))) h = absurd (omega arith)
rate_reserved (suc (suc (suc (suc (suc n))))) h = refl

-- ---- the guard interval

pub guard_known : (g : GuardInterval) → guard_of (guard_code g) ≡ Ok g
guard_known G1_32 = refl
guard_known G1_16 = refl
guard_known G1_8 = refl
guard_known G1_4 = refl

pub guard_small : (g : GuardInterval) → guard_code g < 4
guard_small G1_32 = omega arith
guard_small G1_16 = omega arith
guard_small G1_8 = omega arith
guard_small G1_4 = omega arith

guard_below : (n : ℕ) → n < 4 → (g : GuardInterval) × (guard_of n ≡ Ok g)
guard_below zero h = (G1_32, refl)
guard_below (suc zero) h = (G1_16, refl)
guard_below (suc (suc zero)) h = (G1_8, refl)
guard_below (suc (suc (suc zero))) h = (G1_4, refl)
guard_below (suc (suc (suc (suc n)))) h = absurd (omega arith)

pub guard_reserved : (n : ℕ) → 4 ≤ n → guard_of n ≡ Err Reserved
guard_reserved zero h = absurd (omega arith)
guard_reserved (suc zero) h = absurd (omega arith)
guard_reserved (suc (suc zero)) h = absurd (omega arith)
guard_reserved (suc (suc (suc zero))) h = absurd (omega arith)
guard_reserved (suc (suc (suc (suc n)))) h = refl

-- ---- the word

-- by what three of the codes stand for
pub word-by : (k : Codes) (c : Result ConstellationOrder Refusal) (r : Result PunctureRate Refusal) (g : Result GuardInterval Refusal) → constellation_of k.constellation ≡ c → rate_of k.rate ≡ r
    → guard_of k.guard ≡ g → word_by k c r g ≡ word_of k
word-by k c r g ec er eg =
    ap (λ (x : Result ConstellationOrder Refusal). word_by k x r g) (sym ec)
    ∙ ap₂ (λ (x : Result PunctureRate Refusal) (y : Result GuardInterval Refusal). word_by k (constellation_of k.constellation) x y) (sym er) (sym eg)

pub word_of_codes : (w : TpsWord) → word_of (codes_of w) ≡ Ok w
word_of_codes w =
    sym (word-by (codes_of w) _ _ _ (constellation_known w.constellation) (rate_known w.code_rate_hp) (guard_known w.guard))

constellation_refused : (n : ℕ) (k : Refusal) → constellation_of n ≡ Err k → k ≡ Reserved
constellation_refused zero k e = cc
constellation_refused (suc zero) k e = cc
constellation_refused (suc (suc zero)) k e = cc
constellation_refused (suc (suc (suc n))) k e = cc

rate_refused : (n : ℕ) (k : Refusal) → rate_of n ≡ Err k → k ≡ Reserved
rate_refused zero k e = cc
rate_refused (suc zero) k e = cc
rate_refused (suc (suc zero)) k e = cc
rate_refused (suc (suc (suc zero))) k e = cc
rate_refused (suc (suc (suc (suc zero)))) k e = cc
rate_refused (suc (suc (suc (suc (suc n))))) k e = cc

guard_refused : (n : ℕ) (k : Refusal) → guard_of n ≡ Err k → k ≡ Reserved
guard_refused zero k e = cc
guard_refused (suc zero) k e = cc
guard_refused (suc (suc zero)) k e = cc
guard_refused (suc (suc (suc zero))) k e = cc
guard_refused (suc (suc (suc (suc n)))) k e = cc

-- codes that say no word are reserved
pub word_refused : (k : Codes) (r : Refusal) → word_of k ≡ Err r → r ≡ Reserved
word_refused k r e =
    by (constellation_of k.constellation) (rate_of k.rate) (guard_of k.guard) (constellation_refused k.constellation) (rate_refused k.rate) (guard_refused k.guard) e
  where
    by : (x : Result ConstellationOrder Refusal) (y : Result PunctureRate Refusal) (z : Result GuardInterval Refusal) → ((j : Refusal) → x ≡ Err j → j ≡ Reserved)
        → ((j : Refusal) → y ≡ Err j → j ≡ Reserved) → ((j : Refusal) → z ≡ Err j → j ≡ Reserved) → word_by k x y z ≡ Err r → r ≡ Reserved
    by (Ok c) (Ok p) (Ok g) hx hy hz h = cc
    by (Ok c) (Ok p) (Err j) hx hy hz h = let f = hz j refl in cc
    by (Ok c) (Err j) z hx hy hz h = let f = hy j refl in cc
    by (Err j) y z hx hy hz h = let f = hx j refl in cc

-- codes of which the guard's has two bits say a word, or are RESERVED: exactly where the constellation's is 3 or more,
-- or the rate's 5 or more
module _ (k : Codes) (m : Mended) (two : k.guard < 4) where
  abbrev number : Result TpsWord Refusal → Option Refusal
  number w = number_of (unpacked_by w m)

  number_by_lem : Dec (k.constellation < 3) → Dec (k.rate < 5)
      → ((number (word_of k) ≡ ACCEPTED) × (k.constellation < 3) × (k.rate < 5))
      ⊎ ((number (word_of k) ≡ RESERVED) × ((3 ≤ k.constellation) ⊎ (5 ≤ k.rate)))
  number_by_lem (yes hc) (yes hr) =
      let e = word-by k _ _ _ (constellation_below k.constellation hc).1 (rate_below k.rate hr).1 (guard_below k.guard two).1 in
      inl (ap number (sym e), hc, hr)
  number_by_lem (yes hc) (no hr) =
      let h : 5 ≤ k.rate = omega arith in
      let e = word-by k _ _ (guard_of k.guard) (constellation_below k.constellation hc).1 (rate_reserved k.rate h) refl in
      inr (ap number (sym e), inr h)
  number_by_lem (no hc) hr =
      let h : 3 ≤ k.constellation = omega arith in
      let e = word-by k _ (rate_of k.rate) (guard_of k.guard) (constellation_reserved k.constellation h) refl refl in
      inr (ap number (sym e), inl h)

  pub word_number : ((number (word_of k) ≡ ACCEPTED) × (k.constellation < 3) × (k.rate < 5))
      ⊎ ((number (word_of k) ≡ RESERVED) × ((3 ≤ k.constellation) ⊎ (5 ≤ k.rate)))
  word_number = number_by_lem (dec_lt k.constellation 3) (dec_lt k.rate 5)
