-- The refusals of unpacking and of a call for the word, said without the call: it is refused by a number exactly where
-- this is so. Assumes nothing.
use mathlib.Core.Path.{◌≡◌, refl, sym, ◌∙◌, subst}
use mathlib.Core.Bool.{not}
use mathlib.Core.Logic.Iff
use mathlib.Core.Logic.{◌⊎◌, inl, inr, ⊎_elim, ◌↔◌}
use mathlib.Core.List.{List, [], ◌∷◌, map}
use Prim.Native.Nat.{ℕ, ◌<◌, ◌≤◌, min}
use native.Mathlib.Omega.{arith}
use lib.Dec.{eqb, ltb}
use lib.ListN.{length, take, drop, length-map}
use Rattle.std.specs.Prelude.{Option, Some, None}
use Rattle.ground.specs.declared.Refusal.{Refusal}
use Rattle.ground.specs.declared.Refusal.TheVariants as the
use Rattle.ground.specs.Refusal.{ACCEPTED, LENGTH, NOT_A_BIT, NO_WORD, RESERVED, INCOMPLETE, Test, ◌gives◌}
use Rattle.ground.specs.Bits.{Bits, are_bits}
use Rattle.ground.proofs.Bits.{are-bits}
use Rattle.ground.proofs.Exactly.{Decides, less_decides, equal_decides, bits_decide, not_decides, lacks-number, given-here, given-behind, accepted-last}
use Rattle.bch.specs.Code.{Codeword, distance, Lone}
use Rattle.bch.proofs.Distance.{unique}
use Rattle.tps.specs.declared.receiver.TpsDecoder.{TpsDecoder}
use Rattle.tps.specs.Word.{SYMBOLS, said}
use Rattle.tps.specs.Packing.{Unpacked, number_of, unpack_no, UnpacksBy, Unpacks}
use Rattle.tps.specs.Receive.{word_no, WordsBy, Words}
use Rattle.tps.proofs.Unpacking.{unpack_accepted, rest-length, rest-bits, received-number}
use Rattle.tps.proofs.StandingBits.{held-are-bits}

-- ---- a promise by the refusal of its tests: R None where they pass, and else their refusal

module _ {n : Option Refusal} (R : Option Refusal → Type 0) (refuses : (k : Refusal) → R (Some k) → n ≡ Some k) where
  -- a refusal that the tests give
  by_tests : (number : Option Refusal) (k : Refusal) → R number → (R None → n ≡ Some k → ⊥) → (n ≡ Some k) ↔ (number ≡ Some k)
  by_tests None k h f = (λ e. absurd (f h e), λ e. cc)
  by_tests (Some j) k h f = (λ e. sym (refuses j h) ∙ e, λ e. refuses j h ∙ e)

  -- a refusal that is given where they pass, which is where Q
  past-tests : {P Q : Type 0} (number : Option Refusal) (k : Refusal) → R number → (number ≡ ACCEPTED) ↔ Q → (number ≡ Some k → ⊥) → (Q → R None → (n ≡ Some k) ↔ P)
      → (n ≡ Some k) ↔ (Q × P)
  past-tests None k h q other f = (λ e. (q.0 refl, (f (q.0 refl) h).0 e), λ y. (f y.0 h).1 y.1)
  past-tests (Some j) k h q other f = (λ e. absurd (other (sym (refuses j h) ∙ e)), λ y. let z = q.1 y.0 in cc)

-- ---- 68 bits: NO WORD or RESERVED, or the call is accepted

-- a codeword within two of s1..s67 has constellation code 3, or rate code 5, 6 or 7
pub record Reserves (b : List ℕ) : Type 0 where
  pub word : List ℕ
  pub codeword : Codeword word
  pub near : distance word b ≤ 2
  pub reserved : (3 ≤ said 25 26 (take 53 word)) ⊎ (5 ≤ said 30 32 (take 53 word))

-- that the bits are 68 bits
abbrev pub Sized : List ℕ → Type 0
Sized b = (length b ≡ SYMBOLS) × Bits b

module _ (b : List ℕ) (r : Unpacked) where
  by-none : UnpacksBy None b r → (number_of r ≡ NO_WORD) ↔ Lone (drop 1 b)
  by-none (inl h) = (
    λ e. absurd (⊎_elim (λ x. let z = x.0 in cc) (λ x. let z = x.0 in cc) (received-number h)),
    λ l. absurd (l h.word h.codeword h.near),
  )
  by-none (inr h) = (λ e. h.0, λ l. h.1)

  by-reserved : Sized b → UnpacksBy None b r → (number_of r ≡ RESERVED) ↔ Reserves (drop 1 b)
  by-reserved s (inl h) = (
    λ e. ⊎_elim (λ x. let z = x.0 in cc) (λ x. record { word = h.word; codeword = h.codeword; near = h.near; reserved = x.1 }) (received-number h),
    λ k. ⊎_elim (λ x. absurd (small k x.1 x.2)) (λ x. x.0) (received-number h),
  )
    where
      small : (k : Reserves (drop 1 b)) → said 25 26 (take 53 h.word) < 3 → said 30 32 (take 53 h.word) < 5 → ⊥
      small k c rate =
          let a = are-bits b s.1 in
          let same : k.word ≡ h.word =
          unique k.word h.word (drop 1 b) k.codeword h.codeword (rest-bits b s.0 a) (rest-length b s.0 a) k.near h.near in
          ⊎_elim (λ y. omega (arith, y, c)) (λ y. omega (arith, y, rate))
          (subst (λ (w : List ℕ). (3 ≤ said 25 26 (take 53 w)) ⊎ (5 ≤ said 30 32 (take 53 w))) same k.reserved)
  by-reserved s (inr h) = (λ e. let z = h.1 in cc, λ k. absurd (h.0 k.word k.codeword k.near))

  -- no other refusal
  not-by : UnpacksBy None b r → (k : Refusal) → (k ≡ the.NoWord → ⊥) → (k ≡ the.Reserved → ⊥) → number_of r ≡ Some k → ⊥
  not-by (inl h) k word code e = ⊎_elim (λ x. let z = x.0 in cc) (λ x. let z = x.0 in code cc) (received-number h)
  not-by (inr h) k word code e = let z = h.1 in word cc

-- ---- unpacking

module _ (b : List ℕ) (r : Unpacked) (u : Unpacks b r) where
  abbrev items : List Test
  items = not (are_bits b) gives NOT_A_BIT ∷ []

  abbrev tests : List Test
  tests = not (eqb (length b) SYMBOLS) gives LENGTH ∷ items

  tested : (k : Refusal) → (k ≡ the.NoWord → ⊥) → (k ≡ the.Reserved → ⊥) → (number_of r ≡ Some k) ↔ (unpack_no b ≡ Some k)
  tested k word code = by_tests (λ no. UnpacksBy no b r) (λ k h. h) (unpack_no b) k u (λ h. not-by b r h k word code)

  other_length : Decides (not (eqb (length b) SYMBOLS)) (length b ≡ SYMBOLS → ⊥) (length b ≡ SYMBOLS)
  other_length = not_decides (equal_decides (length b) SYMBOLS)

  sized : (unpack_no b ≡ ACCEPTED) ↔ Sized b
  sized = given-behind LENGTH ACCEPTED items other_length tt (λ l. accepted-last NOT_A_BIT (not_decides (bits_decide b)) tt)

  pub unpacking_length : (number_of r ≡ LENGTH) ↔ (length b ≡ SYMBOLS → ⊥)
  unpacking_length = Iff.trans (tested the.Length (λ e. cc) (λ e. cc)) (given-here LENGTH items other_length tt)

  pub unpacking_not_a_bit : (number_of r ≡ NOT_A_BIT) ↔ ((length b ≡ SYMBOLS) × (Bits b → ⊥))
  unpacking_not_a_bit =
      Iff.trans (tested the.NotABit (λ e. cc) (λ e. cc))
      (given-behind LENGTH NOT_A_BIT items other_length tt (λ l. given-here NOT_A_BIT [] (not_decides (bits_decide b)) tt))

  pub unpacking_no_word : (number_of r ≡ NO_WORD) ↔ (Sized b × Lone (drop 1 b))
  unpacking_no_word =
      past-tests (λ no. UnpacksBy no b r) (λ k h. h) (unpack_no b) the.NoWord u sized (lacks-number NO_WORD tests tt) (λ s. by-none b r)

  pub unpacking_reserved : (number_of r ≡ RESERVED) ↔ (Sized b × Reserves (drop 1 b))
  unpacking_reserved =
      past-tests (λ no. UnpacksBy no b r) (λ k h. h) (unpack_no b) the.Reserved u sized (lacks-number RESERVED tests tt) (by-reserved b r)

-- ---- a call for the word

module _ (d : TpsDecoder) (z : length d.bits ≡ SYMBOLS) (r : Unpacked) (w : Words d r) where
  -- the bits that are unpacked, one above 1 treated as 1
  abbrev held : List ℕ
  held = map (min 1) d.bits

  held-sized : Sized held
  held-sized = (length-map d.bits (min 1) ∙ z, held-are-bits d.bits)

  near : Unpacks held r → UnpacksBy None held r
  near u = subst (λ (k : Option Refusal). UnpacksBy k held r) (unpack_accepted held held-sized.0 (are-bits held held-sized.1)) u

  complete : (word_no d ≡ ACCEPTED) ↔ (SYMBOLS ≤ d.count)
  complete = accepted-last INCOMPLETE (less_decides d.count SYMBOLS) tt

  pub asking_incomplete : (number_of r ≡ INCOMPLETE) ↔ (d.count < SYMBOLS)
  asking_incomplete =
      Iff.trans (by_tests (λ no. WordsBy no d r) (λ k h. h) (word_no d) the.Incomplete w (λ u. not-by held r (near u) the.Incomplete (λ e. cc) (λ e. cc)))
      (given-here INCOMPLETE [] (less_decides d.count SYMBOLS) tt)

  asked : {P : Type 0} (k : Refusal) → (word_no d ≡ Some k → ⊥) → (UnpacksBy None held r → (number_of r ≡ Some k) ↔ P) → (number_of r ≡ Some k) ↔ ((SYMBOLS ≤ d.count) × P)
  asked k other f = past-tests (λ no. WordsBy no d r) (λ k h. h) (word_no d) k w complete other (λ c u. f (near u))

  pub asking_no_word : (number_of r ≡ NO_WORD) ↔ ((SYMBOLS ≤ d.count) × Lone (drop 1 held))
  asking_no_word = asked the.NoWord (lacks-number NO_WORD (ltb d.count SYMBOLS gives INCOMPLETE ∷ []) tt) (by-none held r)

  pub asking_reserved : (number_of r ≡ RESERVED) ↔ ((SYMBOLS ≤ d.count) × Reserves (drop 1 held))
  asking_reserved = asked the.Reserved (lacks-number RESERVED (ltb d.count SYMBOLS gives INCOMPLETE ∷ []) tt) (by-reserved held r held-sized)
