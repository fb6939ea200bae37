-- The bits that a receiver holds: one more, and all 68; what a call for them answers, and what one for the word does.
-- Assumes nothing.
use mathlib.Core.Path.{◌≡◌, refl, sym, ap, ap₂, ◌∙◌, subst}
use mathlib.Core.Bool.{Bool, true, false, cond}
use mathlib.Core.List.{List, [], ◌∷◌, ◌++◌, map, map-append, append-nil}
use Prim.Native.Nat.{ℕ, suc, ◌+◌, ◌-◌, ◌<◌, ◌≤◌, min, ◌/◌}
use native.Mathlib.Numerals.{add-one}
use native.Mathlib.Omega.{arith}
use lib.Dec.{ltb}
use lib.ListN.{length, get_or, take, drop, set, replicate, length-append, length-take, length-map, length-replicate, length-set, get_or-replicate, get_or-append}
use Rattle.ground.proofs.Mapped.{map_at}
use lib.Seq.{get_or-take, take-suc, take_all, take_at, take-set-le, get_or-set_same, length-take-le, set_at, append_snoc, get_or-append-add}
use borrow.Author.Tests.{le-ltb, ltb-true, ltb-false}
use Rattle.ground.specs.Refusal.{ACCEPTED}
use Rattle.std.specs.Prelude.{Option, Ok}
use Rattle.ground.specs.declared.Refusal.{Refusal}
use Rattle.ground.specs.Bits.{Bits}
use Rattle.ground.proofs.Answers.{written-front, fill_accepted}
use Rattle.tps.specs.declared.receiver.TpsDecoder.{TpsDecoder}
use Rattle.tps.specs.Word.{SYMBOLS}
use Rattle.tps.specs.Packing.{Unpacked, Unpacks}
use Rattle.tps.specs.Receive.{standing, held_bits, received_bits, bits_answer, bits_leaves, word_no, WordsBy, Words}

-- ---- bits as they are held

min-bit : (b : ℕ) → b < 2 → min 1 b ≡ b
min-bit b h = omega arith

-- bits are held as they are
pub bits_held : (bs : List ℕ) → Bits bs → map (min 1) bs ≡ bs
bits_held [] h = refl
bits_held (b ∷ bs) h = ap₂ (λ (x : ℕ) (l : List ℕ). x ∷ l) (min-bit b h.0) (bits_held bs h.1)

pub held-are-bits : (bs : List ℕ) → Bits (map (min 1) bs)
held-are-bits [] = tt
held-are-bits (b ∷ bs) = (omega arith, held-are-bits bs)

-- one bit more is held
pub standing-bit-next : (bits : List ℕ) (i : ℕ) → length bits ≡ SYMBOLS → i < SYMBOLS → set (held_bits i bits) i (min 1 (get_or bits i 0)) ≡ held_bits (i + 1) bits
unfolding held_bits
standing-bit-next bits i z h =
    let k : length (map (min 1) (take i bits)) ≡ i = simp (length-map, length-take) (omega arith) in
    let e : SYMBOLS - i ≡ suc (SYMBOLS - (i + 1)) = omega arith in
    let l : i < length bits = omega arith in
    let first = map (min 1) (take i bits) in
    let rest = replicate {A = ℕ} (SYMBOLS - suc i) 0 in
    rw (e, add-one i, take-suc bits i 0 l, map-append)
    (set_at first 0 rest (min 1 (get_or bits i 0)) i k ∙ sym (append_snoc first (min 1 (get_or bits i 0)) rest))

-- where bit i stands it is held, and else 0
pub held_at : (bits : List ℕ) (n i : ℕ) → length bits ≡ SYMBOLS → n ≤ SYMBOLS → i < SYMBOLS → cond (ltb i n) (min 1 (get_or bits i 0)) 0 ≡ get_or (held_bits n bits) i 0
unfolding held_bits
held_at bits n i z h k = by (ltb i n) refl
  where
    first : List ℕ
    first = map (min 1) (take n bits)

    long : length first ≡ n
    long = simp (length-map, length-take) (omega arith)

    by : (t : Bool) → ltb i n ≡ t → cond t (min 1 (get_or bits i 0)) 0 ≡ get_or (held_bits n bits) i 0
    by true e =
        let l = ltb-true i n e in
        sym (get_or-append first (replicate (SYMBOLS - n) 0) 0 i (omega (arith, long)) ∙ map_at (min 1) (take n bits) i 0 0 (omega (arith, length-take n bits))
        ∙ ap (min 1) (get_or-take n bits i 0 l))
    by false e =
        let l = ltb-false i n e in
        let j : length first + (i - n) ≡ i = omega (arith, long) in
        sym (sym (ap (λ (k : ℕ). get_or (held_bits n bits) k 0) j) ∙ get_or-append-add first (replicate (SYMBOLS - n) 0) (i - n) 0
        ∙ get_or-replicate (SYMBOLS - n) (i - n) 0 0 (omega arith))

-- a number without a test: 1 where bit i stands and 0 where it doesn't
pub stands-number : (n i b : ℕ) → n ≤ SYMBOLS → i < SYMBOLS → 0 < b → (n + 127 - i) / 128 ≡ cond (ltb i n) (min 1 b) 0
stands-number n i b hn hi hb = by (ltb i n) refl
  where
    by : (t : Bool) → ltb i n ≡ t → (n + 127 - i) / 128 ≡ cond t (min 1 b) 0
    by true e = let l = ltb-true i n e in omega arith
    by false e = let l = ltb-false i n e in omega arith

pub none-stands : (n i b : ℕ) → b ≡ 0 → 0 ≡ cond (ltb i n) (min 1 b) 0
none-stands n i b e = by (ltb i n)
  where
    by : (t : Bool) → 0 ≡ cond t (min 1 b) 0
    by true = omega arith
    by false = refl

same : (n : ℕ) (a b : List ℕ) → map (min 1) (take n a) ≡ map (min 1) (take n b) → held_bits n a ≡ held_bits n b
unfolding held_bits
same n a b e = ap (λ (l : List ℕ). l ++ replicate (SYMBOLS - n) 0) e

module _ (bits : List ℕ) (n : ℕ) (z : length bits ≡ SYMBOLS) (h : n ≤ SYMBOLS) where
  first-length : length (map (min 1) (take n bits)) ≡ n
  first-length = simp (length-map, length-take) (omega arith)

  pub held-length : length (held_bits n bits) ≡ SYMBOLS
  unfolding held_bits
  held-length =
      length-append (map (min 1) (take n bits)) (replicate (SYMBOLS - n) 0) ∙ omega (arith, first-length, length-replicate {0} {A = ℕ} (SYMBOLS - n) 0)

  pub held_first : take n (held_bits n bits) ≡ map (min 1) (take n bits)
  unfolding held_bits
  held_first = take_at (map (min 1) (take n bits)) (replicate (SYMBOLS - n) 0) n first-length

  -- a bit behind the held ones leaves them
  held-before : (v : ℕ) → held_bits n (set (held_bits n bits) n v) ≡ held_bits n bits
  held-before v = rest (set (held_bits n bits) n v) (take-set-le n (held_bits n bits) n v (omega arith) ∙ held_first)
    where
      rest : (l : List ℕ) → take n l ≡ map (min 1) (take n bits) → held_bits n l ≡ held_bits n bits
      rest l e = same n l bits (ap (map (min 1)) e ∙ bits_held (map (min 1) (take n bits)) (held-are-bits (take n bits)))

-- and is held with them
pub held_next : (bits : List ℕ) (n v : ℕ) → length bits ≡ SYMBOLS → n < SYMBOLS → min 1 v ≡ v
    → held_bits (n + 1) (set (held_bits n bits) n v) ≡ set (held_bits n bits) n v
held_next bits n v z h e =
    let k : length (held_bits n bits) ≡ SYMBOLS = held-length bits n z (omega arith) in
    sym (standing-bit-next (set (held_bits n bits) n v) n (length-set (held_bits n bits) n v ∙ k) h)
    ∙ ap₂ (λ (x : List ℕ) (w : ℕ). set x n w) (held-before bits n z (omega arith) v)
    (ap (min 1) (get_or-set_same (held_bits n bits) n v 0 (omega (arith, k))) ∙ e)

pub all_bits_stand : (bits : List ℕ) → length bits ≡ SYMBOLS → held_bits SYMBOLS bits ≡ map (min 1) bits
unfolding held_bits
all_bits_stand bits z = append-nil (map (min 1) (take SYMBOLS bits)) ∙ ap (map (min 1)) (take_all SYMBOLS bits (omega arith))

-- ---- a call for the bits, where n symbols stand

module _ (d : TpsDecoder) (o : List ℕ) (n : ℕ) (e : n ≡ standing d) where
  -- the front of the output came back as the first n of the held bits
  pub bits-written : n ≤ length o → (held t : List ℕ) → length held ≡ SYMBOLS → held ≡ map (min 1) d.bits → t ≡ take n held
      → (Ok n ≡ bits_answer d o) × (t ++ drop n o ≡ bits_leaves d o)
  bits-written h held t l eh et =
      let r = fill_accepted (standing d) (received_bits d) o (omega arith) in
      let m : length (take n held) ≡ n = length-take-le n held (omega arith) in (
        ap Ok e ∙ r.0,
        written-front (received_bits d) o t n (et ∙ ap₂ take e eh) (ap length (sym (ap₂ take e eh)) ∙ m) ∙ r.1,
      )

-- ---- a call for the word

module _ (d : TpsDecoder) where
  word-by : (n : Option Refusal) (r : Unpacked) → word_no d ≡ n → WordsBy n d r → Words d r
  word-by n r e h = subst (λ (k : Option Refusal). WordsBy k d r) (sym e) h

  word-accepted : SYMBOLS ≤ d.count → word_no d ≡ ACCEPTED
  word-accepted h = simp (le-ltb d.count SYMBOLS h) refl

  pub word_unpacks : SYMBOLS ≤ d.count → (r : Unpacked) (held : List ℕ) → held ≡ map (min 1) d.bits → Unpacks held r → Words d r
  word_unpacks h r held e u = word-by ACCEPTED r (word-accepted h) (subst (λ (l : List ℕ). Unpacks l r) e u)

  -- and the other way round
  pub word_unpacked : d.count ≡ SYMBOLS → (r : Unpacked) → Words d r → Unpacks (map (min 1) d.bits) r
  word_unpacked e r w = subst (λ (k : Option Refusal). WordsBy k d r) (word-accepted (omega (arith, e))) w
