-- A table of fields: its bits are bits, as many as its widths say, and their number is that of the fields behind one
-- another. Assumes nothing.
use mathlib.Core.Path.{◌≡◌, refl, sym, ap, ◌∙◌, subst}
use mathlib.Core.List.{List, [], ◌∷◌, ◌++◌}
use Prim.Native.Nat.{ℕ, zero, suc, ◌+◌, ◌-◌, ◌*◌, ◌/◌, ◌%◌, ◌^◌, ◌<◌, ◌≤◌}
use native.Mathlib.Nat.{pow-suc, lt_of_lt_of_le, pow-le-pow_right, mod-eq_of_lt, add-mul, mul_assoc, mul_comm}
use native.Mathlib.Omega.{arith}
use lib.Pow.{mod-pow-add}
use lib.ListN.{length, take, drop, length-drop}
use lib.Seq.{length-take-le}
use Rattle.ground.specs.Bits.{Bits}
use Rattle.ground.specs.Digits.{digits_of, value_of}
use Rattle.ground.proofs.Bits.{bits-append, bits-take, bits-drop}
use Rattle.ground.proofs.Digits.{digits_bits, number-below}
use Rattle.tps.specs.declared.word.TpsWord.{TpsWord}
use Rattle.tps.specs.declared.inner.Codes.{Codes}
use Rattle.tps.specs.Codes.{codes_of}
use Rattle.tps.specs.Word.{Field, bits_of, sync_of, fields_of, information_of}
use Rattle.tps.proofs.Codes.{constellation_small, rate_small, guard_small}

-- ---- the number of a table's bits

pub fields_bits : (fs : List Field) → Bits (bits_of fs)
fields_bits [] = tt
fields_bits (f ∷ fs) = bits-append (digits_of f.width f.value) (bits_of fs) (digits_bits f.width f.value) (fields_bits fs)

value-append : (s : ℕ) (xs ys : List ℕ) → value_of s (xs ++ ys) ≡ value_of (value_of s xs) ys
value-append s [] ys = refl
value-append s (x ∷ xs) ys = value-append (s * 2 + x) xs ys

-- the number of the n low digits of v, behind s
pub value_digits : (n s v : ℕ) → value_of s (digits_of n v) ≡ s * 2 ^ n + v % 2 ^ n
value_digits zero s v = omega arith
value_digits (suc n) s v =
    let d : ℕ = v / 2 ^ n % 2 in
    let f : suc n ≡ 1 + n = omega arith in
    let e : v % 2 ^ suc n ≡ d * 2 ^ n + v % 2 ^ n = ap (λ (k : ℕ). v % 2 ^ k) f ∙ mod-pow-add v 1 n in
    let p : s * 2 ^ suc n ≡ s * 2 * 2 ^ n = ap (λ (x : ℕ). s * x) (pow-suc 2 n ∙ mul_comm (2 ^ n) 2) ∙ sym (mul_assoc s 2 (2 ^ n)) in
    let q : (s * 2 + d) * 2 ^ n ≡ s * 2 * 2 ^ n + d * 2 ^ n = add-mul (s * 2) d (2 ^ n) in
    value_digits n (s * 2 + d) v ∙ omega arith

-- the number of a part of bits
pub part-below : (s : List ℕ) (from n : ℕ) → Bits s → from + n ≤ length s → value_of 0 (take n (drop from s)) < 2 ^ n
part-below s from n h l =
    subst (λ (k : ℕ). value_of 0 (take n (drop from s)) < 2 ^ k)
    (length-take-le n (drop from s) (omega (arith, length-drop from s)))
    (number-below (take n (drop from s)) (bits-take n (drop from s) (bits-drop from s h)))

pub field_below : (s : List ℕ) (from to v : ℕ) → Bits s → length s ≡ 53 → from ≤ to → to ≤ 53 → to - from ≤ 8
    → v ≡ value_of 0 (take (to - from) (drop from s)) → v < 256
field_below s from to v h l f t n e =
    let b : v < 2 ^ (to - from) = subst (λ (x : ℕ). x < 2 ^ (to - from)) (sym e) (part-below s from (to - from) h (omega arith)) in
    lt_of_lt_of_le {n = v} {m = 2 ^ (to - from)} {k = 256} b (pow-le-pow_right {n = 2} (omega arith) {i = to - from} {j = 8} n)

-- each field's number has room in its width
abbrev pub Fit : List Field → Type 0
Fit [] = Unit {0}
Fit (f ∷ fs) = (f.value < 2 ^ f.width) × Fit fs

-- the fields behind one another, behind s
abbrev pub behind : ℕ → List Field → ℕ
behind s [] = s
behind s (f ∷ fs) = behind (s * 2 ^ f.width + f.value) fs

pub fields_value : (s : ℕ) (fs : List Field) → Fit fs → value_of s (bits_of fs) ≡ behind s fs
fields_value s [] h = refl
fields_value s (f ∷ fs) h =
    value-append s (digits_of f.width f.value) (bits_of fs)
    ∙ ap (λ (x : ℕ). value_of x (bits_of fs)) (value_digits f.width s f.value ∙ ap (λ (x : ℕ). s * 2 ^ f.width + x) (mod-eq_of_lt h.0))
    ∙ fields_value (s * 2 ^ f.width + f.value) fs h.1

-- ---- the number of a word's table

-- the three codes have room in their fields
abbrev Small : Codes → Type 0
Small k = (k.constellation < 4) × (k.rate < 8) × (k.guard < 4)

-- of the codes k of the word w
pub information-value : (w : TpsWord) (k : Codes) (sync v : ℕ) → k ≡ codes_of w → k.cell < 256 → (sync ≡ sync_of k.frame) × (sync < 65536)
    → v ≡ ((((((sync * 64 + 31) * 4 + k.frame % 4) * 4 + k.constellation) * 64 + k.rate) * 8 * 4 + k.guard) * 1024 + k.cell) * 64
    → v ≡ value_of 0 (information_of w)
information-value w k sync v e hc hs ev =
    let small : Small k = subst Small (sym e) (constellation_small w.constellation, rate_small w.code_rate_hp, guard_small w.guard) in
    ev ∙ omega arith
    ∙ sym (fields_value 0 (fields_of k) (omega arith, (omega arith, (omega arith, (omega arith, (omega arith, (omega arith, (omega arith, (omega arith, (omega arith, (omega arith, (omega arith, tt))))))))))))
    ∙ ap (λ (x : Codes). value_of 0 (bits_of (fields_of x))) e
