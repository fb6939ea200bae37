-- Every encoding is a codeword, every codeword is the encoding of its first 53 bits, two encodings differ in at least
-- five places, and information with its parity's digits behind it is its encoding. Assumes nothing.
use mathlib.Core.Path.{◌≡◌, sym, ap, ap₂, ◌∙◌}
use mathlib.Core.List.{List, [], ◌++◌, append-nil}
use Prim.Native.Nat.{ℕ, ◌-◌, ◌^◌, ◌<◌, ◌≤◌}
use native.Mathlib.Omega.{arith}
use lib.Bits.{bit_xor, xor_self}
use lib.ListN.{length, replicate, length-append, take, drop, length-drop, drop_of_length-le, take-append-drop}
use lib.Seq.{take_at, drop_at, length-take-le}
use borrow.Rule.Slice.PartMut.{put_mid}
use Rattle.ground.specs.Bits.{Bits}
use Rattle.ground.specs.Digits.{value_of, digits_of}
use Rattle.ground.proofs.Bits.{zeros-bits, bits-append, bits-take, bits-drop}
use Rattle.ground.proofs.Digits.{digits_bits, digits_length, digits_number, small_digits}
use Rattle.bch.specs.Code.{remainder_of, parity, encode, Codeword, distance}
use Rattle.bch.proofs.Xor.{xor_zero_eq}
use Rattle.bch.proofs.Generator.{remainder_lt, remainder_xor, remainder_small, remainder_append}
use Rattle.bch.proofs.Distance.{distance_five}

pub encode-divided : (info : List ℕ) → Bits info → remainder_of 0 (encode info) ≡ 0
encode-divided info hb =
    let v : ℕ = remainder_of 0 info in
    let p : ℕ = parity info in
    let hv : v < 2 ^ 14 = remainder_lt 0 info (omega arith) hb in
    let hp : p < 2 ^ 14 = remainder_lt 0 (info ++ replicate 14 0) (omega arith) (bits-append info (replicate 14 0) hb (zeros-bits 14)) in
    let d : List ℕ = digits_of 14 p in
    remainder_append 0 info (digits_of 14 p)
    ∙ remainder_xor 0 v (digits_of 14 p) (omega arith) hv (digits_bits 14 p)
    ∙ ap₂ bit_xor (remainder_small 0 0 d (omega arith) (digits_bits 14 p) (omega (arith, digits_length 14 p)) ∙ small_digits 14 p hp)
    (sym (remainder_append 0 info (replicate 14 0)))
    ∙ xor_self p

pub encode-length : (info : List ℕ) → length info ≡ 53 → length (encode info) ≡ 67
encode-length info hl = length-append info (digits_of 14 (parity info)) ∙ omega arith

pub encode-codeword : (info : List ℕ) → Bits info → length info ≡ 53 → Codeword (encode info)
encode-codeword info hb hl =
    record {
      size = encode-length info hl;
      bits = bits-append info (digits_of 14 (parity info)) hb (digits_bits 14 (parity info));
      divided = encode-divided info hb;
    }

-- two informations that differ give codewords that differ in at least five places
pub informations_apart : (i j : List ℕ) → Bits i → Bits j → length i ≡ 53 → length j ≡ 53 → (i ≡ j → ⊥) → 5 ≤ distance (encode i) (encode j)
informations_apart i j hi hj li lj ne =
    distance_five (encode i) (encode j) (encode-codeword i hi li) (encode-codeword j hj lj)
    (λ e. ne (sym (take_at i (digits_of 14 (parity i)) 53 li) ∙ ap (take 53) e ∙ take_at j (digits_of 14 (parity j)) 53 lj))

-- ---- every codeword is the encoding of its information

-- fourteen bits are told by their remainder
parity_bits_equal : (v : ℕ) (xs ys : List ℕ) → v < 2 ^ 14 → Bits xs → Bits ys → length xs ≡ 14 → length ys ≡ 14 → remainder_of v xs ≡ 0 → remainder_of v ys ≡ 0 → xs ≡ ys
parity_bits_equal v xs ys hv hx hy lx ly e f =
    let z : ℕ = remainder_of v (replicate 14 0) in
    let a : remainder_of 0 xs ≡ z = xor_zero_eq (remainder_of 0 xs) z
    (ap (λ (n : ℕ). bit_xor (remainder_of 0 xs) (remainder_of v (replicate n 0))) (sym lx) ∙ sym (remainder_xor 0 v xs (omega arith) hv hx) ∙ e) in
    let b : remainder_of 0 ys ≡ z = xor_zero_eq (remainder_of 0 ys) z
    (ap (λ (n : ℕ). bit_xor (remainder_of 0 ys) (remainder_of v (replicate n 0))) (sym ly) ∙ sym (remainder_xor 0 v ys (omega arith) hv hy) ∙ f) in
    let k : value_of 0 xs ≡ value_of 0 ys =
    sym (remainder_small 0 0 xs (omega arith) hx (omega arith)) ∙ a ∙ sym b ∙ remainder_small 0 0 ys (omega arith) hy (omega arith) in
    sym (digits_number 0 xs hx) ∙ ap₂ digits_of (lx ∙ sym ly) k ∙ digits_number 0 ys hy

pub codeword-encode : (w : List ℕ) → Codeword w → w ≡ encode (take 53 w)
codeword-encode w h =
    let i = take 53 w in
    let n = h.size in
    let li : length i ≡ 53 = length-take-le 53 w (omega arith) in
    let hi = bits-take 53 w h.bits in
    let v : ℕ = remainder_of 0 i in
    let p : ℕ = parity i in
    sym (take-append-drop 53 w)
    ∙ ap (λ (l : List ℕ). i ++ l)
    (parity_bits_equal v (drop 53 w) (digits_of 14 p) (remainder_lt 0 i (omega arith) hi) (bits-drop 53 w h.bits) (digits_bits 14 p)
    (length-drop 53 w ∙ omega arith) (digits_length 14 p)
    (sym (remainder_append 0 i (drop 53 w)) ∙ ap (remainder_of 0) (take-append-drop 53 w) ∙ h.divided)
    (sym (remainder_append 0 i (digits_of 14 p)) ∙ encode-divided i hi))

-- ---- the codeword as it is written

module _ (info o b d : List ℕ) (p : ℕ) (hi : length info ≡ 53) (ho : length o ≡ 67) (copy_is : b ≡ info) where
  behind : length (b ++ drop 53 o) - 53 ≡ 14
  behind = let e = ap length copy_is in simp (length-append, length-drop) (omega arith)

  rest_is : drop 53 (b ++ drop 53 o) ≡ drop 53 o
  rest_is = drop_at b (drop 53 o) 53 (ap length copy_is ∙ hi)

  pub room : length (take (length (b ++ drop 53 o) - 53) (drop 53 (b ++ drop 53 o))) ≡ 14
  room =
      ap₂ (λ (n : ℕ) (l : List ℕ). length (take n l)) behind rest_is
      ∙ length-take-le 14 (drop 53 o) (omega (arith, length-drop 53 o))

  pub codeword-written : p ≡ parity info → d ≡ digits_of (length (take (length (b ++ drop 53 o) - 53) (drop 53 (b ++ drop 53 o)))) p
      → put_mid 53 (length (b ++ drop 53 o) - 53) (b ++ drop 53 o) d ≡ encode info
  codeword-written ep ed =
      let none : drop 14 (drop 53 o) ≡ [] = drop_of_length-le (drop 53 o) {i = 14} (omega (arith, length-drop 53 o)) in
      ap (λ (n : ℕ). put_mid 53 n (b ++ drop 53 o) d) behind
      ∙ ap₂ (λ (x y : List ℕ). x ++ (d ++ drop 14 y)) (take_at b (drop 53 o) 53 (ap length copy_is ∙ hi)) rest_is
      ∙ ap (λ (x : List ℕ). b ++ (d ++ x)) none
      ∙ ap₂ (λ (x y : List ℕ). x ++ y) copy_is (append-nil d ∙ ed ∙ ap₂ digits_of room ep)
