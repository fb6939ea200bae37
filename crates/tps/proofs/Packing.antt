-- What packing writes: s0, the information and the parity, each behind the other from the output's front. Assumes
-- nothing.
use mathlib.Core.Path.{◌≡◌, refl, sym, ap, ap₂, ◌∙◌}
use mathlib.Core.List.{List}
use Prim.Native.Nat.{ℕ, suc, ◌^◌, ◌<◌, ◌≤◌}
use native.Mathlib.Omega.{arith}
use lib.ListN.{length, take, drop, set, length-set, length-drop}
use lib.Seq.{take_at, drop_at, take_all, length-take-le}
use borrow.Rule.Slice.PartMut.{put_mid}
use Rattle.std.specs.Prelude.{Ok}
use Rattle.ground.specs.Bits.{Bits}
use Rattle.ground.specs.Digits.{digits_of, value_of}
use Rattle.ground.proofs.Answers.{fill_accepted}
use Rattle.ground.proofs.Front.{front, front-next, front-part, front_length, front-whole}
use Rattle.ground.proofs.Bits.{bits-append}
use Rattle.ground.proofs.Digits.{digits_bits, digits_length}
use Rattle.bch.specs.Code.{parity}
use Rattle.bch.proofs.Codeword.{encode-length}
use Rattle.bch.proofs.Parity.{information_digits}
use Rattle.tps.specs.declared.word.TpsWord.{TpsWord}
use Rattle.tps.specs.Codes.{codes_of}
use Rattle.tps.specs.Word.{fields_of, information_of, word_bits}
use Rattle.tps.specs.Packing.{pack_answer, pack_leaves}
use Rattle.tps.proofs.Fields.{fields_bits}

pub information-length : (w : TpsWord) → length (information_of w) ≡ 53
information-length w = refl

pub word-length : (w : TpsWord) → length (word_bits w) ≡ 68
word-length w = ap suc (encode-length (information_of w) (information-length w))

pub word-bits : (w : TpsWord) → Bits (word_bits w)
word-bits w =
    (omega arith, bits-append (information_of w) (digits_of 14 (parity (information_of w))) (fields_bits (fields_of (codes_of w))) (digits_bits 14 (parity (information_of w))))

-- the first 68 of what is left in an output with room are the word's bits
pub pack_writes : (w : TpsWord) (o : List ℕ) → 68 ≤ length o → take 68 (pack_leaves w o) ≡ word_bits w
pack_writes w o h =
    ap (take 68) (sym (fill_accepted 68 (word_bits w) o h).1) ∙ take_at (word_bits w) (drop (length (word_bits w)) o) 68 (word-length w)

-- ---- what is written

module _ (w : TpsWord) (o : List ℕ) (room : 68 ≤ length o) (v : ℕ) (hv : v ≡ value_of 0 (information_of w)) where
  packed : (v < 2 ^ 53) × (digits_of 53 v ≡ information_of w)
  packed = information_digits (information_of w) v (fields_bits (fields_of (codes_of w))) (information-length w) hv

  zero_written : set o 0 0 ≡ front (word_bits w) 1 o
  zero_written = front-next (word_bits w) o o 0 0 0 (omega (arith, word-length w)) (omega arith) refl refl

  part_length : length (take 53 (drop 1 (set o 0 0))) ≡ 53
  part_length = length-take-le 53 (drop 1 (set o 0 0)) (omega (arith, length-drop 1 (set o 0 0), length-set o 0 0))

  module _ (d : List ℕ) (hd : d ≡ digits_of (length (take 53 (drop 1 (set o 0 0)))) v) where
    information-written : put_mid 1 53 (set o 0 0) d ≡ front (word_bits w) 54 o
    information-written =
        front-part (word_bits w) o (set o 0 0) d 1 54 53 zero_written refl (omega (arith, word-length w))
        (hd ∙ ap (λ (n : ℕ). digits_of n v) part_length ∙ packed.1
        ∙ sym (take_at (information_of w) (digits_of 14 (parity (information_of w))) 53 (information-length w)))

    pub information-room : length (put_mid 1 53 (set o 0 0) d) ≡ length o
    information-room = ap length information-written ∙ front_length (word_bits w) o 54 (omega (arith, word-length w)) (omega arith)

    module _ (p : ℕ) (hp : p ≡ parity (digits_of 53 v)) (q : List ℕ)
        (hq : q ≡ digits_of (length (take 14 (drop 54 (put_mid 1 53 (set o 0 0) d)))) p) where
      rest-length : length (take 14 (drop 54 (put_mid 1 53 (set o 0 0) d))) ≡ 14
      rest-length =
          length-take-le 14 (drop 54 (put_mid 1 53 (set o 0 0) d))
          (omega (arith, length-drop 54 (put_mid 1 53 (set o 0 0) d), information-room))

      parity-place : take 14 (drop 54 (word_bits w)) ≡ digits_of 14 (parity (information_of w))
      parity-place =
          let c : List ℕ = digits_of 14 (parity (information_of w)) in
          ap (take 14) (drop_at (information_of w) c 53 (information-length w))
          ∙ take_all 14 c (omega (arith, digits_length 14 (parity (information_of w))))

      all-written : put_mid 54 14 (put_mid 1 53 (set o 0 0) d) q ≡ front (word_bits w) 68 o
      all-written =
          front-part (word_bits w) o (put_mid 1 53 (set o 0 0) d) q 54 68 14 information-written refl (omega (arith, word-length w))
          (hq ∙ ap₂ digits_of rest-length (hp ∙ ap parity packed.1) ∙ sym parity-place)

      pub pack_accepted : (Ok 68 ≡ pack_answer o) × (put_mid 54 14 (put_mid 1 53 (set o 0 0) d) q ≡ pack_leaves w o)
      pack_accepted =
          let r = fill_accepted 68 (word_bits w) o room in
          (r.0, front-whole (word_bits w) o (put_mid 54 14 (put_mid 1 53 (set o 0 0) d) q) 68 (sym (word-length w)) all-written ∙ r.1)
