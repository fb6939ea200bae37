-- The bits that digits say, four a digit. Assumes nothing.
use Rattle.std.proofs.Common.{◌≡◌, ℕ, suc, ◌+◌, ◌*◌, ◌/◌, ◌%◌, ◌^◌, ◌<◌, List, [], ◌∷◌, ◌++◌, length, get_or, take, set, refl, ap, ◌∙◌, zero-add, add-one, arith, length-take, take-suc}
use lib.Seq.{sets}
use Rattle.ground.specs.Digits.{digits_of}
use Rattle.report.specs.Reading.{digit_value, bits_of}
use Rattle.report.proofs.Texts.{sets_append}

pub bits-length : (l : List ℕ) → length (bits_of l) ≡ 4 * length l
bits-length [] = refl
bits-length (c ∷ l) = let e = bits-length l in omega arith

bits-append : (a b : List ℕ) → bits_of (a ++ b) ≡ bits_of a ++ bits_of b
bits-append [] b = refl
bits-append (c ∷ a) b = ap (λ (r : List ℕ). digits_of 4 (digit_value c) ++ r) (bits-append a b)

-- a turn of the loop: four stores
pub bits-turn :
    (o l : List ℕ) (i d : ℕ) → i < length l → d ≡ digit_value (get_or l i 0)
    → set (set (set (set (sets o 0 (bits_of (take i l))) (4 * i) (d / 8 % 2)) (4 * i + 1) (d / 4 % 2)) (4 * i + 2) (d / 2 % 2)) (4 * i + 3) (d % 2)
    ≡ sets o 0 (bits_of (take (i + 1) l))
bits-turn o l i d h e =
    let b = bits_of (take i l) in
    let v = get_or l i 0 in
    let n : length b ≡ 4 * i = bits-length (take i l) ∙ ap (λ (k : ℕ). 4 * k) (simp length-take (omega arith)) in
    let e₁ : 4 * i + 1 ≡ suc (4 * i) = omega arith in
    let e₂ : 4 * i + 2 ≡ suc (suc (4 * i)) = omega arith in
    let e₃ : 4 * i + 3 ≡ suc (suc (suc (4 * i))) = omega arith in
    let e₄ : d % 2 ≡ d / 2 ^ 0 % 2 = omega arith in
    rw (e₁, e₂, e₃, e₄, e, add-one, take-suc l i 0 h, bits-append (take i l) (v ∷ []), sets_append o 0 b (digits_of 4 (digit_value v) ++ []), n, zero-add (4 * i)) refl
