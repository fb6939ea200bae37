-- Document 01, 'Report program': a received word is a line of 17 hexadecimal digits, the first digit's high bit s0.
-- Any other line is BAD LINE, before any other refusal.
use Rattle.std.specs.Prelude.{ℕ, ◌+◌, ◌-◌, Bool, cond, ◌&&◌, ◌||◌, List, [], ◌∷◌, ◌++◌, length}
use Rattle.std.specs.Prelude.{◌==◌, nat_le, Ok, Err}
use Rattle.std.specs.List.{list_all}
use Prim.Native.Char.{Char, code}
use Rattle.ground.specs.declared.Refusal.TheVariants.{BadLine}
use Rattle.ground.specs.Digits.{digits_of}
use Rattle.tps.specs.Packing.{Unpacked, unpack_answer}

-- the characters from one to another
abbrev pub between : Char → Char → ℕ → Bool
between first last c = nat_le (code first) c && nat_le c (code last)

-- 0-9 and a-f
unfoldable pub is_digit : ℕ → Bool
is_digit c = between "0" "9" c || between "a" "f" c

-- the number that a digit stands for
unfoldable pub digit_value : ℕ → ℕ
digit_value c = cond (nat_le c (code "9")) (c - code "0") (10 + (c - code "a"))

abbrev pub are_digits : List ℕ → Bool
are_digits l = list_all is_digit l

-- four bits a digit, the high one first
abbrev pub bits_of : List ℕ → List ℕ
bits_of [] = []
bits_of (c ∷ l) = digits_of 4 (digit_value c) ++ bits_of l

-- the answer to a line: that of unpacking its bits s0..s67, or BAD LINE
unfoldable pub read_answer : List ℕ → Unpacked
read_answer l = cond (length l == 17 && are_digits l) (unpack_answer (bits_of l)) (Err BadLine)

-- how many refused lines an answer is
abbrev pub refusals : Unpacked → ℕ
refusals (Ok u) = 0
refusals (Err refusal) = 1
