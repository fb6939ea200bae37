-- Document 01, 'Report program', and document 02, E1: the text of a line, of the heading and of the closing line.
use Rattle.std.specs.Prelude.{ℕ, zero, suc, ◌+◌, ◌-◌, ◌/◌, ◌%◌, ◌∷◌, ◌++◌}
use Rattle.std.specs.Prelude.{cond, List, [], nat_lt, Result, Ok, Err}
use Prim.Native.Char.{code}
use Rattle.ground.specs.declared.ConstellationOrder.{ConstellationOrder}
use Rattle.ground.specs.declared.ConstellationOrder.TheVariants.{Qpsk, Qam16, Qam64}
use Rattle.tps.specs.declared.word.PunctureRate.{PunctureRate}
use Rattle.tps.specs.declared.word.PunctureRate.TheVariants.{R1_2, R2_3, R3_4, R5_6, R7_8}
use Rattle.tps.specs.declared.word.GuardInterval.{GuardInterval}
use Rattle.tps.specs.declared.word.GuardInterval.TheVariants.{G1_32, G1_16, G1_8, G1_4}
use Rattle.ground.specs.Refusal.{code_of}
use Rattle.tps.specs.declared.word.MendedWord.{MendedWord}
use Rattle.tps.specs.Packing.{Unpacked}
use Rattle.report.specs.Characters.{characters, newline, space}

-- the decimal digits of a number, of which there are at most k
abbrev pub decimal_by : ℕ → ℕ → List ℕ
decimal_by zero n = []
decimal_by (suc k) n = cond (nat_lt n 10) ((code "0" + n) ∷ []) (decimal_by k (n / 10) ++ ((code "0" + n % 10) ∷ []))

-- a number below 10^20 in decimal, with no zero in front
unfoldable pub decimal : ℕ → List ℕ
decimal n = decimal_by 20 n

-- a hexadecimal digit, in lower case
unfoldable pub hexadecimal : ℕ → ℕ
hexadecimal d = cond (nat_lt d 10) (code "0" + d) (code "a" + (d - 10))

-- a cell id in two digits
unfoldable pub cell_text : ℕ → List ℕ
cell_text c = hexadecimal (c / 16) ∷ hexadecimal (c % 16) ∷ []

unfoldable pub points_text : ConstellationOrder → List ℕ
points_text Qpsk = characters "4"
points_text Qam16 = characters "16"
points_text Qam64 = characters "64"

unfoldable pub rate_text : PunctureRate → List ℕ
rate_text R1_2 = characters "1/2"
rate_text R2_3 = characters "2/3"
rate_text R3_4 = characters "3/4"
rate_text R5_6 = characters "5/6"
rate_text R7_8 = characters "7/8"

unfoldable pub guard_text : GuardInterval → List ℕ
guard_text G1_32 = characters "1/32"
guard_text G1_16 = characters "1/16"
guard_text G1_8 = characters "1/8"
guard_text G1_4 = characters "1/4"

-- how many bits were mended; a count above 2, which no call answers, is written as 2
unfoldable pub mended_text : ℕ → List ℕ
mended_text zero = characters "0"
mended_text (suc zero) = characters "1"
mended_text (suc (suc n)) = characters "2"

-- columns with a space between them, and a newline behind the last
abbrev pub row : List (List ℕ) → List ℕ
row [] = newline ∷ []
row (t ∷ []) = t ++ (newline ∷ [])
row (t ∷ u ∷ ts) = t ++ (space ∷ row (u ∷ ts))

-- `line frame points rate guard cell mended`
unfoldable pub heading : List ℕ
heading = characters "line frame points rate guard cell mended\n"

-- an answer with document 01's number in place of the refusal
abbrev pub in_numbers : Unpacked → Result MendedWord ℕ
in_numbers (Ok u) = Ok u
in_numbers (Err refusal) = Err (code_of refusal)

-- the line of line n and its answer: the columns of the heading, or the refusal's number
unfoldable pub line_text : ℕ → Result MendedWord ℕ → List ℕ
line_text n (Ok u) =
    row
    (decimal n
    ∷ decimal u.word.frame_number
    ∷ points_text u.word.constellation
    ∷ rate_text u.word.code_rate_hp
    ∷ guard_text u.word.guard
    ∷ cell_text u.word.cell_id
    ∷ mended_text u.mended.count
    ∷ [])
line_text n (Err k) = row (decimal n ∷ characters "refused" ∷ decimal k ∷ [])

-- the closing line: all lines, then the refused
unfoldable pub closing : ℕ → ℕ → List ℕ
closing n m = row (characters "read" ∷ decimal n ∷ characters "refused" ∷ decimal m ∷ [])
