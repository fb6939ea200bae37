-- Document 01, 'TPS', receiving; EN 300 744, 4.6.3: symbol 0 gives bit 0; later the bit is 1 when the sum over the TPS
-- carriers of re*prev.re - im*(-prev.im) is below zero, summed in order from +0.0 in f32. A NaN sum gives 0. A 69th
-- symbol is FULL.
use Rattle.std.specs.Prelude.{◌≡◌, cond, List, [], ◌∷◌, ◌++◌, map, ℕ, zero, suc, ◌+◌, ◌-◌, min, eqb, ltb, leb}
use Rattle.std.specs.Prelude.{Float, get_or, take, drop, set, replicate, Option, None, Some, Result, Ok, Err}
use Rattle.std.specs.Float.{nan, binary32}
use Rattle.std.specs.Float.Ieee.{add, sub, mul, neg, lt}
use Rattle.ground.specs.declared.Refusal.{Refusal}
use Rattle.ground.specs.Refusal.{ACCEPTED, LENGTH, FULL, INCOMPLETE, ◌gives◌, first_of}
use Rattle.ground.specs.Answer.{answer_by, kept, short, fill_no, fill_answer, fill_leaves}
use Rattle.ground.specs.declared.Cell.{Cell}
use Rattle.ground.specs.Cells.{cell_at, plus_zero, zero_cell}
use Rattle.carriers.specs.Mode.{Mode, tps_size}
use Rattle.tps.specs.declared.receiver.TpsDecoder.{TpsDecoder}
use Rattle.tps.specs.declared.receiver.Fed.{Fed}
use Rattle.tps.specs.Word.{SYMBOLS}
use Rattle.tps.specs.Packing.{Unpacked, number_of, Unpacks, refused_or, unpack_answer}

-- the first n cells of a lent slice, re and im in turn
unfoldable pub first_cells : ℕ → List Float → List Cell
first_cells zero s = []
first_cells (suc n) s = cell_at s 0 ∷ first_cells n (drop 2 s)

-- what stands at a place where there is no cell
abbrev pub no_cell : Cell
no_cell = record { re = nan; im = nan }

-- re*prev.re - im*(-prev.im), each operation rounded once
unfoldable pub product : Cell → Cell → Float
product c p = sub binary32 (mul binary32 c.re p.re) (mul binary32 c.im (neg p.im))

-- the sum over the first k carriers, in order from +0.0
unfoldable pub correlation : ℕ → List Cell → List Cell → Float
correlation zero cells prev = plus_zero
correlation (suc k) cells prev =
    add binary32 (correlation k cells prev) (product (get_or cells k no_cell) (get_or prev k no_cell))

-- the refusal and the bit, for each case of an answer: no two answers say the same
abbrev pub bit_says : Result ℕ Refusal → Option Refusal × List ℕ
bit_says (Ok b) = (ACCEPTED, b ∷ [])
bit_says (Err refusal) = (Some refusal, [])

-- the refusal, and the bit, 0 where there is none
abbrev pub bit_number : Result ℕ Refusal → Option Refusal
bit_number a = (bit_says a).0

abbrev pub bit_in : Result ℕ Refusal → ℕ
bit_in a = get_or (bit_says a).1 0 0

-- the answer of a call by its refusal: the bit where there is none
abbrev pub bit_answer : Option Refusal → ℕ → Result ℕ Refusal
bit_answer refusal b = answer_by refusal b

-- the bits with n standing: the first n, each at most 1, and 0 behind them
unfoldable pub held_bits : ℕ → List ℕ → List ℕ
held_bits n bits = map (min 1) (take n bits) ++ replicate (SYMBOLS - n) 0

module _ (m : Mode) where
  -- the bit of the symbol that is fed when n stand
  unfoldable pub bit_of : ℕ → List Cell → List Cell → ℕ
  bit_of n cells prev = cond (eqb n 0) 0 (cond (lt (correlation m.tps_count cells prev) plus_zero) 1 0)

  abbrev pub fresh_decoder : TpsDecoder
  fresh_decoder = record { prev = replicate m.tps_count zero_cell; bits = replicate SYMBOLS 0; count = 0 }

  -- a count above 68 is treated as 68, so that it is FULL
  abbrev pub feed_no : TpsDecoder → List Float → Option Refusal
  feed_no d cells = first_of (short (tps_size m) cells gives LENGTH ∷ leb SYMBOLS d.count gives FULL ∷ [])

  abbrev pub fed_bit : TpsDecoder → List Float → ℕ
  fed_bit d cells = bit_of d.count (first_cells m.tps_count cells) d.prev

  -- what feeding a symbol answers, with the receiver after it: its bit stands behind those that stood
  abbrev pub feed_answer : TpsDecoder → List Float → Fed
  feed_answer d cells =
      record {
        answer = bit_answer (feed_no d cells) (fed_bit d cells);
        decoder =
            kept (feed_no d cells)
            (record {
              prev = first_cells m.tps_count cells;
              bits = set (held_bits d.count d.bits) d.count (fed_bit d cells);
              count = d.count + 1;
            })
            d;
      }

-- ---- the received bits

-- how many symbols stand: a count above 68 is treated as 68
abbrev pub standing : TpsDecoder → ℕ
standing d = min SYMBOLS d.count

-- s0.., one for each symbol that stands; a held bit above 1 is treated as 1
abbrev pub received_bits : TpsDecoder → List ℕ
received_bits d = take (standing d) (map (min 1) d.bits)

abbrev pub bits_no : TpsDecoder → List ℕ → Option Refusal
bits_no d out = fill_no (standing d) out

-- what a call for the received bits answers, and what it leaves
abbrev pub bits_answer : TpsDecoder → List ℕ → Result ℕ Refusal
bits_answer d out = fill_answer (standing d) out

abbrev pub bits_leaves : TpsDecoder → List ℕ → List ℕ
bits_leaves d out = fill_leaves (standing d) (received_bits d) out

-- ---- the word

-- with fewer than 68 standing
abbrev pub word_no : TpsDecoder → Option Refusal
word_no d = first_of (ltb d.count SYMBOLS gives INCOMPLETE ∷ [])

-- the answer to a call for the word: that of unpacking the held bits, one above 1 treated as 1
abbrev pub WordsBy : Option Refusal → TpsDecoder → Unpacked → Type 0
WordsBy None d answer = Unpacks (map (min 1) d.bits) answer
WordsBy (Some refusal) d answer = number_of answer ≡ Some refusal

abbrev pub Words : TpsDecoder → Unpacked → Type 0
Words d answer = WordsBy (word_no d) d answer

-- the one answer that meets it
unfoldable pub word_answer : TpsDecoder → Unpacked
word_answer d = refused_or (word_no d) (unpack_answer (map (min 1) d.bits))
