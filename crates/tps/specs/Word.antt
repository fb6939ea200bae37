-- Document 01, 'TPS'; EN 300 744, 4.6.2, table 9: the fields of a word, and its 68 bits s0..s67.
use Rattle.std.specs.Prelude.{cond, List, [], ◌∷◌, ◌++◌, ℕ, suc, ◌-◌, ◌%◌, eqb, take, drop}
use Rattle.ground.specs.Digits.{digits_of, value_of}
use Rattle.bch.specs.Code.{encode}
use Rattle.tps.specs.declared.word.TpsWord.{TpsWord}
use Rattle.tps.specs.declared.inner.Codes.{Codes}
use Rattle.tps.specs.Codes.{codes_of}

-- the symbols of a frame, and the bits of its word: one each
abbrev pub SYMBOLS : ℕ
SYMBOLS = 68

-- 4.6.2.2: 0x35EE for an even frame number, 0xCA11 for odd
abbrev pub sync_of : ℕ → ℕ
sync_of frame = cond (eqb (frame % 2) 0) 0x35EE 0xCA11

-- a field: how many bits it has, and the number that they say, high bit first
pub record Field : Type 0 where
  pub width : ℕ
  pub value : ℕ

abbrev pub bits_of : List Field → List ℕ
bits_of [] = []
bits_of (f ∷ fs) = digits_of f.width f.value ++ bits_of fs

-- table 9, s1..s53
abbrev pub fields_of : Codes → List Field
fields_of k =
    -- s1..s16: the synchronization word
    record { width = 16; value = sync_of k.frame }
    -- s17..s22: the length
    ∷ record { width = 6; value = 31 }
    -- s23, s24: the frame number's low two bits
    ∷ record { width = 2; value = k.frame % 4 }
    -- s25, s26: the constellation
    ∷ record { width = 2; value = k.constellation }
    -- s27..s29: no hierarchy
    ∷ record { width = 3; value = 0 }
    -- s30..s32: the rate
    ∷ record { width = 3; value = k.rate }
    -- s33..s35: no second rate without a hierarchy
    ∷ record { width = 3; value = 0 }
    -- s36, s37: the guard interval
    ∷ record { width = 2; value = k.guard }
    -- s38, s39: the mode, 2K
    ∷ record { width = 2; value = 0 }
    -- s40..s47: the cell id
    ∷ record { width = 8; value = k.cell }
    -- s48..s53
    ∷ record { width = 6; value = 0 }
    ∷ []

abbrev pub information_of : TpsWord → List ℕ
information_of w = bits_of (fields_of (codes_of w))

-- s0..s67: a zero bit, and the codeword
abbrev pub word_bits : TpsWord → List ℕ
word_bits w = 0 ∷ encode (information_of w)

-- the number that s_first..s_last say, of the bits s1, s2, ..
abbrev pub said : ℕ → ℕ → List ℕ → ℕ
said first last s = value_of 0 (take (suc last - first) (drop (first - 1) s))

-- the codes that the information s1..s53 says; sync, length, hierarchy, second rate, mode and the last six bits are
-- ignored
abbrev pub codes_in : List ℕ → Codes
codes_in s =
    record {
      frame = said 23 24 s;
      constellation = said 25 26 s;
      rate = said 30 32 s;
      guard = said 36 37 s;
      cell = said 40 47 s;
    }

-- the word as it comes back from its bits: the frame number modulo 4
abbrev pub modulo4 : TpsWord → TpsWord
modulo4 w =
    record {
      frame_number = w.frame_number % 4;
      constellation = w.constellation;
      code_rate_hp = w.code_rate_hp;
      guard = w.guard;
      cell_id = w.cell_id;
    }
