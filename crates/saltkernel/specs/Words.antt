-- Document 01, 'TPS' and 'Refusal numbers', and document 02, E1, over the C interface; EN 300 744, 4.6.2, table 9: a
-- word whose constellation, rate and guard interval are codes, and the answer to unpacking as numbers, 0 for accepted;
-- a refused call has zeros for the word, and no mended bit.
use Rattle.std.specs.Prelude.{◌≡◌, Bool, true, false, List, [], ◌∷◌, ℕ, Option, Result, Ok, Err}
use Rattle.ground.specs.declared.Refusal.{Refusal}
use Rattle.ground.specs.Refusal.{OUTPUT_SHORT, RESERVED, ◌gives◌, first_of, code}
use Rattle.ground.specs.Answer.{counted, kept, written, short}
use Rattle.bch.specs.declared.Mended.{Mended}
use Rattle.bch.specs.Promise.{mended_at}
use Rattle.tps.specs.declared.inner.Codes.{Codes}
use Rattle.tps.specs.declared.word.TpsWord.{TpsWord}
use Rattle.tps.specs.Codes.{codes_of, word_of}
use Rattle.tps.specs.Word.{word_bits}
use Rattle.tps.specs.Packing.{Unpacked, number_of}
use Rattle.saltkernel.specs.Codes.{mended_by}
use Rattle.saltkernel.specs.declared.words.SaltTpsWord.{SaltTpsWord}
use Rattle.saltkernel.specs.declared.words.SaltUnpacked.{SaltUnpacked}

-- ---- codes

-- codes for C
abbrev pub codes_for : Codes → SaltTpsWord
codes_for k =
    record {
      frame_number = k.frame;
      constellation = k.constellation;
      code_rate_hp = k.rate;
      guard = k.guard;
      cell_id = k.cell;
    }

-- and the word that codes of C's say, reserved where one of them stands for nothing
abbrev pub word_in : SaltTpsWord → Result TpsWord Refusal
word_in c =
    word_of
    (record {
      frame = c.frame_number;
      constellation = c.constellation;
      rate = c.code_rate_hp;
      guard = c.guard;
      cell = c.cell_id;
    })

abbrev pub is_reserved : Result TpsWord Refusal → Bool
is_reserved (Ok w) = false
is_reserved (Err refusal) = true

-- ---- packing

-- a call that asks for so much room in the lent output, and whose codes may stand for nothing
abbrev pub codes_no : ℕ → Bool → List ℕ → Option Refusal
codes_no room nothing out = first_of (short room out gives OUTPUT_SHORT ∷ nothing gives RESERVED ∷ [])

abbrev pub pack_no : SaltTpsWord → List ℕ → Option Refusal
pack_no c out = codes_no 68 (is_reserved (word_in c)) out

abbrev pub pack_answer : SaltTpsWord → List ℕ → Result ℕ Refusal
pack_answer c out = counted (pack_no c out) 68

-- the bits of a word that codes say
abbrev pub bits_in : Result TpsWord Refusal → List ℕ
bits_in (Ok w) = word_bits w
bits_in (Err refusal) = []

abbrev pub pack_leaves : SaltTpsWord → List ℕ → List ℕ
pack_leaves c out = kept (pack_no c out) (written (bits_in (word_in c)) out) out

-- ---- unpacking

-- the codes and the mended bits for each case of an answer
abbrev pub unpacked_codes : Unpacked → SaltTpsWord
unpacked_codes (Ok u) = codes_for (codes_of u.word)
unpacked_codes (Err refusal) =
    record { frame_number = 0; constellation = 0; code_rate_hp = 0; guard = 0; cell_id = 0 }

abbrev pub unpacked_mended : Unpacked → Mended
unpacked_mended (Ok u) = u.mended
unpacked_mended (Err refusal) = mended_at []

-- and those of an answer of C's
abbrev pub mended_of : SaltUnpacked → Mended
mended_of r = mended_by r.mended r.first r.second

-- the number, the codes and the mended bits are what the answer says
pub record SaysUnpacked (r : SaltUnpacked) (a : Unpacked) : Type 0 where
  pub says_number : r.number ≡ code (number_of a)
  pub says_word : r.word ≡ unpacked_codes a
  pub says_mended : mended_of r ≡ unpacked_mended a

-- they say an answer that meets a promise
pub record SaysOneThat (meets : Unpacked → Type 0) (r : SaltUnpacked) : Type 0 where
  pub answer : Unpacked
  pub says : SaysUnpacked r answer
  pub kept_promise : meets answer
