-- Document 01, 'TPS'; EN 300 744, 4.6.2: the codes of a word's fields, and the word that codes say.
use Rattle.std.specs.Prelude.{ℕ, zero, suc, Result, Ok, Err}
use Rattle.ground.specs.declared.Refusal.{Refusal}
use Rattle.ground.specs.declared.Refusal.TheVariants.{Reserved}
use Rattle.ground.specs.declared.ConstellationOrder.{ConstellationOrder}
use Rattle.ground.specs.declared.ConstellationOrder.TheVariants.{Qpsk, Qam16, Qam64}
use Rattle.tps.specs.declared.word.PunctureRate.{PunctureRate}
use Rattle.tps.specs.declared.word.PunctureRate.TheVariants.{R1_2, R2_3, R3_4, R5_6, R7_8}
use Rattle.tps.specs.declared.word.GuardInterval.{GuardInterval}
use Rattle.tps.specs.declared.word.GuardInterval.TheVariants.{G1_32, G1_16, G1_8, G1_4}
use Rattle.tps.specs.declared.word.TpsWord.{TpsWord}
use Rattle.tps.specs.declared.inner.Codes.{Codes}

-- ---- 4.6.2.5: 0 QPSK, 1 16-QAM, 2 64-QAM; 3 is reserved

abbrev pub constellation_code : ConstellationOrder → ℕ
constellation_code Qpsk = 0
constellation_code Qam16 = 1
constellation_code Qam64 = 2

abbrev pub constellation_of : ℕ → Result ConstellationOrder Refusal
constellation_of zero = Ok Qpsk
constellation_of (suc zero) = Ok Qam16
constellation_of (suc (suc zero)) = Ok Qam64
constellation_of (suc (suc (suc n))) = Err Reserved

-- ---- 4.6.2.7: 0..4 for 1/2, 2/3, 3/4, 5/6, 7/8; 5, 6 and 7 are reserved

abbrev pub rate_code : PunctureRate → ℕ
rate_code R1_2 = 0
rate_code R2_3 = 1
rate_code R3_4 = 2
rate_code R5_6 = 3
rate_code R7_8 = 4

abbrev pub rate_of : ℕ → Result PunctureRate Refusal
rate_of zero = Ok R1_2
rate_of (suc zero) = Ok R2_3
rate_of (suc (suc zero)) = Ok R3_4
rate_of (suc (suc (suc zero))) = Ok R5_6
rate_of (suc (suc (suc (suc zero)))) = Ok R7_8
rate_of (suc (suc (suc (suc (suc n))))) = Err Reserved

-- ---- 4.6.2.8: 0..3 for 1/32, 1/16, 1/8, 1/4; two bits say no more

abbrev pub guard_code : GuardInterval → ℕ
guard_code G1_32 = 0
guard_code G1_16 = 1
guard_code G1_8 = 2
guard_code G1_4 = 3

abbrev pub guard_of : ℕ → Result GuardInterval Refusal
guard_of zero = Ok G1_32
guard_of (suc zero) = Ok G1_16
guard_of (suc (suc zero)) = Ok G1_8
guard_of (suc (suc (suc zero))) = Ok G1_4
guard_of (suc (suc (suc (suc n)))) = Err Reserved

-- ---- a word and its codes

abbrev pub codes_of : TpsWord → Codes
codes_of w =
    record {
      frame = w.frame_number;
      constellation = constellation_code w.constellation;
      rate = rate_code w.code_rate_hp;
      guard = guard_code w.guard;
      cell = w.cell_id;
    }

-- the word that codes say with what three of them stand for, reserved where one of these stands for nothing
abbrev pub word_by : Codes → Result ConstellationOrder Refusal → Result PunctureRate Refusal
    → Result GuardInterval Refusal → Result TpsWord Refusal
word_by k (Ok c) (Ok r) (Ok g) =
    Ok (record { frame_number = k.frame; constellation = c; code_rate_hp = r; guard = g; cell_id = k.cell })
word_by k (Ok c) (Ok r) (Err reserved) = Err reserved
word_by k (Ok c) (Err reserved) g = Err reserved
word_by k (Err reserved) r g = Err reserved

-- the word that codes say, or that they are reserved
abbrev pub word_of : Codes → Result TpsWord Refusal
word_of k = word_by k (constellation_of k.constellation) (rate_of k.rate) (guard_of k.guard)
