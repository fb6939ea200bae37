-- Document 02, E3: the rule, over the words handed to a new desk, those that it refused among them, and without the
-- desk. Lists of words are newest first.
use Rattle.std.specs.Prelude.{◌≡◌, List, [], ◌∷◌, ℕ, zero, suc, ◌+◌, ◌*◌}
use Rattle.tps.specs.declared.word.TpsWord.{TpsWord}
use Rattle.desk.specs.declared.Desk.{Desk}
use Rattle.desk.specs.declared.SuperFrame.{SuperFrame}
use Rattle.desk.specs.Desk.{Answer, parameters_of, fresh, started, gone_on, take_answer}

-- the same parameters: constellation, rate and guard (`same-parameters` says that they are these)
abbrev pub Same : TpsWord → TpsWord → Type 0
Same v w = parameters_of v ≡ parameters_of w

-- ---- the words of a super-frame

pub record First (a : TpsWord) : Type 0 where
  pub number : a.frame_number ≡ 0

pub record Second (a b : TpsWord) : Type 0 where
  pub begun : First a
  pub number : b.frame_number ≡ 1
  pub same : Same a b

pub record Third (a b c : TpsWord) : Type 0 where
  pub begun : Second a b
  pub number : c.frame_number ≡ 2
  pub same : Same a c
  pub high : a.cell_id ≡ c.cell_id

pub record Whole (a b c d : TpsWord) : Type 0 where
  pub begun : Third a b c
  pub number : d.frame_number ≡ 3
  pub same : Same a d
  pub low : b.cell_id ≡ d.cell_id

-- what they say
abbrev pub super_frame_of : TpsWord → TpsWord → SuperFrame
super_frame_of a b =
    record {
      cell_id = a.cell_id * 256 + b.cell_id;
      constellation = a.constellation;
      code_rate_hp = a.code_rate_hp;
      guard = a.guard;
    }

-- ---- the last words of a list

-- the last word is the first of a super-frame
abbrev pub LastOne : List TpsWord → Type 0
LastOne [] = ⊥
LastOne (a ∷ ws) = First a

-- the last two are its first two
abbrev pub LastTwo : List TpsWord → Type 0
LastTwo [] = ⊥
LastTwo (b ∷ []) = ⊥
LastTwo (b ∷ a ∷ ws) = Second a b

-- the last three are its first three
abbrev pub LastThree : List TpsWord → Type 0
LastThree [] = ⊥
LastThree (c ∷ []) = ⊥
LastThree (c ∷ b ∷ []) = ⊥
LastThree (c ∷ b ∷ a ∷ ws) = Third a b c

-- the last four are a super-frame
abbrev pub LastFour : List TpsWord → Type 0
LastFour [] = ⊥
LastFour (d ∷ []) = ⊥
LastFour (d ∷ c ∷ []) = ⊥
LastFour (d ∷ c ∷ b ∷ []) = ⊥
LastFour (d ∷ c ∷ b ∷ a ∷ ws) = Whole a b c d

-- they are a super-frame, and say this
abbrev pub Completes : List TpsWord → SuperFrame → Type 0
Completes [] s = ⊥
Completes (d ∷ []) s = ⊥
Completes (d ∷ c ∷ []) s = ⊥
Completes (d ∷ c ∷ b ∷ []) s = ⊥
Completes (d ∷ c ∷ b ∷ a ∷ ws) s = Whole a b c d × (s ≡ super_frame_of a b)

-- the last n are the first n of a super-frame
abbrev pub Last : ℕ → List TpsWord → Type 0
Last zero ws = Unit {0}
Last (suc zero) ws = LastOne ws
Last (suc (suc zero)) ws = LastTwo ws
Last (suc (suc (suc zero))) ws = LastThree ws
Last (suc (suc (suc (suc zero)))) ws = LastFour ws
Last (suc (suc (suc (suc (suc n))))) ws = ⊥

-- n words of a super-frame stand at the end of a list, fewer than four; 0 where neither one nor two nor three do
abbrev pub Gathers : ℕ → List TpsWord → Type 0
Gathers zero ws = (LastOne ws → ⊥) × (LastTwo ws → ⊥) × (LastThree ws → ⊥)
Gathers (suc zero) ws = LastOne ws
Gathers (suc (suc zero)) ws = LastTwo ws
Gathers (suc (suc (suc zero))) ws = LastThree ws
Gathers (suc (suc (suc (suc n)))) ws = ⊥

-- ---- the desk

-- after words handed to a new one
abbrev pub desk_after : List TpsWord → Desk
desk_after [] = fresh
desk_after (w ∷ ws) = (take_answer (desk_after ws) w).desk

-- what it answers to a word behind them
abbrev pub answer_at : List TpsWord → TpsWord → Answer
answer_at ws w = (take_answer (desk_after ws) w).answer

-- what it holds: nothing, or the words of a super-frame at the list's end
pub data Holds : List TpsWord → Desk → Type 0 where
  nothing : {ws : List TpsWord} → Gathers 0 ws → Holds ws fresh
  one : {ws : List TpsWord} {a : TpsWord} → First a → Holds (a ∷ ws) (started a)
  two : {ws : List TpsWord} {a b : TpsWord} → Second a b → Holds (b ∷ a ∷ ws) (gone_on 1 (started a) b)
  three : {ws : List TpsWord} {a b c : TpsWord} → Third a b c
      → Holds (c ∷ b ∷ a ∷ ws) (gone_on 2 (gone_on 1 (started a) b) c)
