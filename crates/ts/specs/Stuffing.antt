-- Document 01, 'Transport packets': the null packet, and stuffing.
use Rattle.std.specs.Prelude.{not, List, [], ◌∷◌, ◌++◌, ℕ, ◌-◌, ◌*◌, ◌/◌, ◌%◌, max, eqb, take, drop, replicate}
use Rattle.std.specs.Prelude.{Option, Result}
use Rattle.ground.specs.Answer.{counted, kept, short}
use Rattle.ground.specs.Chunks.{chunks}
use Rattle.ground.specs.Refusal.{LENGTH, OUTPUT_SHORT, ◌gives◌, first_of}
use Rattle.ground.specs.declared.Refusal.{Refusal}

-- the null packet: 47 1F FF 10, then 184 bytes FF
abbrev pub null : List ℕ
null = 0x47 ∷ 0x1F ∷ 0xFF ∷ 0x10 ∷ replicate 184 0xFF

-- n null packets
abbrev pub nulls : ℕ → List ℕ
nulls n = chunks (λ (i : ℕ) (p : List ℕ). null) 188 n 0 []

-- the bytes in use, null packets up to the target, and what stood behind them
abbrev pub stuffed : ℕ → ℕ → List ℕ → List ℕ
stuffed used target ts = take used ts ++ nulls (target - used / 188) ++ drop (max used (188 * target)) ts

-- ---- stuffing a buffer of which used bytes are in use, up to a target in packets: its number, the bytes then in use,
-- and the buffer
abbrev pub stuff_no : ℕ → ℕ → List ℕ → Option Refusal
stuff_no used target ts =
    first_of
    (short used ts gives LENGTH
    ∷ not (eqb (used % 188) 0) gives LENGTH
    ∷ short (188 * target) ts gives OUTPUT_SHORT
    ∷ [])

abbrev pub stuff_answer : ℕ → ℕ → List ℕ → Result ℕ Refusal
stuff_answer used target ts = counted (stuff_no used target ts) (max used (188 * target))

abbrev pub stuff_leaves : ℕ → ℕ → List ℕ → List ℕ
stuff_leaves used target ts = kept (stuff_no used target ts) (stuffed used target ts) ts
