-- Document 01, 'Energy dispersal' (EN 300 744, 4.3.1), over transport packets in groups of eight.
use Rattle.std.specs.Prelude.{not, cond, List, [], ◌∷◌, ℕ, zero, suc, ◌*◌, ◌/◌, ◌%◌, eqb, length, Option, Result}
use Rattle.std.specs.Int.Bits.{bit_xor}
use Rattle.ground.specs.Answer.{counted, kept}
use Rattle.ground.specs.Chunks.{chunks}
use Rattle.ground.specs.Refusal.{LENGTH, ◌gives◌, first_of}
use Rattle.ground.specs.declared.Refusal.{Refusal}
use Rattle.dispersal.specs.Register.{start, steps, whitened}

-- the register behind the first byte of packet i: it restarts at the first of a group of eight, and in the seven
-- others it moves eight steps over that byte, from where it stood behind the 187 bytes whitened before
unfoldable pub register_at : ℕ → ℕ
register_at zero = start
register_at (suc i) = cond (eqb (suc i % 8) 0) start (steps 8 (steps (8 * 187) (register_at i)))

-- the first byte of packet i: XORed with 0xFF at the first of a group of eight, unchanged in the seven others
unfoldable pub sync : ℕ → ℕ → ℕ
sync i b = cond (eqb (i % 8) 0) (bit_xor b 0xFF) b

-- packet i: the first byte, then the rest whitened
unfoldable pub dispersed_packet : ℕ → List ℕ → List ℕ
dispersed_packet i [] = []
dispersed_packet i (b ∷ bs) = sync i b ∷ whitened (register_at i) bs

-- the packets of a buffer
abbrev pub dispersed : List ℕ → List ℕ
dispersed packets = chunks dispersed_packet 188 (length packets / 188) 0 packets

-- ---- dispersing the packets of a buffer: its number, how many they are, and the buffer
abbrev pub disperse_no : List ℕ → Option Refusal
disperse_no packets = first_of (not (eqb (length packets % 188) 0) gives LENGTH ∷ [])

abbrev pub disperse_answer : List ℕ → Result ℕ Refusal
disperse_answer packets = counted (disperse_no packets) (length packets / 188)

abbrev pub disperse_leaves : List ℕ → List ℕ
disperse_leaves packets = kept (disperse_no packets) (dispersed packets) packets
