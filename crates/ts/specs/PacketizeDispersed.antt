-- Document 02, 'E5: Packetize and whiten as one call': payload in, whitened packets out, equal to the two steps in
-- turn.
use Rattle.std.specs.Prelude.{List, ℕ, Option, Result}
use Rattle.ground.specs.Answer.{fill_no, fill_answer, fill_leaves}
use Rattle.ground.specs.declared.Refusal.{Refusal}
use Rattle.ts.specs.Packets.{packetized, bytes_for}
use Rattle.ts.specs.Dispersal.{dispersed}

-- ---- a payload's packets, whitened, into a lent output: its number, the bytes written, and the output
abbrev pub packetize_dispersed_no : List ℕ → List ℕ → Option Refusal
packetize_dispersed_no payload out = fill_no (bytes_for payload) out

abbrev pub packetize_dispersed_answer : List ℕ → List ℕ → Result ℕ Refusal
packetize_dispersed_answer payload out = fill_answer (bytes_for payload) out

abbrev pub packetize_dispersed_leaves : List ℕ → List ℕ → List ℕ
packetize_dispersed_leaves payload out = fill_leaves (bytes_for payload) (dispersed (packetized payload)) out
