-- Document 01, 'Transport packets': a packet is 188 bytes, 0x47 and then 187 of payload.
use Rattle.std.specs.Prelude.{List, [], ◌∷◌, ◌++◌, ℕ, ◌+◌, ◌-◌, ◌*◌, ◌/◌, ◌%◌}
use Rattle.std.specs.Prelude.{not, max, eqb, length, Option, Result}
use Rattle.std.specs.Prelude.{drop, replicate}
use Rattle.ground.specs.Answer.{counted, kept, written, short, fill_no}
use Rattle.ground.specs.Chunks.{chunks}
use Rattle.ground.specs.Refusal.{LENGTH, OUTPUT_SHORT, ◌gives◌, first_of}
use Rattle.ground.specs.declared.Refusal.{Refusal}

-- how many packets n bytes of payload give: max(1, ceil(n / 187))
abbrev pub count : ℕ → ℕ
count n = max 1 ((n + 186) / 187)

-- at most 187 bytes of payload, filled with zeros
unfoldable pub padded : List ℕ → List ℕ
padded c = c ++ replicate (187 - length c) 0

-- a packet: 0x47, then the payload
unfoldable pub packet : List ℕ → List ℕ
packet c = 0x47 ∷ padded c

-- every 187 bytes of the payload become a packet, and so does what is left
abbrev pub packetized : List ℕ → List ℕ
packetized payload = chunks (λ (i : ℕ) (c : List ℕ). packet c) 187 (count (length payload)) 0 payload

-- the bytes that a payload's packets have
abbrev pub bytes_for : List ℕ → ℕ
bytes_for payload = 188 * count (length payload)

-- ---- packetizing a payload into a lent output: its number, the bytes written, and the output. No call is this alone:
-- it is the first of the two steps that one call takes (document 02, E5)
abbrev pub packetize_no : List ℕ → List ℕ → Option Refusal
packetize_no payload out = fill_no (bytes_for payload) out

abbrev pub packetize_answer : List ℕ → List ℕ → Result ℕ Refusal
packetize_answer payload out = counted (packetize_no payload out) (bytes_for payload)

abbrev pub packetize_leaves : List ℕ → List ℕ → List ℕ
packetize_leaves payload out = kept (packetize_no payload out) (written (packetized payload) out) out

-- taking apart drops the first byte of each packet
abbrev pub payloads : List ℕ → List ℕ
payloads packets = chunks (λ (i : ℕ) (p : List ℕ). drop 1 p) 188 (length packets / 188) 0 packets

-- ---- taking packets apart into a lent output: its number, the bytes written, and the output
abbrev pub depacketize_no : List ℕ → List ℕ → Option Refusal
depacketize_no packets out =
    first_of
    (eqb (length packets) 0 gives LENGTH
    ∷ not (eqb (length packets % 188) 0) gives LENGTH
    ∷ short (187 * (length packets / 188)) out gives OUTPUT_SHORT
    ∷ [])

abbrev pub depacketize_answer : List ℕ → List ℕ → Result ℕ Refusal
depacketize_answer packets out = counted (depacketize_no packets out) (187 * (length packets / 188))

abbrev pub depacketize_leaves : List ℕ → List ℕ → List ℕ
depacketize_leaves packets out = kept (depacketize_no packets out) (written (payloads packets) out) out
