-- Over the calls: the bytes answered are the length of what is written, and what was sent is whitened again and taken
-- apart to the payload. Assumes nothing.
use Prim.Native.Nat.{ℕ, ◌+◌, ◌-◌, ◌*◌, ◌/◌, ◌%◌, ◌≤◌, max}
use native.Mathlib.Omega.{arith}
use mathlib.Core.Path.{◌≡◌, sym, ap, ◌∙◌, subst}
use mathlib.Core.List.{List, [], ◌++◌}
use lib.ListN.{length, take, drop, length-take, length-append, replicate}
use Rattle.ground.specs.Answer.{count_of, kept}
use Rattle.ground.specs.Refusal.{ACCEPTED}
use Rattle.ground.proofs.Answers.{answered}
use Rattle.ground.proofs.Chunks.{chunks-length}
use Rattle.ts.specs.Packets.{count, packetized, bytes_for, payloads, depacketize_no, depacketize_answer, depacketize_leaves}
use Rattle.ts.specs.Stuffing.{null, nulls, stuff_no, stuff_answer, stuff_leaves}
use Rattle.ts.specs.Dispersal.{dispersed, disperse_no, disperse_leaves}
use Rattle.ts.specs.PacketizeDispersed.{packetize_dispersed_no, packetize_dispersed_answer, packetize_dispersed_leaves}
use Rattle.ts.proofs.Numbers.{depacketize_accepted, disperse_accepted, stuff_taken}
use Rattle.ts.proofs.Packets.{packetized-length, payloads_each, taken_apart_is_payload}
use Rattle.ts.proofs.WhitenedPackets.{whitened-length, whitened-again}
use Rattle.ts.proofs.Stuffing.{nulls_each}

pub packetize_dispersed_answers_length : (payload out : List ℕ) → packetize_dispersed_no payload out ≡ ACCEPTED
    → (count_of (packetize_dispersed_answer payload out) ≡ length (dispersed (packetized payload)))
    × (take (count_of (packetize_dispersed_answer payload out)) (packetize_dispersed_leaves payload out) ≡ dispersed (packetized payload))
packetize_dispersed_answers_length payload out a =
    answered (packetize_dispersed_no payload out) (bytes_for payload) (dispersed (packetized payload)) out a (whitened-length payload)

pub depacketize_answers_length : (packets out : List ℕ) → depacketize_no packets out ≡ ACCEPTED
    → (count_of (depacketize_answer packets out) ≡ length (payloads packets))
    × (take (count_of (depacketize_answer packets out)) (depacketize_leaves packets out) ≡ payloads packets)
depacketize_answers_length packets out a =
    let n : ℕ = length packets / 188 in
    answered (depacketize_no packets out) (187 * n) (payloads packets) out a
    (chunks-length (λ (i : ℕ) (p : List ℕ). drop 1 p) 188 187 n 0 packets (payloads_each n packets (omega arith)))

-- stuffing: the bytes then in use are those that were, and the null packets
pub stuff_answers_length : (used target : ℕ) (ts : List ℕ) → stuff_no used target ts ≡ ACCEPTED
    → (count_of (stuff_answer used target ts) ≡ length (take used ts ++ nulls (target - used / 188)))
    × (take (count_of (stuff_answer used target ts)) (stuff_leaves used target ts) ≡ take used ts ++ nulls (target - used / 188))
stuff_answers_length used target ts a =
    let n : ℕ = target - used / 188 in
    let g = stuff_taken used target ts a in
    let inside : used ≤ length ts = g.0 in
    let whole : used % 188 ≡ 0 = g.1 in
    let ln : length (nulls n) ≡ 188 * n = chunks-length (λ (i : ℕ) (p : List ℕ). null) 188 188 n 0 [] (nulls_each n) in
    let l : length (take used ts ++ nulls n) ≡ max used (188 * target) = length-append (take used ts) (nulls n) ∙ ap (λ (k : ℕ). length (take used ts) + k) ln ∙ simp length-take (omega arith) in
    let e : drop (max used (188 * target)) ts ≡ drop (length (take used ts ++ nulls n)) ts = ap (λ (k : ℕ). drop k ts) (sym l) in
    subst (λ (rest : List ℕ). (count_of (stuff_answer used target ts) ≡ length (take used ts ++ nulls n)) × (take (count_of (stuff_answer used target ts)) (kept (stuff_no used target ts) (take used ts ++ nulls n ++ rest) ts) ≡ take used ts ++ nulls n))
    (sym e) (answered (stuff_no used target ts) (max used (188 * target)) (take used ts ++ nulls n) ts a l)

-- what `ts_packetize_dispersed` wrote, whitened again by `ts_energy_disperse` and handed to `ts_depacketize` with room,
-- is accepted by both, and gives the payload, then zeros to the end of the last packet
pub calls_give_payload : (payload out out' : List ℕ) → packetize_dispersed_no payload out ≡ ACCEPTED → 187 * count (length payload) ≤ length out'
    → let sent = take (count_of (packetize_dispersed_answer payload out)) (packetize_dispersed_leaves payload out) in
    let packets = disperse_leaves sent in
    (disperse_no sent ≡ ACCEPTED)
    × (depacketize_no packets out' ≡ ACCEPTED)
    × (take (count_of (depacketize_answer packets out')) (depacketize_leaves packets out') ≡ payload ++ replicate (187 * count (length payload) - length payload) 0)
calls_give_payload payload out out' a room =
    let l = packetized-length payload in
    let w = whitened-length payload in
    let b : depacketize_no (packetized payload) out' ≡ ACCEPTED = depacketize_accepted (packetized payload) out' (λ z. absurd (omega (arith, l, z))) (omega (arith, l)) (omega (arith, l)) in
    let d : disperse_no (dispersed (packetized payload)) ≡ ACCEPTED = disperse_accepted (dispersed (packetized payload)) (omega (arith, w)) in
    let e = (packetize_dispersed_answers_length payload out a).1 in
    let back = ap disperse_leaves e ∙ whitened-again payload in (
      ap disperse_no e ∙ d,
      ap (λ (p : List ℕ). depacketize_no p out') back ∙ b,
      ap (λ (p : List ℕ). take (count_of (depacketize_answer p out')) (depacketize_leaves p out')) back ∙ (depacketize_answers_length (packetized payload) out' b).1 ∙ taken_apart_is_payload payload,
    )
