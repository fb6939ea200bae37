-- A payload's packets made and whitened one by one are the packets made and then dispersed, as the two steps in turn
-- leave them; whitened again they are the clear packets, which no payload's are before. Assumes nothing.
use Prim.Native.Nat.{ℕ, suc, ◌+◌, ◌-◌, ◌*◌, ◌/◌, ◌<◌, min}
use native.Mathlib.Omega.{arith}
use mathlib.Core.Path.{◌≡◌, refl, sym, ap, ap₂, ◌∙◌}
use mathlib.Core.Bool.{Bool, true, false}
use mathlib.Core.List.{List, ◌++◌}
use lib.ListN.{length, get_or, take, drop, length-drop}
use lib.Seq.{take_at, drop_at}
use borrow.Rule.Slice.PartMut.{put_mid}
use Rattle.ground.specs.Answer.{count_of, kept, written, short}
use Rattle.std.specs.Prelude.{Option}
use Rattle.std.proofs.lemmas.List.{take_min}
use Rattle.ground.specs.declared.Refusal.{Refusal}
use Rattle.ground.specs.Chunks.{chunks}
use Rattle.ground.specs.Refusal.{ACCEPTED}
use Rattle.ground.proofs.Chunks.{Each, chunks-length, chunks-next, chunks-chunks}
use Rattle.ground.proofs.Front.{front, front-full}
use Rattle.ts.specs.Packets.{count, packet, packetized, bytes_for, packetize_answer, packetize_leaves}
use Rattle.ts.specs.Dispersal.{sync, dispersed_packet, dispersed, disperse_no, disperse_leaves}
use Rattle.ts.specs.PacketizeDispersed.{packetize_dispersed_answer, packetize_dispersed_leaves}
use Rattle.ts.proofs.Numbers.{disperse_accepted}
use Rattle.ts.proofs.Packets.{packets_each, packetized-length}
use Rattle.ts.proofs.Dispersal.{dispersed-length, dispersed_twice_is_same}

-- part i of a payload as packet i, whitened
abbrev pub whitened_packet : ℕ → List ℕ → List ℕ
whitened_packet i c = dispersed_packet i (packet c)

pub whitened_each : (n : ℕ) (s : List ℕ) → Each whitened_packet 187 188 n 0 s
whitened_each n s j l = dispersed-length (0 + j) (packet (take 187 (drop (187 * j) s))) ∙ packets_each n s j l

-- in one pass and in two
pub one_pass_is_two : (s : List ℕ) → chunks whitened_packet 187 (count (length s)) 0 s ≡ dispersed (packetized s)
one_pass_is_two s =
    let n : ℕ = count (length s) in
    let e : length (packetized s) / 188 ≡ n = omega (arith, packetized-length s) in
    sym (ap (λ (k : ℕ). chunks dispersed_packet 188 k 0 (packetized s)) e
    ∙ chunks-chunks (λ (i : ℕ) (c : List ℕ). packet c) 187 188 dispersed_packet n 0 s (packets_each n s))

pub whitened-length : (s : List ℕ) → length (dispersed (packetized s)) ≡ 188 * count (length s)
whitened-length s = ap length (sym (one_pass_is_two s)) ∙ chunks-length whitened_packet 187 188 (count (length s)) 0 s (whitened_each (count (length s)) s)

-- ---- the loop that makes them

module _ (s o : List ℕ) where
  abbrev wanted : List ℕ
  wanted = chunks whitened_packet 187 (count (length s)) 0 s

  -- one packet more, whose part of the payload was lent up to its end or the payload's
  pub packet-next : (i k m : ℕ) (out t : List ℕ) → i < count (length s) → k ≡ 188 → m ≡ min (length s) (187 * i + 187)
      → out ≡ front wanted (188 * i) o → t ≡ whitened_packet i (take (m - 187 * i) (drop (187 * i) s)) → put_mid (188 * i) k out t ≡ front wanted (188 * (i + 1)) o
  packet-next i k m out t h ek em e et =
      let rest : List ℕ = drop (187 * i) s in
      let n : m - 187 * i ≡ min 187 (length rest) = simp length-drop (omega arith) in
      chunks-next whitened_packet 187 188 (count (length s)) i k s o out t (whitened_each (count (length s)) s) h ek e
      (et ∙ ap (whitened_packet i) (ap (λ (x : ℕ). take x rest) n ∙ take_min 187 rest))

  pub packets_end : (n : ℕ) (out : List ℕ) → n ≡ 188 * count (length s) → length o ≡ 188 * count (length s) → out ≡ front wanted n o
      → out ≡ dispersed (packetized s)
  packets_end n out en l e =
      let w : length wanted ≡ 188 * count (length s) = ap length (one_pass_is_two s) ∙ whitened-length s in
      front-full wanted o out n (omega arith) (omega arith) e ∙ one_pass_is_two s

-- ---- the two steps in turn

-- the first step's packets, dispersed by the second, which takes them
pub second_step_takes : (s : List ℕ) → disperse_no (packetized s) ≡ ACCEPTED
second_step_takes s = disperse_accepted (packetized s) (omega (arith, packetized-length s))

pub second-step-leaves : (s : List ℕ) → disperse_leaves (packetized s) ≡ dispersed (packetized s)
second-step-leaves s = ap (λ (number : Option Refusal). kept number (dispersed (packetized s)) (packetized s)) (second_step_takes s)

pub whitened-again : (s : List ℕ) → disperse_leaves (dispersed (packetized s)) ≡ packetized s
whitened-again s = ap disperse_leaves (sym (second-step-leaves s)) ∙ dispersed_twice_is_same (packetized s)

-- the second step on the bytes that the first one answered, over the two calls as they were
abbrev InTurn : List ℕ → List ℕ → Type 0
InTurn payload out =
    let n = count_of (packetize_answer payload out) in
    let packets = packetize_leaves payload out in
    (packetize_dispersed_answer payload out ≡ packetize_answer payload out)
    × (disperse_no (take n packets) ≡ ACCEPTED)
    × (packetize_dispersed_leaves payload out ≡ disperse_leaves (take n packets) ++ drop n packets)

in_turn_by_room : (payload out : List ℕ) (t : Bool) → short (bytes_for payload) out ≡ t → InTurn payload out
unfolding chunks
in_turn_by_room payload out true e = rw e (refl, refl, refl)
in_turn_by_room payload out false e =
    let n : ℕ = bytes_for payload in
    let p : List ℕ = packetized payload in
    let l : length p ≡ n = packetized-length payload in
    let first : take n (written p out) ≡ p = take_at p (drop (length p) out) n l in
    let behind : drop n (written p out) ≡ drop n out = drop_at p (drop (length p) out) n l ∙ ap (λ (k : ℕ). drop k out) l in
    rw e (
      refl,
      ap disperse_no first ∙ second_step_takes payload,
      ap₂ (λ (x y : List ℕ). x ++ y) (sym (ap disperse_leaves first ∙ second-step-leaves payload)) (ap (λ (k : ℕ). drop k out) (whitened-length payload) ∙ sym behind),
    )

-- the one call is the two steps in turn, for every payload and every output, answers and bytes
pub two_steps_in_turn : (payload out : List ℕ) → InTurn payload out
two_steps_in_turn payload out = in_turn_by_room payload out (short (bytes_for payload) out) refl

-- no payload is sent clear: the first byte of what is sent is B8 and not 47
pub first_byte_flipped : (s : List ℕ) → get_or (dispersed (packetized s)) 0 0 ≡ 0xB8
unfolding chunks dispersed_packet sync packet
first_byte_flipped s =
    let k : ℕ = count (length s) - 1 in
    let e : count (length s) ≡ suc k = omega arith in
    ap (λ (x : List ℕ). get_or x 0 0) (sym (one_pass_is_two s) ∙ ap (λ (n : ℕ). chunks whitened_packet 187 n 0 s) e)
