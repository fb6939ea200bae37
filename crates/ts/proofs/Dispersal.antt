-- The register that each packet of a group is whitened from, a packet dispersed with the outputs of a group, and
-- dispersing twice, which is the identity. Assumes nothing.
use Prim.Native.Nat.{ℕ, zero, suc, ◌+◌, ◌*◌, ◌%◌, ◌≤◌, ◌/◌}
use native.Mathlib.Omega.{arith}
use mathlib.Core.Path.{◌≡◌, refl, sym, ap, ap₂, ◌∙◌}
use mathlib.Core.Bool.{Bool, true, false, cond}
use mathlib.Core.List.{List, [], ◌∷◌, ◌++◌, append-nil}
use lib.Bits.{bit_xor}
use lib.Dec.{eqb}
use lib.ListN.{length, get_or, set, take, drop, length-take, length-drop, drop_of_length-le}
use lib.Seq.{take_all, drop_at, length-take-le}
use borrow.Author.Tests.{eqb-true, eqb-false}
use borrow.Rule.Slice.PartMut.{mid_of, put_mid}
use Rattle.ground.specs.Answer.{kept}
use Rattle.std.specs.Prelude.{Option}
use Rattle.ground.specs.declared.Refusal.{Refusal}
use Rattle.ground.specs.Chunks.{chunks}
use Rattle.ground.proofs.Chunks.{Each, chunks-length, chunks-chunks, chunks-agree, chunks-same}
use Rattle.ground.proofs.Front.{front}
use Rattle.ground.proofs.Xor.{xor-again}
use Rattle.dispersal.specs.Register.{start, steps, whitened}
use Rattle.dispersal.specs.Inner.{stream, xored}
use Rattle.dispersal.proofs.Register.{steps_add}
use Rattle.dispersal.proofs.Streams.{stream-part}
use Rattle.dispersal.proofs.Whitening.{xored_is_whitened, whitened-length, whitened-twice}
use Rattle.ts.specs.Dispersal.{register_at, sync, dispersed_packet, dispersed, disperse_leaves}
use Rattle.ts.proofs.Numbers.{disperse_length_exactly, disperse_accepted}

-- packet i is whitened from the start moved on by the 188 bytes of each packet of its group before it
register-at-by : (i : ℕ) (t : Bool) → eqb (suc i % 8) 0 ≡ t → register_at i ≡ steps (8 * (188 * (i % 8))) start
    → cond t start (steps 8 (steps (8 * 187) (register_at i))) ≡ steps (8 * (188 * (suc i % 8))) start
unfolding steps
register-at-by i true e h = ap (λ (x : ℕ). steps (8 * (188 * x)) start) (sym (eqb-true (suc i % 8) 0 e))
register-at-by i false e h =
    let k : ℕ = 8 * (188 * (i % 8)) in
    let n : suc i % 8 ≡ 0 → ⊥ = eqb-false (suc i % 8) 0 e in
    let m : suc i % 8 ≡ i % 8 + 1 = omega arith in
    let x : k + 1496 + 8 ≡ 8 * (188 * (suc i % 8)) = omega arith in
    ap (λ (r : ℕ). steps 8 (steps 1496 r)) h
    ∙ ap (steps 8) (steps_add 1496 k start) ∙ steps_add 8 (k + 1496) start ∙ ap (λ (y : ℕ). steps y start) x

pub register_at_is_steps : (i : ℕ) → register_at i ≡ steps (8 * (188 * (i % 8))) start
unfolding register_at steps
register_at_is_steps zero = refl
register_at_is_steps (suc i) = register-at-by i (eqb (suc i % 8) 0) refl (register_at_is_steps i)

-- so a packet's place in its group decides
pub place_decides : (i : ℕ) (p : List ℕ) → dispersed_packet (i % 8) p ≡ dispersed_packet i p
unfolding dispersed_packet sync
place_decides i [] = refl
place_decides i (b ∷ bs) =
    let m : i % 8 % 8 ≡ i % 8 = omega arith in
    let r : register_at (i % 8) ≡ register_at i = register_at_is_steps (i % 8) ∙ ap (λ (x : ℕ). steps (8 * (188 * x)) start) m ∙ sym (register_at_is_steps i) in
    ap₂ (λ (x y : ℕ). cond (eqb x 0) (bit_xor b 0xFF) b ∷ whitened y bs) m r

pub dispersed-length : (i : ℕ) (p : List ℕ) → length (dispersed_packet i p) ≡ length p
unfolding dispersed_packet
dispersed-length i [] = refl
dispersed-length i (b ∷ bs) = ap suc (whitened-length (register_at i) bs)

pub dispersed_each : (n : ℕ) (s : List ℕ) → 188 * n ≤ length s → Each dispersed_packet 188 188 n 0 s
dispersed_each n s h j l = dispersed-length (0 + j) (take 188 (drop (188 * j) s)) ∙ simp (length-take, length-drop) (omega arith)

-- the part of a group's outputs that the code lends for packet i
pub part_of_group : (i m : ℕ) (u : List ℕ) → m ≡ 187 → u ≡ stream 1504 start → take m (drop (188 * (i % 8)) u) ≡ stream 187 (register_at i)
part_of_group i m u em eu =
    ap₂ (λ (x : ℕ) (y : List ℕ). take x (drop (188 * (i % 8)) y)) em eu
    ∙ stream-part 187 (188 * (i % 8)) 1504 start (omega arith) ∙ ap (stream 187) (sym (register_at_is_steps i))

-- the first byte was put, and the tail lent behind it came back as the bytes behind it, whitened
pub packet-put : (i n b : ℕ) (u p q bs t : List ℕ) → u ≡ stream 187 (register_at i) → length p ≡ 188 → q ≡ set p 0 (sync i b) → n ≡ 187
    → length bs ≡ 187 → t ≡ xored bs u → put_mid 1 n q t ≡ dispersed_packet i (b ∷ bs)
unfolding dispersed_packet
packet-put i n b u [] q bs t eu l eq en lb et = absurd (omega arith)
packet-put i n b u (x ∷ p) q bs t eu l eq en lb et =
    let rest : drop n p ≡ [] = drop_of_length-le p {i = n} (omega arith) in
    let w : t ≡ whitened (register_at i) bs = et ∙ ap (xored bs) (eu ∙ ap (λ (y : ℕ). stream y (register_at i)) (sym lb)) ∙ xored_is_whitened (register_at i) bs in
    ap₂ (put_mid 1 n) eq w ∙ ap (λ (y : List ℕ). sync i b ∷ (whitened (register_at i) bs ++ y)) rest ∙ ap (λ (y : List ℕ). sync i b ∷ y) (append-nil (whitened (register_at i) bs))

-- a packet's own first byte, and the tail lent behind it, are the packet
pub own_packet : (n y : ℕ) (p q : List ℕ) → length p ≡ 188 → q ≡ set p 0 y → n ≡ 187 → get_or p 0 0 ∷ mid_of 1 n q ≡ p
own_packet n y [] q l eq en = absurd (omega arith)
own_packet n y (x ∷ p) q l eq en = ap (λ (r : List ℕ). x ∷ mid_of 1 n r) eq ∙ ap (λ (r : List ℕ). x ∷ r) (take_all n p (omega arith))

-- the part that the code lends of a buffer whose front is dispersed is still the packet
pub lent_packet : (w o s : List ℕ) (i k : ℕ) → length w ≡ length o → 188 * i + 188 ≤ length o → k ≡ 188 → s ≡ front w (188 * i) o
    → mid_of (188 * i) k s ≡ take 188 (drop (188 * i) o)
lent_packet w o s i k lw h ek e =
    let l : length (take (188 * i) w) ≡ 188 * i = length-take-le (188 * i) w (omega arith) in
    ap₂ (λ (x : ℕ) (y : List ℕ). take x (drop (188 * i) y)) ek e ∙ ap (take 188) (drop_at (take (188 * i) w) (drop (188 * i) o) (188 * i) l)

-- ---- dispersing twice

sync-twice : (b : ℕ) (t : Bool) → cond t (bit_xor (cond t (bit_xor b 0xFF) b) 0xFF) (cond t (bit_xor b 0xFF) b) ≡ b
sync-twice b true = xor-again b 0xFF
sync-twice b false = refl

packet-twice : (i : ℕ) (p : List ℕ) → dispersed_packet i (dispersed_packet i p) ≡ p
unfolding dispersed_packet sync
packet-twice i [] = refl
packet-twice i (b ∷ bs) = ap₂ (λ (x : ℕ) (l : List ℕ). x ∷ l) (sync-twice b (eqb (i % 8) 0)) (whitened-twice (register_at i) bs)

module _ (s : List ℕ) (m : length s % 188 ≡ 0) where
  pub dispersed-same-length : length (dispersed s) ≡ length s
  dispersed-same-length =
      chunks-length dispersed_packet 188 188 (length s / 188) 0 s (dispersed_each (length s / 188) s (omega arith)) ∙ omega arith

  dispersed-twice : dispersed (dispersed s) ≡ s
  dispersed-twice =
      let n : ℕ = length s / 188 in
      ap (λ (k : ℕ). chunks dispersed_packet 188 (k / 188) 0 (dispersed s)) dispersed-same-length
      ∙ chunks-chunks dispersed_packet 188 188 dispersed_packet n 0 s (dispersed_each n s (omega arith))
      ∙ chunks-agree (λ (j : ℕ) (c : List ℕ). dispersed_packet j (dispersed_packet j c)) (λ (j : ℕ) (c : List ℕ). c) 188 n 0 s (λ j c h. packet-twice j c)
      ∙ chunks-same 188 n 0 s ∙ take_all (188 * n) s (omega arith)

twice-by-length : (s : List ℕ) (t : Bool) → eqb (length s % 188) 0 ≡ t → disperse_leaves (disperse_leaves s) ≡ s
twice-by-length s true e =
    let m : length s % 188 ≡ 0 = eqb-true (length s % 188) 0 e in
    let l : length (dispersed s) % 188 ≡ 0 = omega (arith, dispersed-same-length s m) in
    let a : disperse_leaves s ≡ dispersed s = ap (λ (no : Option Refusal). kept no (dispersed s) s) (disperse_accepted s m) in
    ap disperse_leaves a ∙ ap (λ (no : Option Refusal). kept no (dispersed (dispersed s)) (dispersed s)) (disperse_accepted (dispersed s) l) ∙ dispersed-twice s m
twice-by-length s false e =
    let a : disperse_leaves s ≡ s = ap (λ (no : Option Refusal). kept no (dispersed s) s) ((disperse_length_exactly s).1 (eqb-false (length s % 188) 0 e)) in ap disperse_leaves a ∙ a

-- what `ts_energy_disperse` leaves of what it left is the buffer, for every buffer
pub dispersed_twice_is_same : (s : List ℕ) → disperse_leaves (disperse_leaves s) ≡ s
dispersed_twice_is_same s = twice-by-length s (eqb (length s % 188) 0) refl
