-- A packet's length, its tail as the code puts it, and the part of a packet that is its payload; taking apart what was
-- packetized gives the payload, then zeros. Assumes nothing.
use Prim.Native.Nat.{ℕ, zero, suc, ◌+◌, ◌*◌, ◌<◌, ◌≤◌, ◌-◌, ◌/◌}
use native.Mathlib.Omega.{arith}
use mathlib.Core.Path.{◌≡◌, refl, sym, ap, ap₂, ◌∙◌}
use mathlib.Core.Bool.{Bool, true, false}
use mathlib.Core.List.{List, [], ◌∷◌, ◌++◌, append-nil, append_assoc}
use lib.Dec.{leb}
use lib.ListN.{length, take, drop, length-take, length-drop, drop_of_length-le, replicate, length-append, length-replicate, take-append-drop, replicate-append-replicate}
use lib.Seq.{take_all, drop_at, drop-drop, take_at}
use borrow.Author.Tests.{leb-true, leb-false}
use borrow.Rule.Slice.PartMut.{put_mid}
use Rattle.ground.specs.Chunks.{chunks}
use Rattle.ground.proofs.Chunks.{Each, chunks-length, chunks-chunks}
use Rattle.dispersal.specs.Inner.{xored}
use Rattle.dispersal.proofs.Whitening.{xored-length, xored_filled}
use Rattle.ts.specs.Packets.{padded, packet, count, packetized, payloads}

pub padded-length : (c : List ℕ) → length c ≤ 187 → length (padded c) ≡ 187
unfolding padded
padded-length c h = simp (length-append, length-replicate) (omega arith)

pub packet-length : (c : List ℕ) → length c ≤ 187 → length (packet c) ≡ 188
unfolding packet
packet-length c h = ap suc (padded-length c h)

-- each part of a payload becomes 188 bytes
pub packets_each : (n : ℕ) (s : List ℕ) → Each (λ (i : ℕ) (c : List ℕ). packet c) 187 188 n 0 s
packets_each n s j l = packet-length (take 187 (drop (187 * j) s)) (simp length-take (omega arith))

-- each packet leaves 187 bytes
pub payloads_each : (n : ℕ) (s : List ℕ) → 188 * n ≤ length s → Each (λ (i : ℕ) (p : List ℕ). drop 1 p) 188 187 n 0 s
payloads_each n s h j l = simp (length-drop, length-take) (omega arith)

drop-take : (n : ℕ) (l : List ℕ) → drop 1 (take (suc n) l) ≡ take n (drop 1 l)
drop-take zero [] = refl
drop-take (suc n) [] = refl
drop-take n (x ∷ l) = refl

-- the part that the code lends behind a packet's first byte is the packet without it
pub lent_payload : (s : List ℕ) (i m : ℕ) → m ≡ 187 → take m (drop (188 * i + 1) s) ≡ drop 1 (take 188 (drop (188 * i) s))
lent_payload s i m em =
    ap (λ (x : ℕ). take x (drop (188 * i + 1) s)) em ∙ ap (take 187) (sym (drop-drop 1 (188 * i) s)) ∙ sym (drop-take 187 (drop (188 * i) s))

-- a front of n items and the part behind it were lent, and came back as t and u
pub front-and-rest : (tail t u : List ℕ) (n k : ℕ) → length t ≡ n → length tail ≤ n + k → put_mid n k (t ++ drop n tail) u ≡ t ++ u
front-and-rest tail t u n k lt h =
    let z : List ℕ = drop n tail in
    let rest : drop k (drop n (t ++ z)) ≡ [] = ap (drop k) (drop_at t z n lt) ∙ drop_of_length-le z {i = k} (simp length-drop (omega arith)) in
    ap₂ (λ (x y : List ℕ). x ++ (u ++ y)) (take_at t z n lt) rest ∙ ap (λ (x : List ℕ). t ++ x) (append-nil u)

-- the payload was whitened to the front of a packet's tail, and the outputs behind it were put behind that
pub tail_put : (c m tail t u : List ℕ) (k : ℕ) → length c ≤ 187 → length m ≡ 187 → length tail ≡ 187 → k ≡ 187 - length c
    → t ≡ xored c (take (length c) m) → u ≡ drop (length c) m → put_mid (length c) k (t ++ drop (length c) tail) u ≡ xored (padded c) m
unfolding padded
tail_put c m tail t u k h lm l ek et eu =
    front-and-rest tail t u (length c) k (ap length et ∙ xored-length c (take (length c) m)) (omega arith)
    ∙ ap₂ (λ (x y : List ℕ). x ++ y) et eu ∙ xored_filled c m (187 - length c) (omega arith)

-- ---- taking apart what was packetized

-- the first part and its zeros, and then the rest and its zeros
padded-join : (s : List ℕ) (n : ℕ) (t : Bool) → leb 187 (length s) ≡ t → length s ≤ 187 * suc n
    → padded (take 187 s) ++ (drop 187 s ++ replicate (187 * n - length (drop 187 s)) 0) ≡ s ++ replicate (187 * suc n - length s) 0
unfolding padded
padded-join s n true e h =
    let l : 187 ≤ length s = leb-true 187 (length s) e in
    let a : 187 - length (take 187 s) ≡ 0 = simp length-take (omega arith) in
    let b : 187 * n - length (drop 187 s) ≡ 187 * suc n - length s = simp length-drop (omega arith) in
    ap₂ (λ (x y : ℕ). (take 187 s ++ replicate x 0) ++ (drop 187 s ++ replicate y 0)) a b
    ∙ ap (λ (x : List ℕ). x ++ (drop 187 s ++ replicate (187 * suc n - length s) 0)) (append-nil (take 187 s))
    ∙ sym (append_assoc (take 187 s) (drop 187 s) (replicate (187 * suc n - length s) 0))
    ∙ ap (λ (x : List ℕ). x ++ replicate (187 * suc n - length s) 0) (take-append-drop 187 s)
padded-join s n false e h =
    let l : length s < 187 = leb-false 187 (length s) e in
    let t : take 187 s ≡ s = take_all 187 s (omega arith) in
    let d : drop 187 s ≡ [] = drop_of_length-le s {i = 187} (omega arith) in
    let z : 187 - length s + (187 * n - 0) ≡ 187 * suc n - length s = omega arith in
    ap₂ (λ (x y : List ℕ). (x ++ replicate (187 - length x) 0) ++ (y ++ replicate (187 * n - length y) 0)) t d
    ∙ append_assoc s (replicate (187 - length s) 0) (replicate (187 * n - 0) 0)
    ∙ ap (λ (x : List ℕ). s ++ x) (replicate-append-replicate (187 - length s) (187 * n - 0) 0 ∙ ap (λ (x : ℕ). replicate x 0) z)

padded-chunks : (n i : ℕ) (s : List ℕ) → length s ≤ 187 * n → chunks (λ (j : ℕ) (c : List ℕ). padded c) 187 n i s ≡ s ++ replicate (187 * n - length s) 0
unfolding chunks
padded-chunks zero i [] h = refl
padded-chunks zero i (x ∷ s) h = absurd (omega arith)
padded-chunks (suc n) i s h =
    ap (λ (x : List ℕ). padded (take 187 s) ++ x) (padded-chunks n (i + 1) (drop 187 s) (simp length-drop (omega arith)))
    ∙ padded-join s n (leb 187 (length s)) refl h

pub packetized-length : (s : List ℕ) → length (packetized s) ≡ 188 * count (length s)
packetized-length s = chunks-length (λ (i : ℕ) (c : List ℕ). packet c) 187 188 (count (length s)) 0 s (packets_each (count (length s)) s)

-- what `ts_depacketize` writes of a payload's packets: the payload, then zeros
pub taken_apart_is_payload : (s : List ℕ) → payloads (packetized s) ≡ s ++ replicate (187 * count (length s) - length s) 0
unfolding packet
taken_apart_is_payload s =
    let n : ℕ = count (length s) in
    let e : length (packetized s) / 188 ≡ n = omega (arith, packetized-length s) in
    ap (λ (k : ℕ). chunks (λ (i : ℕ) (p : List ℕ). drop 1 p) 188 k 0 (packetized s)) e
    ∙ chunks-chunks (λ (i : ℕ) (c : List ℕ). packet c) 187 188 (λ (i : ℕ) (p : List ℕ). drop 1 p) n 0 s (packets_each n s)
    ∙ padded-chunks n 0 s (omega arith)

-- a payload of 188 makes 376 bytes
pub two_packets : (s : List ℕ) → length s ≡ 188 → length (packetized s) ≡ 376
two_packets s e = packetized-length s ∙ ap (λ (n : ℕ). 188 * count n) e
