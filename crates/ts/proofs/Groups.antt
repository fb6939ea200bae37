-- A stream that is cut between groups of eight packets is sent, and taken back, part by part: what a program that reads
-- whole groups at a time writes is what the whole stream gives. Assumes nothing.
use Prim.Native.Nat.{ℕ, zero, suc, ◌+◌, ◌*◌, ◌/◌, ◌%◌, ◌<◌}
use native.Mathlib.Nat.{mul-zero, mul-suc}
use native.Mathlib.Omega.{arith}
use mathlib.Core.Path.{◌≡◌, refl, sym, ap, ap₂, ◌∙◌}
use mathlib.Core.List.{List, [], ◌∷◌, ◌++◌, append_assoc}
use lib.ListN.{length, take, drop, length-append, length-drop}
use lib.Seq.{take-append-le, drop-append-le}
use Rattle.ground.specs.Chunks.{chunks}
use Rattle.ts.specs.Packets.{count, packet, packetized, payloads}
use Rattle.ts.specs.Dispersal.{dispersed_packet, dispersed}
use Rattle.ts.proofs.Dispersal.{place_decides, dispersed-same-length}
use Rattle.ts.proofs.WhitenedPackets.{whitened_packet, one_pass_is_two}

module _ {A B : Type 0} (f : ℕ → List A → List B) (a : ℕ) where
  -- whole parts, and then others
  chunks-append : (n k i : ℕ) (s t : List A) → length s ≡ a * n → chunks f a (n + k) i (s ++ t) ≡ chunks f a n i s ++ chunks f a k (i + n) t
  unfolding chunks
  chunks-append zero k i [] t l =
      let e : 0 + k ≡ k = omega arith in
      let j : i ≡ i + 0 = omega arith in
      ap₂ (λ (x y : ℕ). chunks f a x y t) e j
  chunks-append zero k i (x ∷ s) t l = let z : length (x ∷ s) ≡ 0 = l ∙ mul-zero a in absurd (omega arith)
  chunks-append (suc n) k i s t l =
      let e : length s ≡ a * n + a = l ∙ mul-suc a n in
      let c : suc n + k ≡ suc (n + k) = omega arith in
      let j : i + 1 + n ≡ i + suc n = omega arith in
      ap (λ (x : ℕ). chunks f a x i (s ++ t)) c
      ∙ ap₂ (λ (x y : List A). f i x ++ chunks f a (n + k) (i + 1) y) (take-append-le a s t (omega arith)) (drop-append-le a s t (omega arith))
      ∙ ap (λ (x : List B). f i (take a s) ++ x) (chunks-append n k (i + 1) (drop a s) t (length-drop a s ∙ omega arith))
      ∙ sym (append_assoc (f i (take a s)) (chunks f a n (i + 1) (drop a s)) (chunks f a k (i + 1 + n) t))
      ∙ ap (λ (x : ℕ). (f i (take a s) ++ chunks f a n (i + 1) (drop a s)) ++ chunks f a k x t) j

  -- parts whose numbers are all d higher, by a rule that doesn't see it
  chunks_higher : (d : ℕ) → ((i : ℕ) (c : List A) → f (i + d) c ≡ f i c) → (n i : ℕ) (s : List A) → chunks f a n (i + d) s ≡ chunks f a n i s
  unfolding chunks
  chunks_higher d h zero i s = refl
  chunks_higher d h (suc n) i s =
      let e : i + d + 1 ≡ i + 1 + d = omega arith in
      ap₂ (λ (x y : List B). x ++ y) (h i (take a s)) (ap (λ (x : ℕ). chunks f a n x (drop a s)) e ∙ chunks_higher d h n (i + 1) (drop a s))

  -- whole groups, and then other parts, by a rule that goes by the place in the group
  groups_append : ((i : ℕ) (c : List A) → f (i % 8) c ≡ f i c) → (m k : ℕ) (s t : List A) → length s ≡ a * (8 * m)
      → chunks f a (8 * m + k) 0 (s ++ t) ≡ chunks f a (8 * m) 0 s ++ chunks f a k 0 t
  groups_append h m k s t l =
      let higher : (i : ℕ) (c : List A) → f (i + 8 * m) c ≡ f i c =
      λ i c. let e : (i + 8 * m) % 8 ≡ i % 8 = omega arith in sym (h (i + 8 * m) c) ∙ ap (λ (x : ℕ). f x c) e ∙ h i c in
      chunks-append (8 * m) k 0 s t l ∙ ap (λ (x : List B). chunks f a (8 * m) 0 s ++ x) (chunks_higher (8 * m) higher k 0 t)

-- the whitened packets of m groups of payload and of what follows them
pub sent_in_parts : (m : ℕ) (s t : List ℕ) → length s ≡ 1496 * m → 0 < length s → 0 < length t
    → dispersed (packetized (s ++ t)) ≡ dispersed (packetized s) ++ dispersed (packetized t)
sent_in_parts m s t l hs ht =
    let whole : count (length (s ++ t)) ≡ 8 * m + count (length t) = omega (arith, length-append s t) in
    let groups : 8 * m ≡ count (length s) = omega arith in
    sym (one_pass_is_two (s ++ t)) ∙ ap (λ (n : ℕ). chunks whitened_packet 187 n 0 (s ++ t)) whole
    ∙ groups_append whitened_packet 187 (λ i c. place_decides i (packet c)) m (count (length t)) s t (omega arith)
    ∙ ap₂ (λ (x y : List ℕ). x ++ y) (ap (λ (n : ℕ). chunks whitened_packet 187 n 0 s) groups ∙ one_pass_is_two s) (one_pass_is_two t)

-- the packets of m groups and what follows them, whitened or whitened again
pub dispersed_in_parts : (m : ℕ) (s t : List ℕ) → length s ≡ 1504 * m → dispersed (s ++ t) ≡ dispersed s ++ dispersed t
dispersed_in_parts m s t l =
    let whole : length (s ++ t) / 188 ≡ 8 * m + length t / 188 = omega (arith, length-append s t) in
    let groups : 8 * m ≡ length s / 188 = omega arith in
    ap (λ (n : ℕ). chunks dispersed_packet 188 n 0 (s ++ t)) whole ∙ groups_append dispersed_packet 188 place_decides m (length t / 188) s t (omega arith)
    ∙ ap (λ (n : ℕ). chunks dispersed_packet 188 n 0 s ++ dispersed t) groups

-- and their payloads
pub taken_back_in_parts : (m : ℕ) (s t : List ℕ) → length s ≡ 1504 * m → payloads (dispersed (s ++ t)) ≡ payloads (dispersed s) ++ payloads (dispersed t)
taken_back_in_parts m s t l =
    let d : length (dispersed s) ≡ length s = dispersed-same-length s (omega arith) in
    let whole : length (dispersed s ++ dispersed t) / 188 ≡ 8 * m + length (dispersed t) / 188 = omega (arith, length-append (dispersed s) (dispersed t)) in
    let groups : 8 * m ≡ length (dispersed s) / 188 = omega arith in
    ap payloads (dispersed_in_parts m s t l)
    ∙ ap (λ (n : ℕ). chunks (λ (i : ℕ) (p : List ℕ). drop 1 p) 188 n 0 (dispersed s ++ dispersed t)) whole
    ∙ groups_append (λ (i : ℕ) (p : List ℕ). drop 1 p) 188 (λ i c. refl) m (length (dispersed t) / 188) (dispersed s) (dispersed t) (omega arith)
    ∙ ap (λ (n : ℕ). chunks (λ (i : ℕ) (p : List ℕ). drop 1 p) 188 n 0 (dispersed s) ++ payloads (dispersed t)) groups
