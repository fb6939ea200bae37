-- Whitening, from the register and with a stream of its outputs: the loops, twice is the identity, and the first bytes
-- are those of the standard. Assumes nothing.
use Prim.Native.Nat.{ℕ, zero, suc, ◌+◌, ◌*◌, ◌%◌, ◌^◌, ◌<◌}
use native.Mathlib.Nat.{not-suc-le-zero, le_of_suc-le-suc}
use native.Mathlib.Omega.{arith}
use mathlib.Core.Path.{◌≡◌, refl, sym, ap, ap₂, ◌∙◌}
use mathlib.Core.List.{List, [], ◌∷◌, ◌++◌}
use lib.Bits.{bit_xor, xor_zero_l}
use lib.ListN.{length, get_or, set, take, drop, replicate}
use Rattle.ground.proofs.Xor.{xor-again}
use Rattle.ground.proofs.Front.{front, front-next, front-full, front-behind}
use Rattle.dispersal.specs.Register.{output, step, steps, outputs, start, whitened}
use Rattle.dispersal.specs.Inner.{stream, xored}
use Rattle.dispersal.proofs.Register.{steps_byte}

pub whitened-length : (r : ℕ) (s : List ℕ) → length (whitened r s) ≡ length s
unfolding whitened
whitened-length r [] = refl
whitened-length r (b ∷ s) = ap suc (whitened-length (steps 8 r) s)

pub whitened-at : (r : ℕ) (s : List ℕ) (i : ℕ) → i < length s → get_or (whitened r s) i 0 ≡ bit_xor (get_or s i 0) (outputs 8 (steps (8 * i) r))
unfolding whitened steps
whitened-at r [] i h = absurd (not-suc-le-zero h)
whitened-at r (b ∷ s) zero h = refl
whitened-at r (b ∷ s) (suc i) h =
    whitened-at (steps 8 r) s i (le_of_suc-le-suc h) ∙ ap (λ (x : ℕ). bit_xor (get_or s i 0) (outputs 8 x)) (steps_byte i r)

-- one byte more is whitened from the register
pub whitened-next : (r : ℕ) (o s : List ℕ) (i m : ℕ) → i < length o → s ≡ front (whitened r o) i o → m ≡ outputs 8 (steps (8 * i) r)
    → set s i (bit_xor (get_or s i 0) m) ≡ front (whitened r o) (i + 1) o
whitened-next r o s i m h e em =
    let z : length (whitened r o) ≡ length o = whitened-length r o in
    front-next (whitened r o) o s i 0 (bit_xor (get_or s i 0) m) (omega arith) h e
    (ap₂ bit_xor (front-behind (whitened r o) o s i 0 (omega arith) e) em ∙ sym (whitened-at r o i h))

pub whitened_end : (r : ℕ) (o s : List ℕ) (i : ℕ) → i ≡ length o → s ≡ front (whitened r o) i o → s ≡ whitened r o
whitened_end r o s i h e = let z : length (whitened r o) ≡ length o = whitened-length r o in front-full (whitened r o) o s i (omega arith) (omega arith) e

-- zeros that are whitened are the stream
pub whitened-zeros : (r n : ℕ) → whitened r (replicate n 0) ≡ stream n r
unfolding whitened stream
whitened-zeros r zero = refl
whitened-zeros r (suc n) = ap₂ (λ (x : ℕ) (l : List ℕ). x ∷ l) (xor_zero_l (outputs 8 r)) (whitened-zeros (steps 8 r) n)

-- zeros that are whitened from the start are the stream
pub stream-begins : (n reg : ℕ) (s t : List ℕ) → reg ≡ start → s ≡ replicate n 0 → t ≡ whitened (reg % 2 ^ 15) s → t ≡ stream n start
stream-begins n reg s t er es et = et ∙ ap₂ (λ (r : ℕ) (l : List ℕ). whitened (r % 2 ^ 15) l) er es ∙ whitened-zeros start n

pub whitened-twice : (r : ℕ) (s : List ℕ) → whitened r (whitened r s) ≡ s
unfolding whitened
whitened-twice r [] = refl
whitened-twice r (b ∷ s) = ap₂ (λ (x : ℕ) (l : List ℕ). x ∷ l) (xor-again b (outputs 8 r)) (whitened-twice (steps 8 r) s)

-- the first dispersal bytes are 03 F6 08 34
pub first_bytes : whitened start (0 ∷ 0 ∷ 0 ∷ 0 ∷ []) ≡ 0x03 ∷ 0xF6 ∷ 0x08 ∷ 0x34 ∷ []
unfolding whitened outputs steps step output
first_bytes = refl

-- ---- with a stream

pub xored-length : (s m : List ℕ) → length (xored s m) ≡ length s
unfolding xored
xored-length [] m = refl
xored-length (b ∷ s) [] = refl
xored-length (b ∷ s) (x ∷ m) = ap suc (xored-length s m)

pub xored-at : (s m : List ℕ) (i : ℕ) → length m ≡ length s → i < length s → get_or (xored s m) i 0 ≡ bit_xor (get_or s i 0) (get_or m i 0)
unfolding xored
xored-at [] m i l h = absurd (not-suc-le-zero h)
xored-at (b ∷ s) [] i l h = absurd (omega arith)
xored-at (b ∷ s) (x ∷ m) zero l h = refl
xored-at (b ∷ s) (x ∷ m) (suc i) l h = xored-at s m i (omega arith) (le_of_suc-le-suc h)

pub xored_is_whitened : (r : ℕ) (s : List ℕ) → xored s (stream (length s) r) ≡ whitened r s
unfolding xored stream whitened
xored_is_whitened r [] = refl
xored_is_whitened r (b ∷ s) = ap (λ (l : List ℕ). bit_xor b (outputs 8 r) ∷ l) (xored_is_whitened (steps 8 r) s)

-- zeros that are whitened are the stream, so bytes and zeros behind them are the bytes whitened and then the stream
xored-zeros : (m : List ℕ) → xored (replicate (length m) 0) m ≡ m
unfolding xored
xored-zeros [] = refl
xored-zeros (x ∷ m) = ap₂ (λ (y : ℕ) (l : List ℕ). y ∷ l) (xor_zero_l x) (xored-zeros m)

pub xored_filled : (s m : List ℕ) (k : ℕ) → length m ≡ length s + k → xored s (take (length s) m) ++ drop (length s) m ≡ xored (s ++ replicate k 0) m
unfolding xored
xored_filled [] m k l = let e : length m ≡ k = omega arith in sym (ap (λ (n : ℕ). xored (replicate n 0) m) (sym e) ∙ xored-zeros m)
xored_filled (b ∷ s) [] k l = absurd (omega arith)
xored_filled (b ∷ s) (x ∷ m) k l = ap (λ (t : List ℕ). bit_xor b x ∷ t) (xored_filled s m k (omega arith))

-- one byte more is whitened with the stream
pub xored-next : (m o s : List ℕ) (i : ℕ) → length m ≡ length o → i < length o → s ≡ front (xored o m) i o
    → set s i (bit_xor (get_or s i 0) (get_or m i 0)) ≡ front (xored o m) (i + 1) o
xored-next m o s i l h e =
    let z : length (xored o m) ≡ length o = xored-length o m in
    front-next (xored o m) o s i 0 (bit_xor (get_or s i 0) (get_or m i 0)) (omega arith) h e
    (ap (λ (x : ℕ). bit_xor x (get_or m i 0)) (front-behind (xored o m) o s i 0 (omega arith) e) ∙ sym (xored-at o m i l h))

pub xored_end : (m o s : List ℕ) (i : ℕ) → i ≡ length o → s ≡ front (xored o m) i o → s ≡ xored o m
xored_end m o s i h e = let z : length (xored o m) ≡ length o = xored-length o m in front-full (xored o m) o s i (omega arith) (omega arith) e
