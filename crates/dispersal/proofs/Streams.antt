-- The stream of the register's outputs, eight a byte: its parts and its places, and the loop that fills one from its
-- first 120 bytes on. Assumes nothing.
use Prim.Native.Nat.{ℕ, zero, suc, ◌+◌, ◌*◌, ◌^◌, ◌<◌, ◌≤◌, ◌-◌}
use native.Mathlib.Nat.{not-suc-le-zero, le_of_suc-le-suc}
use native.Mathlib.Omega.{arith}
use mathlib.Core.Path.{◌≡◌, refl, sym, ap, ap₂, ◌∙◌}
use mathlib.Core.List.{List, ◌++◌, ◌∷◌}
use lib.Bits.{bit_xor}
use lib.ListN.{length, get_or, set, take, drop, take-append-drop, length-append, length-drop}
use lib.Seq.{length-take-le, take_at}
use Rattle.ground.proofs.Front.{front, front-next, front-full, front_at}
use Rattle.dispersal.specs.Register.{steps, outputs, start}
use Rattle.dispersal.specs.Inner.{stream, Begun}
use Rattle.dispersal.proofs.Outputs.{outputs_960}
use Rattle.dispersal.proofs.Register.{steps-lt, steps_add, steps_byte}

pub stream-length : (n r : ℕ) → length (stream n r) ≡ n
unfolding stream
stream-length zero r = refl
stream-length (suc n) r = ap suc (stream-length n (steps 8 r))

pub stream_at : (n r i : ℕ) → i < n → get_or (stream n r) i 0 ≡ outputs 8 (steps (8 * i) r)
unfolding stream steps
stream_at zero r i h = absurd (not-suc-le-zero h)
stream_at (suc n) r zero h = refl
stream_at (suc n) r (suc i) h = stream_at n (steps 8 r) i (le_of_suc-le-suc h) ∙ ap (outputs 8) (steps_byte i r)

pub stream-take : (a n r : ℕ) → a ≤ n → take a (stream n r) ≡ stream a r
unfolding stream
stream-take zero n r h = refl
stream-take (suc a) zero r h = absurd (not-suc-le-zero h)
stream-take (suc a) (suc n) r h = ap (λ (l : List ℕ). outputs 8 r ∷ l) (stream-take a n (steps 8 r) (le_of_suc-le-suc h))

pub stream-drop : (a n r : ℕ) → a ≤ n → drop a (stream n r) ≡ stream (n - a) (steps (8 * a) r)
unfolding stream steps
stream-drop zero n r h = let e : n ≡ n - 0 = omega arith in ap (λ (k : ℕ). stream k r) e
stream-drop (suc a) zero r h = absurd (not-suc-le-zero h)
stream-drop (suc a) (suc n) r h =
    let k : n - a ≡ suc n - suc a = omega arith in
    stream-drop a n (steps 8 r) (le_of_suc-le-suc h) ∙ ap₂ (λ (x y : ℕ). stream x y) k (steps_byte a r)

-- a part of the stream is a stream
pub stream-part : (k a n r : ℕ) → a + k ≤ n → take k (drop a (stream n r)) ≡ stream k (steps (8 * a) r)
stream-part k a n r h = ap (take k) (stream-drop a n r (omega arith)) ∙ stream-take k (n - a) (steps (8 * a) r) (omega arith)

-- ---- filling one from its first 120 bytes on

-- one byte more of the stream, from the bytes 120 and 112 places before it
stream-from-before : (n i : ℕ) → i + 120 < n → get_or (stream n start) (i + 120) 0 ≡ bit_xor (get_or (stream n start) i 0) (get_or (stream n start) (i + 8) 0)
stream-from-before n i h =
    let r : ℕ = steps (8 * i) start in
    let far : steps (8 * (i + 120)) start ≡ steps 960 r = ap (λ (x : ℕ). steps x start) (omega arith) ∙ sym (steps_add 960 (8 * i) start) in
    let near : steps (8 * (i + 8)) start ≡ steps 64 r = ap (λ (x : ℕ). steps x start) (omega arith) ∙ sym (steps_add 64 (8 * i) start) in
    let small : r < 2 ^ 15 = steps-lt (8 * i) start (omega arith) in
    stream_at n start (i + 120) h ∙ ap (outputs 8) far ∙ outputs_960 8 r small
    ∙ sym (ap₂ bit_xor (stream_at n start i (omega arith)) (stream_at n start (i + 8) (omega arith) ∙ ap (outputs 8) near))

pub stream-next : (n : ℕ) (o s : List ℕ) (i : ℕ) → length o ≡ n → 120 ≤ i → i < n → s ≡ front (stream n start) i o
    → set s i (bit_xor (get_or s (i - 120) 0) (get_or s (i - 112) 0)) ≡ front (stream n start) (i + 1) o
stream-next n o s i l a h e =
    let w : List ℕ = stream n start in
    let lw : length w ≡ n = stream-length n start in
    let j : ℕ = i - 120 in
    let p : i - 112 ≡ j + 8 = omega arith in
    let q : j + 120 ≡ i = omega arith in
    let f : get_or s j 0 ≡ get_or w j 0 = ap (λ (x : List ℕ). get_or x j 0) e ∙ front_at w o i j 0 (omega arith) (omega arith) in
    let g : get_or s (i - 112) 0 ≡ get_or w (j + 8) 0 = ap₂ (λ (x : List ℕ) (y : ℕ). get_or x y 0) e p ∙ front_at w o i (j + 8) 0 (omega arith) (omega arith) in
    front-next w o s i 0 (bit_xor (get_or s j 0) (get_or s (i - 112) 0)) (omega arith) (omega arith) e
    (ap₂ bit_xor f g ∙ sym (stream-from-before n j (omega arith)) ∙ ap (λ (x : ℕ). get_or w x 0) q)

pub stream-begun : (n : ℕ) (s : List ℕ) → length s ≡ n → 120 ≤ n → take 120 s ≡ stream 120 start → s ≡ front (stream n start) 120 s
stream-begun n s l h e =
    sym (take-append-drop 120 s) ∙ ap (λ (x : List ℕ). x ++ drop 120 s) (e ∙ sym (stream-take 120 n start h))

pub stream_end : (n : ℕ) (o s : List ℕ) (i : ℕ) → length o ≡ n → i ≡ n → s ≡ front (stream n start) i o → s ≡ stream n start
stream_end n o s i l h e = let z : length (stream n start) ≡ n = stream-length n start in front-full (stream n start) o s i (omega arith) (omega arith) e

-- the part of 120 bytes that was lent and came back
module _ (s t : List ℕ) (h : 120 ≤ length s) (e : t ≡ stream (length (take 120 s)) start) where
  part_is_stream : t ≡ stream 120 start
  part_is_stream = e ∙ ap (λ (n : ℕ). stream n start) (length-take-le 120 s h)

  stream-part-length : length (t ++ drop 120 s) ≡ length s
  stream-part-length =
      let a : length t ≡ 120 = ap length part_is_stream ∙ stream-length 120 start in simp (length-append, length-drop) (omega arith)

  pub stream-part-begun : Begun (t ++ drop 120 s)
  stream-part-begun = record {
    long = omega (arith, stream-part-length);
    first = take_at t (drop 120 s) 120 (ap length part_is_stream ∙ stream-length 120 start) ∙ part_is_stream;
  }
