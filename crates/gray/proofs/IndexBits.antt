-- The index that one, two or three bits of a group write, and the bits of two indices that are written in turn.
-- Assumes nothing.
use Prim.Native.Nat.{ℕ, zero, suc, ◌+◌, ◌-◌, ◌*◌, ◌/◌, ◌%◌, ◌^◌, ◌≤◌, ◌<◌}
use native.Mathlib.Nat.{not-suc-le-zero, le_of_suc-le-suc}
use native.Mathlib.Omega.{arith}
use mathlib.Core.Path.{◌≡◌, refl, sym, ap, ◌∙◌}
use mathlib.Core.List.{List}
use lib.ListN.{length, get_or, set}
use Rattle.ground.specs.Digits.{value_of}
use Rattle.ground.proofs.Front.{front, front-next}
use Rattle.gray.specs.Mapping.{every_other}
use Rattle.gray.specs.Hard.{bits_in_turn}

-- one bit more is read
pub every_other_next : (k s a j : ℕ) (l : List ℕ) → j ≡ a + 2 * k → value_of s (every_other (suc k) a l) ≡ 2 * value_of s (every_other k a l) + get_or l j 0
every_other_next zero s a j l e = let e' : j ≡ a = omega arith in rw e' (omega arith)
every_other_next (suc k) s a j l e = every_other_next k (s * 2 + get_or l a 0) (a + 2) j l (omega arith)

-- ---- bits in turn

pub in_turn_length : (n i q : ℕ) → length (bits_in_turn n i q) ≡ 2 * n
in_turn_length zero i q = refl
in_turn_length (suc n) i q = let ih : length (bits_in_turn n i q) ≡ 2 * n = in_turn_length n i q in omega arith

in_turn_even : (n i q j : ℕ) → j < n → get_or (bits_in_turn n i q) (2 * j) 0 ≡ i / 2 ^ (n - 1 - j) % 2
in_turn_even zero i q j h = absurd (not-suc-le-zero h)
in_turn_even (suc n) i q zero h = let e : n ≡ suc n - 1 - 0 = omega arith in ap (λ (k : ℕ). i / 2 ^ k % 2) e
in_turn_even (suc n) i q (suc j) h =
    let t : 2 * suc j ≡ suc (suc (2 * j)) = omega arith in
    let e : n - 1 - j ≡ suc n - 1 - suc j = omega arith in
    ap (λ (k : ℕ). get_or (bits_in_turn (suc n) i q) k 0) t ∙ in_turn_even n i q j (le_of_suc-le-suc h) ∙ ap (λ (k : ℕ). i / 2 ^ k % 2) e

in_turn_odd : (n i q j : ℕ) → j < n → get_or (bits_in_turn n i q) (2 * j + 1) 0 ≡ q / 2 ^ (n - 1 - j) % 2
in_turn_odd zero i q j h = absurd (not-suc-le-zero h)
in_turn_odd (suc n) i q zero h = let e : n ≡ suc n - 1 - 0 = omega arith in ap (λ (k : ℕ). q / 2 ^ k % 2) e
in_turn_odd (suc n) i q (suc j) h =
    let t : 2 * suc j + 1 ≡ suc (suc (2 * j + 1)) = omega arith in
    let e : n - 1 - j ≡ suc n - 1 - suc j = omega arith in
    ap (λ (k : ℕ). get_or (bits_in_turn (suc n) i q) k 0) t ∙ in_turn_odd n i q j (le_of_suc-le-suc h) ∙ ap (λ (k : ℕ). q / 2 ^ k % 2) e

-- two bits more are written
pub in_turn_next : (n i q j a b : ℕ) (o s : List ℕ) → j < n → 2 * n ≤ length o → s ≡ front (bits_in_turn n i q) (2 * j) o
    → a ≡ i / 2 ^ (n - 1 - j) % 2 → b ≡ q / 2 ^ (n - 1 - j) % 2 → set (set s (2 * j) a) (2 * j + 1) b ≡ front (bits_in_turn n i q) (2 * (j + 1)) o
in_turn_next n i q j a b o s h r es ea eb =
    let w : List ℕ = bits_in_turn n i q in
    let l : length w ≡ 2 * n = in_turn_length n i q in
    let t : 2 * j + 1 + 1 ≡ 2 * (j + 1) = omega arith in
    front-next w o (set s (2 * j) a) (2 * j + 1) 0 b (omega arith) (omega arith)
    (front-next w o s (2 * j) 0 a (omega arith) (omega arith) es (ea ∙ sym (in_turn_even n i q j h))) (eb ∙ sym (in_turn_odd n i q j h))
    ∙ ap (λ (k : ℕ). front w k o) t
