-- Places flipped: a word with at most two places flipped differs there and nowhere else, and is a codeword where
-- those places add up to the remainder. So what the search names for the remainder is promised of the word. Assumes
-- nothing.
use mathlib.Core.Path.{◌≡◌, refl, sym, ap, ap₂, ◌∙◌}
use mathlib.Core.Bool.{false}
use mathlib.Core.List.{List, [], ◌∷◌}
use Prim.Native.Nat.{ℕ, zero, suc, ◌+◌, ◌-◌, ◌<◌}
use native.Mathlib.Decide.{dec_lt}
use native.Mathlib.Nat.{le_of_suc-le-suc, add-zero, add-suc, suc-add}
use native.Mathlib.Omega.{arith}
use lib.Bits.{bit_xor, xor_self}
use lib.Dec.{eqb}
use lib.ListN.{length, get_or, length-set, take, set}
use lib.Seq.{take-set-lt, take-set-le, set_out, get_or-take}
use borrow.Author.Tests.{eq-eqb, ne_eqb}
use Rattle.ground.specs.Bits.{Bits}
use Rattle.bch.specs.Code.{remainder_of, Codeword, places, Lone}
use Rattle.bch.specs.Search.{added, Rising, Locates, flip, mended, named, Changes, NoPattern}
use Rattle.bch.specs.declared.search.Found.{Found}
use Rattle.bch.specs.declared.search.Found.TheVariants.{One, Clean, Two}
use Rattle.std.specs.Prelude.{Option, Some, None}
use Rattle.bch.proofs.Places.{placed, places_self, places-rising, remainder_places}
use Rattle.bch.proofs.Distance.{places_add_remainder}

pub flip-length : (w : List ℕ) (i : ℕ) → length (flip w i) ≡ length w
unfolding flip
flip-length w i = length-set w i (1 - get_or w i 0)

pub flip_bits : (w : List ℕ) (i : ℕ) → Bits w → Bits (flip w i)
unfolding flip
flip_bits [] i h = tt
flip_bits (b ∷ bs) zero h = (omega arith, h.1)
flip_bits (b ∷ bs) (suc i) h = (h.0, flip_bits bs i h.1)

-- the first n of a word with a place flipped
pub take-flip : (n : ℕ) (w : List ℕ) (i : ℕ) → length (take n w) ≡ n → flip (take n w) i ≡ take n (flip w i)
unfolding flip
take-flip n w i hl = by (dec_lt i n)
  where
    by : Dec (i < n) → set (take n w) i (1 - get_or (take n w) i 0) ≡ take n (set w i (1 - get_or w i 0))
    by (yes h) =
        ap (λ (b : ℕ). set (take n w) i (1 - b)) (get_or-take n w i 0 h) ∙ sym (take-set-lt n w i (1 - get_or w i 0) h)
    by (no h) =
        set_out (take n w) i (1 - get_or (take n w) i 0) (omega arith) ∙ sym (take-set-le n w i (1 - get_or w i 0) (omega arith))

-- ---- the places at which a word differs from itself with places flipped

flipped_differs : (y : ℕ) → y < 2 → eqb (1 - y) y ≡ false
flipped_differs y h = ne_eqb (1 - y) y (λ e. omega arith)

flip-places : (k : ℕ) (ys : List ℕ) (i : ℕ) → Bits ys → i < length ys → places k (flip ys i) ys ≡ (k + i) ∷ []
unfolding flip
flip-places k [] i hb h = absurd (omega arith)
flip-places k (y ∷ ys) zero hb h =
    ap₂ (placed k) (flipped_differs y hb.0) (places_self (suc k) ys) ∙ ap (λ (n : ℕ). n ∷ []) (sym (add-zero k))
flip-places k (y ∷ ys) (suc i) hb h =
    ap₂ (placed k) (eq-eqb y y refl) (flip-places (suc k) ys i hb.1 (le_of_suc-le-suc h))
    ∙ ap (λ (n : ℕ). n ∷ []) (suc-add k i ∙ sym (add-suc k i))

flips_places : (k : ℕ) (ys : List ℕ) (i j : ℕ) → Bits ys → i < j → j < length ys → places k (flip (flip ys i) j) ys ≡ (k + i) ∷ (k + j) ∷ []
unfolding flip
flips_places k [] i j hb l h = absurd (omega arith)
flips_places k (y ∷ ys) i zero hb l h = absurd (omega arith)
flips_places k (y ∷ ys) zero (suc j) hb l h =
    ap₂ (placed k) (flipped_differs y hb.0) (flip-places (suc k) ys j hb.1 (le_of_suc-le-suc h))
    ∙ ap₂ (λ (m n : ℕ). m ∷ n ∷ []) (sym (add-zero k)) (suc-add k j ∙ sym (add-suc k j))
flips_places k (y ∷ ys) (suc i) (suc j) hb l h =
    ap₂ (placed k) (eq-eqb y y refl) (flips_places (suc k) ys i j hb.1 (le_of_suc-le-suc l) (le_of_suc-le-suc h))
    ∙ ap₂ (λ (m n : ℕ). m ∷ n ∷ []) (suc-add k i ∙ sym (add-suc k i)) (suc-add k j ∙ sym (add-suc k j))

-- ---- a word mended

pub mended-length : (w : List ℕ) (r : Found) → length (mended w r) ≡ length w
mended-length w Clean = refl
mended-length w (One i) = flip-length w i
mended-length w (Two i j) = flip-length (flip w i) j ∙ flip-length w i

pub mended-bits : (w : List ℕ) (r : Found) → Bits w → Bits (mended w r)
mended-bits w Clean h = h
mended-bits w (One i) h = flip_bits w i h
mended-bits w (Two i j) h = flip_bits (flip w i) j (flip_bits w i h)

-- a word mended in rising places differs in these and nowhere else
pub mended-places : (w : List ℕ) (r : Found) → Bits w → length w ≡ 67 → Rising 0 (named r) → places 0 (mended w r) w ≡ named r
mended-places w Clean hb hl hi = places_self 0 w
mended-places w (One i) hb hl hi =
    let z : 0 + i ≡ i = omega arith in flip-places 0 w i hb (omega arith) ∙ ap (λ (n : ℕ). n ∷ []) z
mended-places w (Two i j) hb hl hi =
    let z : 0 + i ≡ i = omega arith in
    let y : 0 + j ≡ j = omega arith in
    flips_places 0 w i j hb hi.2.0 (omega arith) ∙ ap₂ (λ (m n : ℕ). m ∷ n ∷ []) z y

-- and is a codeword, where they add up to its remainder
mended-codeword : (w : List ℕ) (r : Found) → Bits w → length w ≡ 67 → Rising 0 (named r) → added (named r) ≡ remainder_of 0 w → Codeword (mended w r)
mended-codeword w r hb hl hi e =
    let l = mended-length w r in
    record {
      size = l ∙ hl;
      bits = mended-bits w r hb;
      divided = remainder_places 0 0 (mended w r) w (mended-bits w r hb) hb l (omega arith) (omega arith)
          ∙ ap (λ (x : ℕ). bit_xor (remainder_of 0 w) x) (ap added (mended-places w r hb hl hi) ∙ e) ∙ xor_self (remainder_of 0 w);
    }

pub no_pattern_lone : (w : List ℕ) → Bits w → length w ≡ 67 → NoPattern (remainder_of 0 w) → Lone w
no_pattern_lone w hb hl h c hc hd =
    let e = hc.size in
    h (places 0 c w) (places-rising 0 c w (omega arith)) hd (places_add_remainder c w hc hb hl)

-- what the search names for the remainder is promised of the word
pub located_changes : (w : List ℕ) (r : Option Found) → Bits w → length w ≡ 67 → Locates (remainder_of 0 w) r → Changes w r
located_changes w (Some Clean) hb hl h = record { size = hl; bits = hb; divided = h }
located_changes w (Some (One i)) hb hl h = (h.0.1, mended-codeword w (One i) hb hl h.0 h.1)
located_changes w (Some (Two i j)) hb hl h = (h.0.2.0, h.0.2.1, mended-codeword w (Two i j) hb hl h.0 h.1)
located_changes w None hb hl h = no_pattern_lone w hb hl h
