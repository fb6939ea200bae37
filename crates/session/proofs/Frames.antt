-- The standing symbols by frames: the current one has at most 68, all before it are full; and a journal's two halves. Assumes nothing.
use mathlib.Core.Path.{◌≡◌, refl, ap, ◌∙◌}
use mathlib.Core.Bool.{Bool, true, false, cond}
use mathlib.Core.Logic.{◌⊎◌, inl, inr}
use mathlib.Core.List.{List, [], ◌∷◌, ◌++◌}
use Prim.Native.Nat.{ℕ, suc, ◌+◌, ◌*◌, ◌%◌, ◌<◌, ◌≤◌, min}
use native.Mathlib.Nat.{eq-zero-or-pos, add-mul, suc-mul, mul-le-mul_right}
use native.Mathlib.Omega.{arith}
use lib.Ieee.{Float}
use lib.ListN.{length, take, drop}
use borrow.Author.Tests.{leb-true, leb-false}
use Rattle.ground.proofs.Exactly.{at_most}
use Rattle.carriers.specs.Mode.{Mode}
use Rattle.tps.specs.Word.{SYMBOLS}
use Rattle.session.specs.Journal.{place, journal_size, place_of, frame_in, in_place}
use Rattle.session.specs.Session.{crosses}
use Rattle.session.specs.History.{whole, opened, frame, frames_of}
use Rattle.session.proofs.Numbers.{crosses_decides}
use Rattle.session.proofs.Journal.{put, put_lent, put-length, put_grows, put-behind, put-before, lent_part}

-- ---- the standing symbols

-- those of the frame before the current one, none where it is the first
unfoldable pub frame_before : List (List Float) → List (List Float)
frame_before [] = []
frame_before (y ∷ ys) = cond (whole (frame ys)) (frame ys) (frame_before ys)

few-opened : (f : List (List Float)) (b : Bool) → whole f ≡ b → length (cond b [] f) < SYMBOLS
few-opened f true e = omega arith
few-opened f false e = leb-false SYMBOLS (length f) e

pub opened-few : (f : List (List Float)) → length (opened f) < SYMBOLS
opened-few f = few-opened f (whole f) refl

pub frame-few : (ys : List (List Float)) → length (frame ys) ≤ SYMBOLS
unfolding frame
frame-few [] = omega arith
frame-few (y ∷ ys) = opened-few (frame ys)

few_before : (f g : List (List Float)) (b : Bool) → length f ≤ SYMBOLS → length g ≤ SYMBOLS → length (cond b f g) ≤ SYMBOLS
few_before f g true k l = k
few_before f g false k l = l

pub before-few : (ys : List (List Float)) → length (frame_before ys) ≤ SYMBOLS
unfolding frame_before
before-few [] = omega arith
before-few (y ∷ ys) = few_before (frame ys) (frame_before ys) (whole (frame ys)) (frame-few ys) (before-few ys)

-- none stands in the current frame only where none stands at all
pub frame-none : (ys : List (List Float)) → length (frame ys) ≡ 0 → (ys ≡ []) × (frames_of ys ≡ 0)
unfolding frame frames_of
frame-none [] e = (refl, refl)
frame-none (y ∷ ys) e = absurd (omega arith)

-- those of the current frame are the latest of all
latest_by : (ys xs : List (List Float)) (b : Bool) → xs ≡ take (length xs) ys → cond b [] xs ≡ take (length (cond b [] xs)) ys
latest_by ys xs true e = refl
latest_by ys xs false e = e

pub frame_is_latest : (ys : List (List Float)) → frame ys ≡ take (length (frame ys)) ys
unfolding frame
frame_is_latest [] = refl
frame_is_latest (y ∷ ys) = ap (λ (xs : List (List Float)). y ∷ xs) (latest_by ys (frame ys) (whole (frame ys)) (frame_is_latest ys))

-- and all frames before it are full
many-next : (n c : ℕ) (f : List (List Float)) (b : Bool) → whole f ≡ b → length f ≤ SYMBOLS → n ≡ c * SYMBOLS + length f
    → suc n ≡ cond b (suc c) c * SYMBOLS + suc (length (cond b [] f))
many-next n c f true e l h = omega (arith, leb-true SYMBOLS (length f) e)
many-next n c f false e l h = omega arith

pub frames-many : (ys : List (List Float)) → length ys ≡ frames_of ys * SYMBOLS + length (frame ys)
unfolding frame frames_of
frames-many [] = refl
frames-many (y ∷ ys) = many-next (length ys) (frames_of ys) (frame ys) (whole (frame ys)) refl (frame-few ys) (frames-many ys)

-- where a symbol is fed to a frame that isn't whole, it isn't the first of a later frame
first_by : (ys : List (List Float)) → (length (frame ys) ≡ 0) ⊎ (0 < length (frame ys)) → (suc (length (frame ys)) ≡ 1 → ⊥) ⊎ (frames_of ys < 1)
first_by ys (inl z) = inr (omega (arith, (frame-none ys z).1))
first_by ys (inr k) = inl (λ e. omega arith)

pub first_or_later : (ys : List (List Float)) → crosses (frames_of ys) (suc (length (frame ys))) ≡ false
first_or_later ys = (crosses_decides (frames_of ys) (suc (length (frame ys)))).fails.1 (first_by ys (eq-zero-or-pos (length (frame ys))))

-- ---- the journal

-- the number of the place of symbol n of frame c
abbrev number : ℕ → ℕ → ℕ
number c n = c % 2 * SYMBOLS + n

-- w f32 a place: places in a row are as far apart as their numbers
place_far : (a n w : ℕ) → (a + n) * w ≡ (a + 0) * w + n * w
place_far a n w = omega arith

fits_below : (a b w : ℕ) → a < b → a * w + w ≤ b * w
fits_below a b w h = omega (arith, mul-le-mul_right w h, suc-mul a w)

fits_row : (a n b w : ℕ) → a + n ≤ b → a * w + n * w ≤ b * w
fits_row a n b w h = omega (arith, mul-le-mul_right w h, add-mul a n w)

module _ (m : Mode) where
  -- two frames further is the same half
  pub same_half : (c : ℕ) (j : List Float) → frame_in m (suc (suc c)) j ≡ frame_in m c j
  same_half c j = let e : suc (suc c) % 2 ≡ c % 2 = omega arith in ap (λ (k : ℕ). drop ((k * SYMBOLS + 0) * place m) j) e

  -- a frame in what is lent
  pub lent_frame : (c n l : ℕ) (j : List Float) → n ≤ SYMBOLS → journal_size m ≤ min l (length j)
      → take (n * place m) (frame_in m c (take l j)) ≡ take (n * place m) (frame_in m c j)
  lent_frame c n l j few h =
      let k : place_of m c 0 + n * place m ≤ journal_size m = fits_row (number c 0) n (2 * SYMBOLS) (place m) (omega arith) in
      lent_part (place_of m c 0) (n * place m) l j (omega arith)

  module _ (c n : ℕ) (l : n < SYMBOLS) (t j : List Float) (lt : length t ≡ place m) where
    inside : place_of m c n + place m ≤ journal_size m
    inside = fits_below (number c n) (2 * SYMBOLS) (place m) (omega arith)

    -- what is lent from the start comes back
    pub place_lent : (k : ℕ) → journal_size m ≤ min k (length j) → in_place m c n t (take k j) ++ drop k j ≡ in_place m c n t j
    unfolding in_place
    place_lent k h = let i = inside in put_lent (place m) (place_of m c n) k t j (omega arith)

    module _ (h : journal_size m ≤ length j) where
      room : place_of m c n + place m ≤ length j
      room = let i = inside in omega arith

      pub place-length : length (in_place m c n t j) ≡ length j
      unfolding in_place
      place-length = put-length (place m) (place_of m c n) t j lt room

      -- the frame has one place more, and the other half stays
      pub place-next : (r : List Float) → take (n * place m) (frame_in m c j) ≡ r
          → take (suc n * place m) (frame_in m c (in_place m c n t j)) ≡ r ++ t
      unfolding in_place
      place-next r e =
          ap (λ (z : ℕ). take z (frame_in m c (put (place m) (place_of m c n) t j))) (suc-mul n (place m))
          ∙ put_grows (place m) (place_of m c n) t j lt room (place_of m c 0) (n * place m) r (place_far (c % 2 * SYMBOLS) n (place m)) e

      by_half : (k : ℕ) → k ≤ SYMBOLS → (1 ≤ c % 2) ⊎ (c % 2 < 1)
          → take (k * place m) (frame_in m (suc c) (in_place m c n t j)) ≡ take (k * place m) (frame_in m (suc c) j)
      unfolding in_place
      by_half k q (inr e) =
          ap (take (k * place m))
          (put-before (place m) (place_of m c n) t j lt room (place_of m (suc c) 0)
          (fits_below (number c n) (number (suc c) 0) (place m) (omega arith)))
      by_half k q (inl e) =
          put-behind (place m) (place_of m c n) t j lt room (place_of m (suc c) 0) (k * place m)
          (fits_row (number (suc c) 0) k (number c n) (place m) (omega arith))

      pub other-stays : (k : ℕ) → k ≤ SYMBOLS
          → take (k * place m) (frame_in m (suc c) (in_place m c n t j)) ≡ take (k * place m) (frame_in m (suc c) j)
      other-stays k q = by_half k q (at_most 1 (c % 2))
