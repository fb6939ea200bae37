-- Laws of rising lists: members by their places; a list that rises and has just the members that a test passes is what the test chooses, and the walk along it gives what the
-- test leaves; and how many there are. Over any list and any test. Assumes nothing.
use mathlib.Core.Path.{◌≡◌, refl, sym, ap, ap₂, ◌∙◌}
use mathlib.Core.Bool.{Bool, true, false, not, ◌||◌}
use mathlib.Core.List.{List, [], ◌∷◌}
use Prim.Native.Nat.{ℕ, zero, suc, ◌+◌, ◌≤◌, ◌<◌}
use native.Mathlib.Nat.{not-suc-le-zero, le_of_suc-le-suc}
use native.Mathlib.Omega.{arith}
use lib.Arith.{lt_of_le-ne}
use lib.Dec.{eqb}
use lib.ListN.{length, get_or}
use borrow.Author.Tests.{ne_eqb, eqb-true, eqb-false}
use Rattle.carriers.specs.Carriers.{among, keep, chosen}
use Rattle.carriers.specs.Reserved.{Rises, heads, past, gaps}

pub rises-room : (l : List ℕ) (a b : ℕ) → Rises a b l → a + length l ≤ b
rises-room [] a b h = omega arith
rises-room (r ∷ l) a b h = omega (arith, h.0, rises-room l (suc r) b h.1)

pub rises-weaken : (l : List ℕ) (a c b : ℕ) → a ≤ c → Rises c b l → Rises a b l
rises-weaken [] a c b g h = omega arith
rises-weaken (r ∷ l) a c b g h = (omega (arith, h.0), h.1)

rises-from : (l : List ℕ) (a b i : ℕ) → Rises a b l → i < length l → a ≤ get_or l i 0
rises-from [] a b i h l< = absurd (not-suc-le-zero l<)
rises-from (r ∷ l) a b zero h l< = h.0
rises-from (r ∷ l) a b (suc i) h l< = omega (arith, h.0, rises-from l (suc r) b i h.1 (le_of_suc-le-suc l<))

-- by places: a later member is the greater
pub rises-apart : (l : List ℕ) (a b j k : ℕ) → Rises a b l → j < k → k < length l → get_or l j 0 < get_or l k 0
rises-apart [] a b j k h jk l< = absurd (not-suc-le-zero l<)
rises-apart (r ∷ l) a b j zero h jk l< = absurd (not-suc-le-zero jk)
rises-apart (r ∷ l) a b zero (suc k) h jk l< = rises-from l (suc r) b k h.1 (le_of_suc-le-suc l<)
rises-apart (r ∷ l) a b (suc j) (suc k) h jk l< = rises-apart l (suc r) b j k h.1 (le_of_suc-le-suc jk) (le_of_suc-le-suc l<)

-- ---- one step of the walk

-- what is left of the list after a was looked at rises from the next on
pub step-rises : (l : List ℕ) (a b : ℕ) → a < b → Rises a b l → Rises (suc a) b (past l (heads l a))
step-rises [] a b l< h = l<
step-rises (r ∷ l) a b l< h = by (eqb a r) refl
  where
    by : (t : Bool) → eqb a r ≡ t → Rises (suc a) b (past (r ∷ l) t)
    by true e = rw (eqb-true a r e) h.1
    by false e = (lt_of_le-ne h.0 (eqb-false a r e), h.1)

-- what is less than the first is no member
pub below_none : (l : List ℕ) (a b c : ℕ) → Rises a b l → c < a → among c l ≡ false
unfolding among
below_none [] a b c h l< = refl
below_none (r ∷ l) a b c h l< =
    let g : a ≤ r = h.0 in
    ap (λ (t : Bool). t || among c l) (ne_eqb c r (λ e. omega arith)) ∙ below_none l (suc r) b c h.1 (omega arith)

-- the first number is a member just where it is the next one
pub head_among : (l : List ℕ) (a b : ℕ) → Rises a b l → among a l ≡ heads l a
unfolding among
head_among [] a b h = refl
head_among (r ∷ l) a b h = let g : a ≤ r = h.0 in or_false (eqb a r) (among a l) (below_none l (suc r) b a h.1 (omega arith))
  where
    or_false : (t u : Bool) → u ≡ false → t || u ≡ t
    or_false true u e = refl
    or_false false u e = e

-- and every later one is a member just where it is one of what is left
step-among : (l : List ℕ) (a c : ℕ) → a < c → among c (past l (heads l a)) ≡ among c l
unfolding among
step-among [] a c l< = refl
step-among (r ∷ l) a c l< = by (eqb a r) refl
  where
    by : (t : Bool) → eqb a r ≡ t → among c (past (r ∷ l) t) ≡ eqb c r || among c l
    by true e = let q : a ≡ r = eqb-true a r e in sym (ap (λ (u : Bool). u || among c l) (ne_eqb c r (λ x. omega arith)))
    by false e = refl

-- ---- the walk is what the test leaves, and the list what it chooses

pub walk_is_chosen : (t : ℕ → Bool) (n a b : ℕ) (l : List ℕ) → a + n ≡ b → Rises a b l → ((c : ℕ) → a ≤ c → c < b → t c ≡ not (among c l))
    → gaps a l n ≡ chosen t a n
unfolding gaps chosen
walk_is_chosen t zero a b l e h s = refl
walk_is_chosen t (suc n) a b l e h s =
    ap₂ (λ (c : Bool) (r : List ℕ). keep c a r) (sym (s a (omega arith) (omega arith) ∙ ap not (head_among l a b h)))
    (walk_is_chosen t n (suc a) b (past l (heads l a)) (omega arith) (step-rises l a b (omega arith) h)
    (λ c g k. s c (omega arith) k ∙ ap not (sym (step-among l a c g))))

-- a list is its first member, where that is a, and what is left
pub whole : (l : List ℕ) (a : ℕ) → keep (heads l a) a (past l (heads l a)) ≡ l
whole [] a = refl
whole (r ∷ l) a = by (eqb a r) refl
  where
    by : (t : Bool) → eqb a r ≡ t → keep t a (past (r ∷ l) t) ≡ r ∷ l
    by true e = ap (λ (x : ℕ). x ∷ l) (eqb-true a r e)
    by false e = refl

-- nothing rises from a on and below a
pub empty : (l : List ℕ) (a b : ℕ) → a + 0 ≡ b → Rises a b l → l ≡ []
empty [] a b e h = refl
empty (r ∷ l) a b e h = absurd (omega (arith, h.0, rises-room l (suc r) b h.1))

pub list_is_chosen : (t : ℕ → Bool) (n a b : ℕ) (l : List ℕ) → a + n ≡ b → Rises a b l → ((c : ℕ) → a ≤ c → c < b → t c ≡ among c l)
    → l ≡ chosen t a n
unfolding chosen
list_is_chosen t zero a b l e h s = empty l a b e h
list_is_chosen t (suc n) a b l e h s =
    sym (whole l a)
    ∙ ap₂ (λ (c : Bool) (r : List ℕ). keep c a r) (sym (s a (omega arith) (omega arith) ∙ head_among l a b h))
    (list_is_chosen t n (suc a) b (past l (heads l a)) (omega arith) (step-rises l a b (omega arith) h)
    (λ c g k. s c (omega arith) k ∙ sym (step-among l a c g)))

pub chosen-rises : (t : ℕ → Bool) (n a b : ℕ) → a + n ≡ b → Rises a b (chosen t a n)
unfolding chosen
chosen-rises t zero a b e = omega arith
chosen-rises t (suc n) a b e = by (t a) (chosen-rises t n (suc a) b (omega arith))
  where
    by : (c : Bool) → Rises (suc a) b (chosen t (suc a) n) → Rises a b (keep c a (chosen t (suc a) n))
    by true h = (omega arith, h)
    by false h = rises-weaken (chosen t (suc a) n) a (suc a) b (omega arith) h

-- ---- how many

abbrev pub one : Bool → ℕ
one true = 1
one false = 0

keep-length : (c : Bool) (a : ℕ) (l : List ℕ) → length (keep c a l) ≡ one c + length l
keep-length true a l = omega arith
keep-length false a l = omega arith

-- two tests that are never passed at once, and a third that is passed where one of them is
pub chosen-sum : (t u v : ℕ → Bool) (n a : ℕ) → ((c : ℕ) → one (t c) + one (u c) ≡ one (v c))
    → length (chosen t a n) + length (chosen u a n) ≡ length (chosen v a n)
unfolding chosen
chosen-sum t u v zero a s = omega arith
chosen-sum t u v (suc n) a s =
    omega (
      arith,
      keep-length (t a) a (chosen t (suc a) n),
      keep-length (u a) a (chosen u (suc a) n),
      keep-length (v a) a (chosen v (suc a) n),
      s a,
      chosen-sum t u v n (suc a) s,
    )

all_many : (n a : ℕ) → length (chosen (λ c. true) a n) ≡ n
unfolding chosen
all_many zero a = refl
all_many (suc n) a = ap suc (all_many n (suc a))

one-or-other : (b : Bool) → one b + one (not b) ≡ 1
one-or-other true = refl
one-or-other false = refl

-- those that a test chooses and those that it leaves are all that were looked at
pub chosen-or-left : (t : ℕ → Bool) (n a : ℕ) → length (chosen t a n) + length (chosen (λ c. not (t c)) a n) ≡ n
chosen-or-left t n a = chosen-sum t (λ c. not (t c)) (λ c. true) n a (λ c. one-or-other (t c)) ∙ all_many n a
