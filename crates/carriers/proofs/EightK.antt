-- The 8K mode: its lists are the 2K ones repeated every 1,704, and it has the facts that every law of the pilot grid asks for, computed once, each test in
-- one walk along a list. Assumes nothing.
use mathlib.Core.Path.{◌≡◌, refl, sym, ap, ◌∙◌, subst}
use mathlib.Core.Bool.{Bool, true, false, not, ◌&&◌, ◌||◌}
use mathlib.Core.List.{List, [], ◌∷◌, map}
use mathlib.Core.Logic.{⊎_elim}
use Prim.Native.Nat.{ℕ, zero, suc, ◌+◌, ◌*◌, ◌≤◌, ◌<◌}
use native.Mathlib.Nat.{eq-or-lt_of_le}
use native.Mathlib.Omega.{arith}
use lib.Dec.{eqb}
use lib.ListN.{length, get_or, length-map}
use borrow.Author.Tests.{eqb-true}
use Rattle.ground.proofs.Mapped.{map_at}
use Rattle.carriers.specs.Mode.{continual2k, tps2k, mode8k, continual8k, tps8k}
use Rattle.carriers.specs.Count.{bin_of}
use Rattle.carriers.specs.Carriers.{among, every_twelfth, data_actives}
use Rattle.carriers.specs.Reserved.{Rises, heads}
use Rattle.carriers.specs.Repeated.{again, once, repeated}
use Rattle.carriers.proofs.Chosen.{stands, or-holds, among-at, among-append}
use Rattle.carriers.proofs.Phases.{below4}
use Rattle.carriers.proofs.Made.{never, rises, made, join, keep_has}
use Rattle.carriers.proofs.Facts.{Facts, StaticFacts, Tests, joined, tested, both_rise, data-many}
use Rattle.carriers.proofs.Table.{active, entry-once}

-- ---- the lists

pub lists_repeat : (continual8k ≡ repeated continual2k) × (tps8k ≡ repeated tps2k)
unfolding continual2k tps2k continual8k tps8k again once repeated
lists_repeat = (refl, refl)

-- ---- and what a repeated list has: c + 1704 k for its members c and k = 0 .. 3, and nothing else

or-first : (t u : Bool) → t ≡ true → t || u ≡ true
or-first true u e = refl
or-first false u e = never e

-- where a list begins with x, x before it brings no member
shared : (a x : ℕ) (l : List ℕ) → eqb a x || among a l ≡ not (heads l x) && eqb a x || among a l
unfolding among
shared a x [] = refl
shared a x (y ∷ l) = by (eqb x y) refl
  where
    twice : (t u : Bool) → t || (t || u) ≡ t || u
    twice true u = refl
    twice false u = refl

    by : (t : Bool) → eqb x y ≡ t → eqb a x || (eqb a y || among a l) ≡ not t && eqb a x || (eqb a y || among a l)
    by true e =
        ap (λ (z : ℕ). eqb a x || (eqb a z || among a l)) (sym (eqb-true x y e))
        ∙ twice (eqb a x) (among a l)
        ∙ ap (λ (z : ℕ). eqb a z || among a l) (eqb-true x y e)
    by false e = refl

once-among : (l : List ℕ) (a : ℕ) → among a (once l) ≡ among a l
unfolding among once
once-among [] a = refl
once-among (x ∷ l) a =
    keep_has a x (once l) (not (heads l x)) ∙ ap (λ (t : Bool). not (heads l x) && eqb a x || t) (once-among l a) ∙ sym (shared a x l)

module _ (l : List ℕ) where
  -- a stands d further on than a member of l
  further_has : (d c : ℕ) → among c l ≡ true → among (c + d) (map (λ x. x + d) l) ≡ true
  further_has d c e =
      let s = stands l c e in
      let at : get_or (map (λ x. x + d) l) s.0 0 ≡ c + d = map_at (λ x. x + d) l s.0 0 0 s.1 ∙ ap (λ (x : ℕ). x + d) s.2 in
      subst (λ (x : ℕ). among x (map (λ x. x + d) l) ≡ true) at (among-at (map (λ x. x + d) l) s.0 (omega (arith, s.1, length-map l (λ x. x + d))))

  further_only : (d a : ℕ) → among a (map (λ x. x + d) l) ≡ true → (c : ℕ) × (among c l ≡ true) × (a ≡ c + d)
  further_only d a e =
      let s = stands (map (λ x. x + d) l) a e in
      let i : s.0 < length l = omega (arith, s.1, length-map l (λ x. x + d)) in
      (get_or l s.0 0, among-at l s.0 i, sym s.2 ∙ map_at (λ x. x + d) l s.0 0 0 i)

  -- a is c + 1704 j for a member c of l, where j is one of the n numbers from k
  abbrev Again : ℕ → ℕ → ℕ → Type 0
  Again n k a = (j : ℕ) × (c : ℕ) × (k ≤ j) × (j < k + n) × (among c l ≡ true) × (a ≡ c + 1704 * j)

  again_has : (n k j c : ℕ) → k ≤ j → j < k + n → among c l ≡ true → among (c + 1704 * j) (again n k l) ≡ true
  unfolding again
  again_has zero k j c g h e = absurd (omega arith)
  again_has (suc n) k j c g h e =
      let t = among (c + 1704 * j) (map (λ x. x + 1704 * k) l) in
      let u = among (c + 1704 * j) (again n (suc k) l) in
      among-append (c + 1704 * j) (map (λ x. x + 1704 * k) l) (again n (suc k) l)
      ∙ ⊎_elim
      (λ q. or-first t u (subst (λ (x : ℕ). among (c + 1704 * x) (map (λ x. x + 1704 * k) l) ≡ true) q (further_has (1704 * k) c e)))
      (λ q. or-holds t u (again_has n (suc k) j c q (omega arith) e))
      (eq-or-lt_of_le g)

  again-only : (n k a : ℕ) → among a (again n k l) ≡ true → Again n k a
  unfolding again among
  again-only zero k a e = never e
  again-only (suc n) k a e =
      by (among a (map (λ x. x + 1704 * k) l)) refl (sym (among-append a (map (λ x. x + 1704 * k) l) (again n (suc k) l)) ∙ e) (again-only n (suc k) a)
    where
      by : (t : Bool) → among a (map (λ x. x + 1704 * k) l) ≡ t → t || among a (again n (suc k) l) ≡ true
          → (among a (again n (suc k) l) ≡ true → Again n (suc k) a) → Again (suc n) k a
      by true i o r = let s = further_only (1704 * k) a i in (k, s.0, omega arith, omega arith, s.1, s.2)
      by false i o r = let s = r o in (s.0, s.1, omega (arith, s.2), omega (arith, s.3), s.4, s.5)

  pub repeated_has : (k c : ℕ) → k < 4 → among c l ≡ true → among (c + 1704 * k) (repeated l) ≡ true
  unfolding repeated
  repeated_has k c h e = once-among (again 4 0 l) (c + 1704 * k) ∙ again_has 4 0 k c (omega arith) (omega arith) e

  pub repeated-only : (a : ℕ) → among a (repeated l) ≡ true → (k : ℕ) × (c : ℕ) × (k < 4) × (among c l ≡ true) × (a ≡ c + 1704 * k)
  unfolding repeated
  repeated-only a e =
      let s = again-only 4 0 a (sym (once-among (again 4 0 l) a) ∙ e) in
      (s.0, s.1, omega (arith, s.3), s.4, s.5)

-- ---- the facts

pub passed8k : (p : ℕ) → p < 4 → Tests mode8k p
unfolding continual8k tps8k every_twelfth rises made join joined
passed8k = below4 (Tests mode8k) (refl, refl, refl) (refl, refl, refl) (refl, refl, refl) (refl, refl, refl)

unfoldable pub facts8k : Facts mode8k
unfolding tps8k
facts8k =
    record {
      room = omega arith;
      symmetric = refl;
      tps_many = refl;
      all_many = refl;
      row = λ p h. tested mode8k p (passed8k p h);
    }

pub static8k : StaticFacts mode8k
unfolding continual8k
static8k = record { static_leaves = refl }

-- ---- what follows, as for every mode that has its facts

-- 177 continual pilots and 68 TPS carriers, each once, and rising
pub lists_many : (length continual8k ≡ 177) × (length tps8k ≡ 68)
unfolding continual8k tps8k
lists_many = (refl, refl)

pub lists_rise : Rises 0 6817 tps8k × Rises 0 6817 continual8k
lists_rise = both_rise mode8k facts8k

-- each phase has 6,048 data carriers, no two in one bin
pub data_many_8k : (p : ℕ) → p < 4 → length (data_actives mode8k p) ≡ 6048
data_many_8k = data-many mode8k facts8k

pub bins_once_8k : (p : ℕ) → p < 4 → (j k : ℕ) → j < k → k < 6048 → bin_of mode8k (active mode8k p j) ≡ bin_of mode8k (active mode8k p k) → ⊥
bins_once_8k = entry-once mode8k facts8k
