-- A rising list that is made of three lists, as a test in one walk along the four: it has their members, the three rise as it does, and the walk that
-- leaves the first out leaves the others' members. Assumes nothing.
use mathlib.Core.Path.{◌≡◌, refl, sym, ap, ap₂, ◌∙◌}
use mathlib.Core.Bool.{Bool, true, false, not, ◌&&◌, ◌||◌, cond}
use mathlib.Core.List.{List, [], ◌∷◌}
use Prim.Native.Nat.{ℕ, zero, suc, ◌≤◌}
use native.Mathlib.Omega.{arith}
use lib.Dec.{eqb, ltb, leb}
use borrow.Author.Tests.{eqb-true, leb-true}
use Rattle.carriers.specs.Carriers.{among, keep}
use Rattle.carriers.specs.Reserved.{Rises, heads, past, without}
use Rattle.carriers.proofs.Rising.{rises-weaken, below_none}

-- l rises, from a on and below b
unfoldable pub rises : ℕ → ℕ → List ℕ → Bool
rises a b [] = leb a b
rises a b (r ∷ l) = leb a r && rises (suc r) b l

-- every member of l is the next one of x, y or z, and none of these is left over
abbrev none : List ℕ → Bool
none [] = true
none (r ∷ l) = false

unfoldable pub made : List ℕ → List ℕ → List ℕ → List ℕ → Bool
made [] x y z = none x && (none y && none z)
made (r ∷ l) x y z = (heads x r || (heads y r || heads z r)) && made l (past x (heads x r)) (past y (heads y r)) (past z (heads z r))

-- ---- a list to be tested: nothing more is asked of it

-- the least of the next members of three lists
abbrev pub next : List ℕ → ℕ → ℕ
next [] b = b
next (r ∷ l) b = cond (ltb r b) r b

abbrev pub least : List ℕ → List ℕ → List ℕ → ℕ
least x y z = next x (next y (next z 65536))

-- n members of three lists, r first
unfoldable pub join : ℕ → ℕ → List ℕ → List ℕ → List ℕ → List ℕ
join zero r x y z = []
join (suc n) r x y z =
    r ∷ join n (least (past x (heads x r)) (past y (heads y r)) (past z (heads z r))) (past x (heads x r)) (past y (heads y r)) (past z (heads z r))

-- ---- the tests hold

pub never : {P : Type 0} → ◌≡◌ {A = Bool} false true → P
never e = absurd (let z : ◌≡◌ {A = ℕ} 0 1 = cc in omega arith)

both : (x y : Bool) → x && y ≡ true → (x ≡ true) × (y ≡ true)
both true y e = (refl, e)
both false y e = never e

pub rises-holds : (l : List ℕ) (a b : ℕ) → rises a b l ≡ true → Rises a b l
unfolding rises
rises-holds [] a b e = leb-true a b e
rises-holds (r ∷ l) a b e = let h = both (leb a r) (rises (suc r) b l) e in (leb-true a r h.0, rises-holds l (suc r) b h.1)

-- ---- the members

none_is : (x : List ℕ) → none x ≡ true → x ≡ []
none_is [] e = refl
none_is (r ∷ x) e = never e

past-among : (x : List ℕ) (r c : ℕ) → among c x ≡ eqb c r && heads x r || among c (past x (heads x r))
unfolding among
past-among [] r c = sym (none_of (eqb c r))
  where
    none_of : (t : Bool) → t && false || false ≡ false
    none_of true = refl
    none_of false = refl
past-among (s ∷ x) r c = by (eqb r s) refl
  where
    by : (t : Bool) → eqb r s ≡ t → eqb c s || among c x ≡ eqb c r && t || among c (past (s ∷ x) t)
    by true e = ap (λ (y : ℕ). eqb c y || among c x) (sym (eqb-true r s e)) ∙ with_true (eqb c r) (among c x)
      where
        with_true : (t u : Bool) → t || u ≡ t && true || u
        with_true true u = refl
        with_true false u = refl
    by false e = with_false (eqb c r) (eqb c s || among c x)
      where
        with_false : (t u : Bool) → u ≡ t && false || u
        with_false true u = refl
        with_false false u = refl

three : (e hx hy hz x y z : Bool) → hx || (hy || hz) ≡ true → e || (x || (y || z)) ≡ (e && hx || x) || ((e && hy || y) || (e && hz || z))
three false hx hy hz x y z h = refl
three true true hy hz x y z h = refl
three true false true hz true y z h = refl
three true false true hz false y z h = refl
three true false false true true y z h = refl
three true false false true false true z h = refl
three true false false true false false z h = refl
three true false false false x y z h = never h

pub made_members : (l x y z : List ℕ) (c : ℕ) → made l x y z ≡ true → among c l ≡ among c x || (among c y || among c z)
unfolding made among
made_members [] x y z c e =
    let f = both (none x) (none y && none z) e in
    let g = both (none y) (none z) f.1 in
    rw (none_is x f.0, none_is y g.0, none_is z g.1) refl
made_members (r ∷ l) x y z c e =
    let f = both (heads x r || (heads y r || heads z r)) (made l (past x (heads x r)) (past y (heads y r)) (past z (heads z r))) e in
    ap (λ (p : Bool). eqb c r || p) (made_members l (past x (heads x r)) (past y (heads y r)) (past z (heads z r)) c f.1)
    ∙ three (eqb c r) (heads x r) (heads y r) (heads z r) (among c (past x (heads x r))) (among c (past y (heads y r))) (among c (past z (heads z r))) f.0
    ∙ sym (ap₂ (λ (p q : Bool). p || q) (past-among x r c) (ap₂ (λ (p q : Bool). p || q) (past-among y r c) (past-among z r c)))

-- ---- the three rise

past-rises : (x : List ℕ) (a r b : ℕ) → a ≤ r → Rises (suc r) b (past x (heads x r)) → Rises a b x
past-rises [] a r b g h = omega arith
past-rises (s ∷ x) a r b g h = by (eqb r s) refl h
  where
    by : (t : Bool) → eqb r s ≡ t → Rises (suc r) b (past (s ∷ x) t) → Rises a b (s ∷ x)
    by true e h = let q : r ≡ s = eqb-true r s e in (omega arith, rw (sym q) h)
    by false e h = rises-weaken (s ∷ x) a (suc r) b (omega arith) h

pub made_rise : (l x y z : List ℕ) (a b : ℕ) → made l x y z ≡ true → Rises a b l → Rises a b x × Rises a b y
unfolding made
made_rise [] x y z a b e h =
    let f = both (none x) (none y && none z) e in
    let g = both (none y) (none z) f.1 in
    rw (none_is x f.0, none_is y g.0) (h, h)
made_rise (r ∷ l) x y z a b e h =
    let f = both (heads x r || (heads y r || heads z r)) (made l (past x (heads x r)) (past y (heads y r)) (past z (heads z r))) e in
    let i = made_rise l (past x (heads x r)) (past y (heads y r)) (past z (heads z r)) (suc r) b f.1 h.1 in
    (past-rises x a r b h.0 i.0, past-rises y a r b h.0 i.1)

-- ---- without the first of the three

pub without-rises : (l x : List ℕ) (a b : ℕ) → Rises a b l → Rises a b (without l x)
unfolding without
without-rises [] x a b h = h
without-rises (r ∷ l) x a b h = by (heads x r) (without l (past x (heads x r))) (without-rises l (past x (heads x r)) (suc r) b h.1)
  where
    by : (t : Bool) (w : List ℕ) → Rises (suc r) b w → Rises a b (keep (not t) r w)
    by true w g = let i : a ≤ r = h.0 in rises-weaken w a (suc r) b (omega arith) g
    by false w g = (h.0, g)

pub keep_has : (c r : ℕ) (w : List ℕ) (t : Bool) → among c (keep t r w) ≡ t && eqb c r || among c w
unfolding among
keep_has c r w true = refl
keep_has c r w false = refl

-- one carrier: it is the next one (e) and TPS (t), or one of those that follow (u), and of the TPS carriers that follow (v)
left_over : (e t u v : Bool) → (e ≡ true → (u ≡ false) × (v ≡ false)) → not t && e || u && not v ≡ (e || u) && not (e && t || v)
left_over false true u v h = refl
left_over false false u v h = refl
left_over true true false false h = refl
left_over true false false false h = refl
left_over true t true v h = never (sym (h refl).0)
left_over true t false true h = never (sym (h refl).1)

pub without_members : (l x y z : List ℕ) (a b c : ℕ) → made l x y z ≡ true → Rises a b l → among c (without l x) ≡ among c l && not (among c x)
unfolding made among without
without_members [] x y z a b c e h = refl
without_members (r ∷ l) x y z a b c e h =
    let x' = past x (heads x r) in
    let f = both (heads x r || (heads y r || heads z r)) (made l x' (past y (heads y r)) (past z (heads z r))) e in
    let i = made_rise l x' (past y (heads y r)) (past z (heads z r)) (suc r) b f.1 h.1 in
    keep_has c r (without l x') (not (heads x r))
    ∙ ap (λ (p : Bool). not (heads x r) && eqb c r || p) (without_members l x' (past y (heads y r)) (past z (heads z r)) (suc r) b c f.1 h.1)
    ∙ left_over (eqb c r) (heads x r) (among c l) (among c x')
    (λ q. let s : c ≡ r = eqb-true c r q in (below_none l (suc r) b c h.1 (omega arith), below_none x' (suc r) b c i.0 (omega arith)))
    ∙ ap (λ (p : Bool). (eqb c r || among c l) && not p) (sym (past-among x r c))
