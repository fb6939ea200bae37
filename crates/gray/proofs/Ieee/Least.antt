-- The least of a list of floats that are all magnitudes or all NaN: it is one of them that none is less than, the only
-- one, what the code takes, and the same by pairs. Assumes nothing.
use Prim.Native.Nat.{ℕ, zero, suc, ◌<◌, suc-le-suc}
use native.Mathlib.Nat.{zero-lt-suc, not-suc-le-zero, le_of_suc-le-suc}
use mathlib.Core.Path.{◌≡◌, refl, sym, ◌∙◌, subst}
use mathlib.Core.Bool.{true, Bool, false, not, cond}
use mathlib.Core.List.{List, [], ◌∷◌}
use lib.ListN.{length}
use lib.Ieee.{Float, binary32, lt, fits}
use lib.Dec.{T, T_not, not_T}
use lib.Ieee.Fits.{and_i, and_l, and_r}
use Rattle.gray.specs.Hard.{entry}
use Rattle.gray.specs.Soft.{none_less, first_that, least, Least}
use Rattle.gray.specs.Inner.{lesser, least_in_turn}
use Rattle.gray.proofs.Ieee.Magnitudes.{float_lt_irrefl, kind, kind_antisymm, kind_lt_asymm, kind_lt_of_lt_of_le}

pub lesser-kind : (k : Bool) (a b : Float) → T (kind k a) → T (kind k b) → T (kind k (lesser a b))
lesser-kind k a b p q = go (lt a b)
  where
    go : (t : Bool) → T (kind k (cond t a b))
    go true = p
    go false = q

module _ (k : Bool) (a b c : Float) (p : T (kind k a)) (q : T (kind k b)) (r : T (kind k c)) where
  assoc-by : (t u v : Bool) → lt a b ≡ t → lt b c ≡ u → lt a c ≡ v → cond (lt (cond t a b) c) (cond t a b) c ≡ cond (lt a (cond u b c)) a (cond u b c)
  assoc-by true true true e f g = rw (e, g)
  assoc-by true true false e f g =
      absurd (T_not (lt a c) (subst (λ (t : Bool). T (not t)) (sym g) tt) (kind_lt_of_lt_of_le k a b c p q r (subst T (sym e) tt) (kind_lt_asymm k b c q r (subst T (sym f) tt))))
  assoc-by true false v e f g = refl
  assoc-by false true v e f g = rw (e, f)
  assoc-by false false true e f g =
      absurd (T_not (lt a b) (subst (λ (t : Bool). T (not t)) (sym e) tt) (kind_lt_of_lt_of_le k a c b p r q (subst T (sym g) tt) (subst (λ (t : Bool). T (not t)) (sym f) tt)))
  assoc-by false false false e f g = rw (f, g)

  pub lesser-assoc : lesser (lesser a b) c ≡ lesser a (lesser b c)
  lesser-assoc = assoc-by (lt a b) (lt b c) (lt a c) refl refl refl

module _ (k : Bool) where
  abbrev pub Kind : List Float → Type 0
  Kind ds = (j : ℕ) → j < length ds → T (kind k (entry ds j))

  shorter : (d : Float) (r : List Float) → Kind (d ∷ r) → Kind r
  shorter d r h j l = h (suc j) (suc-le-suc l)

  in_turn_kind : (d : Float) (r : List Float) → Kind (d ∷ r) → T (kind k (least_in_turn (d ∷ r)))
  unfolding least_in_turn
  in_turn_kind d [] h = h 0 (zero-lt-suc 0)
  in_turn_kind d (e ∷ r) h = lesser-kind k d (least_in_turn (e ∷ r)) (h 0 (zero-lt-suc (length (e ∷ r)))) (in_turn_kind e r (shorter d (e ∷ r) h))

  -- one entry more, in front
  least_step : (d m : Float) (r : List Float) → Kind (d ∷ r) → T (kind k m) → Least r m → (t : Bool) → lt d m ≡ t → Least (d ∷ r) (cond t d m)
  least_step d m r h km L true q = record { none_less_lem = none; place = 0; inside = zero-lt-suc (length r); here = refl }
    where
      kd : T (kind k d)
      kd = h 0 (zero-lt-suc (length r))

      none : (j : ℕ) → j < length (d ∷ r) → T (not (lt (entry (d ∷ r) j) d))
      none zero l = float_lt_irrefl d
      none (suc j) l =
          not_T (lt (entry r j) d)
          (λ s. T_not (lt (entry r j) m) (L.none_less_lem j (le_of_suc-le-suc l))
          (kind_lt_of_lt_of_le k (entry r j) d m (h (suc j) l) kd km s (kind_lt_asymm k d m kd km (subst T (sym q) tt))))
  least_step d m r h km L false q = record { none_less_lem = none; place = suc L.place; inside = suc-le-suc L.inside; here = L.here }
    where
      none : (j : ℕ) → j < length (d ∷ r) → T (not (lt (entry (d ∷ r) j) m))
      none zero l = subst (λ (t : Bool). T (not t)) (sym q) tt
      none (suc j) l = L.none_less_lem j (le_of_suc-le-suc l)

  pub in_turn_least : (d : Float) (r : List Float) → Kind (d ∷ r) → Least (d ∷ r) (least_in_turn (d ∷ r))
  unfolding least_in_turn
  in_turn_least d [] h = record { none_less_lem = none; place = 0; inside = zero-lt-suc 0; here = refl }
    where
      none : (j : ℕ) → j < 1 → T (not (lt (entry (d ∷ []) j) d))
      none zero l = float_lt_irrefl d
      none (suc j) l = absurd (not-suc-le-zero (le_of_suc-le-suc l))
  in_turn_least d (e ∷ r) h =
      least_step d (least_in_turn (e ∷ r)) (e ∷ r) h (in_turn_kind e r (shorter d (e ∷ r) h)) (in_turn_least e r (shorter d (e ∷ r) h)) (lt d (least_in_turn (e ∷ r))) refl

  pub some-least : (ds : List Float) → 0 < length ds → Kind ds → Least ds (least_in_turn ds)
  some-least [] h K = absurd (not-suc-le-zero h)
  some-least (d ∷ r) h K = in_turn_least d r K

pub least-unique : (k : Bool) (ds : List Float) → Kind k ds → ((j : ℕ) → j < length ds → T (fits binary32 (entry ds j))) → (a b : Float) → Least ds a → Least ds b → a ≡ b
least-unique k ds K F a b p q =
    let ka : T (kind k a) = subst (λ (x : Float). T (kind k x)) p.here (K p.place p.inside) in
    let kb : T (kind k b) = subst (λ (x : Float). T (kind k x)) q.here (K q.place q.inside) in
    let fa : T (fits binary32 a) = subst (λ (x : Float). T (fits binary32 x)) p.here (F p.place p.inside) in
    let fb : T (fits binary32 b) = subst (λ (x : Float). T (fits binary32 x)) q.here (F q.place q.inside) in
    kind_antisymm k a b ka kb fa fb (subst (λ (x : Float). T (not (lt x b))) p.here (q.none_less_lem p.place p.inside))
    (subst (λ (x : Float). T (not (lt x a))) q.here (p.none_less_lem q.place q.inside))

-- ---- the first entry that no entry is less than
none_less_of : (ds : List Float) (m : Float) → ((j : ℕ) → j < length ds → T (not (lt (entry ds j) m))) → T (none_less ds m)
none_less_of [] m h = tt
none_less_of (d ∷ ds) m h = and_i (not (lt d m)) (none_less ds m) (h 0 (zero-lt-suc (length ds))) (none_less_of ds m (λ j l. h (suc j) (suc-le-suc l)))

none-less-at : (ds : List Float) (m : Float) → T (none_less ds m) → (j : ℕ) → j < length ds → T (not (lt (entry ds j) m))
none-less-at [] m t j l = absurd (not-suc-le-zero l)
none-less-at (d ∷ ds) m t zero l = and_l (not (lt d m)) (none_less ds m) t
none-less-at (d ∷ ds) m t (suc j) l = none-less-at ds m (and_r (not (lt d m)) (none_less ds m) t) j (le_of_suc-le-suc l)

-- an entry that passes a test
record Passes (test : Float → Bool) (ds : List Float) (m : Float) : Type 0 where
  pub place : ℕ
  pub inside : place < length ds
  pub here : entry ds place ≡ m
  pub passes : T (test m)

module _ (test : Float → Bool) where
  found-by : (d : Float) (ds : List Float) (b : Bool) → test d ≡ b → (test d ≡ false → Passes test ds (first_that test ds)) → Passes test (d ∷ ds) (cond b d (first_that test ds))
  found-by d ds true e f = record { place = 0; inside = zero-lt-suc (length ds); here = refl; passes = subst T (sym e) tt }
  found-by d ds false e f = let r = f e in record { place = suc r.place; inside = suc-le-suc r.inside; here = r.here; passes = r.passes }

  found : (ds : List Float) (j : ℕ) → j < length ds → T (test (entry ds j)) → Passes test ds (first_that test ds)
  found [] j l t = absurd (not-suc-le-zero l)
  found (d ∷ ds) zero l t = found-by d ds (test d) refl (λ e. absurd (subst T e t))
  found (d ∷ ds) (suc j) l t = found-by d ds (test d) refl (λ e. found ds j (le_of_suc-le-suc l) t)

-- where there is a least, that is one
pub least_is_least : (ds : List Float) (m : Float) → Least ds m → Least ds (least ds)
unfolding least
least_is_least ds m L =
    let none = none_less_of ds m L.none_less_lem in
    let r = found (none_less ds) ds L.place L.inside (subst (λ (x : Float). T (none_less ds x)) (sym L.here) none) in
    record { none_less_lem = none-less-at ds (first_that (none_less ds) ds) r.passes; place = r.place; inside = r.inside; here = r.here }

-- and it is what the code takes
pub in_turn_is_least : (k : Bool) (ds : List Float) → 0 < length ds → Kind k ds → ((j : ℕ) → j < length ds → T (fits binary32 (entry ds j))) → least_in_turn ds ≡ least ds
in_turn_is_least k ds h K F =
    let L = some-least k ds h K in least-unique k ds K F (least_in_turn ds) (least ds) L (least_is_least ds (least_in_turn ds) L)

-- the least of entries that are all the same
pub same-least : (v : Float) (ds : List Float) → 0 < length ds → ((j : ℕ) → j < length ds → entry ds j ≡ v) → least ds ≡ v
same-least v ds h e =
    let none : (j : ℕ) → j < length ds → T (not (lt (entry ds j) v)) = λ j l. subst (λ (y : Float). T (not (lt y v))) (sym (e j l)) (float_lt_irrefl v) in
    let L = least_is_least ds v record { none_less_lem = none; place = 0; inside = h; here = e 0 h } in sym L.here ∙ e L.place L.inside
