-- What rounding gives is a magnitude where its sign is clear; so differences from a finite float, and their squares,
-- are of one kind: magnitudes, or NaN. Assumes nothing.
use Prim.Native.Nat.{ℕ, zero, suc, ◌*◌, ◌^◌, ◌+◌, ◌-◌}
use mathlib.Core.Path.{◌≡◌, refl, sym, ap, ◌∙◌, subst}
use mathlib.Core.Bool.{true, Bool, false, not, cond, ◌&&◌, beq}
use lib.Ieee.{Float, binary32, nan, inf, fin, up, down, sub, neg, Format, add, sum, round, units, odd, mul, low, prec, emax, unlike, is_nan}
use lib.Dec.{T, ltb}
use lib.Ieee.Fits.{round_is}
use lib.Ieee.Scale.{finite}
use Rattle.gray.specs.Hard.{abs}
use Rattle.gray.proofs.Ieee.Magnitudes.{kind, magnitude}

-- ---- what rounding gives is a magnitude where its sign is clear, and has the same magnitude whatever its sign
magnitude_cond : (b : Bool) (x y : Float) → T (magnitude x) → T (magnitude y) → T (magnitude (cond b x y))
magnitude_cond true x y h k = h
magnitude_cond false x y h k = k

magnitude-odd : (d q k l : ℕ) → T (magnitude (odd d false q k l))
unfolding odd
magnitude-odd d zero k l = tt
magnitude-odd d (suc q) k l = tt

magnitude-units : (f : Format) (q k : ℕ) → T (magnitude (units f false q k))
unfolding units
magnitude-units f q k = magnitude_cond (ltb (q * 2 ^ k) (2 ^ (low f + suc (emax f)))) (odd (suc (prec f)) false q k (low f)) (inf false) (magnitude-odd (suc (prec f)) q k (low f)) tt

magnitude-round : (f : Format) (a c : ℕ) → T (magnitude (round f false a c))
magnitude-round f a c = subst (λ (v : Float). T (magnitude v)) (sym (round_is f false a c)) (magnitude-units f _ _)

abs-odd : (d : ℕ) (s : Bool) (q k l : ℕ) → abs (odd d s q k l) ≡ odd d false q k l
unfolding odd abs
abs-odd d s zero k l = refl
abs-odd d s (suc q) k l = refl

abs-units : (f : Format) (s : Bool) (q k : ℕ) → abs (units f s q k) ≡ units f false q k
unfolding units abs
abs-units f s q k = go (ltb (q * 2 ^ k) (2 ^ (low f + suc (emax f))))
  where
    go : (t : Bool) → abs (cond t (odd (suc (prec f)) s q k (low f)) (inf s)) ≡ cond t (odd (suc (prec f)) false q k (low f)) (inf false)
    go true = abs-odd (suc (prec f)) s q k (low f)
    go false = refl

pub abs-round : (f : Format) (s : Bool) (a c : ℕ) → abs (round f s a c) ≡ round f false a c
abs-round f s a c = ap abs (round_is f s a c) ∙ abs-units f s _ _ ∙ sym (round_is f false a c)

abs-round-magnitude : (f : Format) (s : Bool) (a c : ℕ) → T (magnitude (abs (round f s a c)))
abs-round-magnitude f s a c = subst (λ (v : Float). T (magnitude v)) (sym (abs-round f s a c)) (magnitude-round f a c)

abs_cond_magnitude : (b : Bool) (x y : Float) → T (magnitude (abs x)) → T (magnitude (abs y)) → T (magnitude (abs (cond b x y)))
abs_cond_magnitude true x y h k = h
abs_cond_magnitude false x y h k = k

abs-sum-magnitude : (f : Format) (s : Bool) (a : ℕ) (t : Bool) (b c : ℕ) → T (magnitude (abs (sum f s a t b c)))
unfolding sum
abs-sum-magnitude f s a t b c =
    abs_cond_magnitude (beq s t) (round f s (a + b) c) (cond (ltb a b) (round f t (b - a) c) (round f (s && ltb b a) (a - b) c)) (abs-round-magnitude f s (a + b) c)
    (abs_cond_magnitude (ltb a b) (round f t (b - a) c) (round f (s && ltb b a) (a - b) c) (abs-round-magnitude f t (b - a) c) (abs-round-magnitude f (s && ltb b a) (a - b) c))

-- ---- a difference from a finite float, and its square
pub difference-kind : (x p : Float) → T (finite p) → T (kind (not (is_nan x)) (abs (sub binary32 x p)))
unfolding sub add neg abs is_nan
difference-kind nan p h = tt
difference-kind (inf s) nan h = absurd h
difference-kind (inf s) (inf t) h = absurd h
difference-kind (inf s) (fin t k d) h = tt
difference-kind (fin s m e) nan h = absurd h
difference-kind (fin s m e) (inf t) h = absurd h
difference-kind (fin s m e) (fin t k d) h = abs-sum-magnitude binary32 s (m * up e * down d) (not t) (k * up d * down e) (down e * down d)

pub unlike_self : (s : Bool) → unlike s s ≡ false
unlike_self true = refl
unlike_self false = refl

pub square-kind : (k : Bool) (d : Float) → T (kind k (abs d)) → T (kind k (mul binary32 d d))
unfolding abs mul is_nan
square-kind true nan h = absurd h
square-kind true (inf s) h = subst (λ (t : Bool). T (not t)) (sym (unlike_self s)) tt
square-kind true (fin s m e) h =
    subst (λ (t : Bool). T (magnitude (round binary32 t (m * up e * (m * up e)) (down e * down e)))) (sym (unlike_self s)) (magnitude-round binary32 (m * up e * (m * up e)) (down e * down e))
square-kind false nan h = tt
square-kind false (inf s) h = absurd h
square-kind false (fin s m e) h = absurd h

pub square_of_abs : (d : Float) → mul binary32 d d ≡ mul binary32 (abs d) (abs d)
unfolding mul abs
square_of_abs nan = refl
square_of_abs (inf s) = ap inf (unlike_self s)
square_of_abs (fin s m e) = ap (λ (t : Bool). round binary32 t (m * up e * (m * up e)) (down e * down e)) (unlike_self s)
