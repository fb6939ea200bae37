-- The order `<` of magnitudes, which are the floats that are no NaN and not negative, and of NaNs alone.
-- Assumes nothing.
use Prim.Native.Nat.{ℕ, ◌*◌, ◌≤◌, ◌<◌}
use native.Mathlib.Nat.{le_trans, le_of_eq, lt_of_lt_of_le, lt_of_le_of_lt, mul_right_comm, mul-le-mul_right, mul-lt-mul_of_pos_right, le_of_lt, lt_of_mul-lt-mul_right, lt_irrefl, le_antisymm}
use mathlib.Core.Path.{◌≡◌, refl}
use mathlib.Core.Bool.{true, Bool, false, not}
use lib.Ieee.{Float, binary32, nan, inf, fin, up, down, lt, is_nan, fits}
use lib.Dec.{T, ltb, ltb→lt, not_T, lt→ltb, nltb→le}
use lib.Ieee.Fits.{down_pos}
use Rattle.gray.proofs.Ieee.Values.{same-value}

-- a magnitude: no NaN, and not negative
abbrev pub magnitude : Float → Bool
magnitude nan = false
magnitude (inf s) = not s
magnitude (fin s m e) = not s

-- a / p < b / q, and not c / r < b / q
fraction_lt_of_lt_of_le : (a b c p q r : ℕ) → 0 < r → a * q < b * p → b * r ≤ c * q → a * r < c * p
fraction_lt_of_lt_of_le a b c p q r R h k =
    lt_of_mul-lt-mul_right q
    (lt_of_le_of_lt (le_of_eq (mul_right_comm a r q))
    (lt_of_lt_of_le (mul-lt-mul_of_pos_right h R)
    (le_trans (le_of_eq (mul_right_comm b p r))
    (le_trans (mul-le-mul_right p k) (le_of_eq (mul_right_comm c q p))))))

magnitude_lt_of_lt_of_le : (a b c : Float) → T (magnitude a) → T (magnitude b) → T (magnitude c) → T (lt a b) → T (not (lt c b)) → T (lt a c)
unfolding lt
magnitude_lt_of_lt_of_le nan b c p q r h k = absurd p
magnitude_lt_of_lt_of_le (inf true) b c p q r h k = absurd p
magnitude_lt_of_lt_of_le (inf false) nan c p q r h k = absurd q
magnitude_lt_of_lt_of_le (inf false) (inf t) c p q r h k = absurd h
magnitude_lt_of_lt_of_le (inf false) (fin t n d) c p q r h k = absurd h
magnitude_lt_of_lt_of_le (fin true m e) b c p q r h k = absurd p
magnitude_lt_of_lt_of_le (fin false m e) nan c p q r h k = absurd q
magnitude_lt_of_lt_of_le (fin false m e) (inf true) c p q r h k = absurd q
magnitude_lt_of_lt_of_le (fin false m e) (inf false) nan p q r h k = absurd r
magnitude_lt_of_lt_of_le (fin false m e) (inf false) (inf true) p q r h k = absurd r
magnitude_lt_of_lt_of_le (fin false m e) (inf false) (inf false) p q r h k = tt
magnitude_lt_of_lt_of_le (fin false m e) (inf false) (fin true l g) p q r h k = absurd r
magnitude_lt_of_lt_of_le (fin false m e) (inf false) (fin false l g) p q r h k = absurd k
magnitude_lt_of_lt_of_le (fin false m e) (fin true n d) c p q r h k = absurd q
magnitude_lt_of_lt_of_le (fin false m e) (fin false n d) nan p q r h k = absurd r
magnitude_lt_of_lt_of_le (fin false m e) (fin false n d) (inf true) p q r h k = absurd r
magnitude_lt_of_lt_of_le (fin false m e) (fin false n d) (inf false) p q r h k = tt
magnitude_lt_of_lt_of_le (fin false m e) (fin false n d) (fin true l g) p q r h k = absurd r
magnitude_lt_of_lt_of_le (fin false m e) (fin false n d) (fin false l g) p q r h k =
    lt→ltb (m * up e * down g) (l * up g * down e)
    (fraction_lt_of_lt_of_le (m * up e) (n * up d) (l * up g) (down e) (down d) (down g) (down_pos g) (ltb→lt (m * up e * down d) (n * up d * down e) h) (nltb→le (l * up g * down d) (n * up d * down g) k))

magnitude_lt_asymm : (a b : Float) → T (magnitude a) → T (magnitude b) → T (lt a b) → T (not (lt b a))
unfolding lt
magnitude_lt_asymm nan b p q h = absurd p
magnitude_lt_asymm (inf true) b p q h = absurd p
magnitude_lt_asymm (inf false) nan p q h = absurd q
magnitude_lt_asymm (inf false) (inf t) p q h = absurd h
magnitude_lt_asymm (inf false) (fin t n d) p q h = absurd h
magnitude_lt_asymm (fin true m e) b p q h = absurd p
magnitude_lt_asymm (fin false m e) nan p q h = absurd q
magnitude_lt_asymm (fin false m e) (inf true) p q h = absurd q
magnitude_lt_asymm (fin false m e) (inf false) p q h = tt
magnitude_lt_asymm (fin false m e) (fin true n d) p q h = absurd q
magnitude_lt_asymm (fin false m e) (fin false n d) p q h =
    not_T (ltb (n * up d * down e) (m * up e * down d))
    (λ t. lt_irrefl _ (lt_of_lt_of_le (ltb→lt (m * up e * down d) (n * up d * down e) h) (le_of_lt (ltb→lt (n * up d * down e) (m * up e * down d) t))))

pub float_lt_irrefl : (a : Float) → T (not (lt a a))
unfolding lt
float_lt_irrefl nan = tt
float_lt_irrefl (inf true) = tt
float_lt_irrefl (inf false) = tt
float_lt_irrefl (fin true m e) = not_T (ltb (m * up e * down e) (m * up e * down e)) (λ t. lt_irrefl _ (ltb→lt (m * up e * down e) (m * up e * down e) t))
float_lt_irrefl (fin false m e) = not_T (ltb (m * up e * down e) (m * up e * down e)) (λ t. lt_irrefl _ (ltb→lt (m * up e * down e) (m * up e * down e) t))

-- ---- of one kind: all magnitudes, or all NaN
abbrev pub kind : Bool → Float → Bool
kind true a = magnitude a
kind false a = is_nan a

nan_not_lt : {A : Type 0} (a b : Float) → T (is_nan a) → T (lt a b) → A
unfolding lt is_nan
nan_not_lt nan b p h = absurd h
nan_not_lt (inf s) b p h = absurd p
nan_not_lt (fin s m e) b p h = absurd p

pub kind_lt_of_lt_of_le : (k : Bool) (a b c : Float) → T (kind k a) → T (kind k b) → T (kind k c) → T (lt a b) → T (not (lt c b)) → T (lt a c)
kind_lt_of_lt_of_le true a b c p q r h n = magnitude_lt_of_lt_of_le a b c p q r h n
kind_lt_of_lt_of_le false a b c p q r h n = nan_not_lt a b p h

pub kind_lt_asymm : (k : Bool) (a b : Float) → T (kind k a) → T (kind k b) → T (lt a b) → T (not (lt b a))
kind_lt_asymm true a b p q h = magnitude_lt_asymm a b p q h
kind_lt_asymm false a b p q h = nan_not_lt a b p h

-- of two f32 of one kind neither is less only where they are equal
pub kind_antisymm : (k : Bool) (a b : Float) → T (kind k a) → T (kind k b) → T (fits binary32 a) → T (fits binary32 b) → T (not (lt a b)) → T (not (lt b a)) → a ≡ b
unfolding lt is_nan
kind_antisymm false nan nan p q f g h l = refl
kind_antisymm false nan (inf t) p q f g h l = absurd q
kind_antisymm false nan (fin t n d) p q f g h l = absurd q
kind_antisymm false (inf s) b p q f g h l = absurd p
kind_antisymm false (fin s m e) b p q f g h l = absurd p
kind_antisymm true nan b p q f g h l = absurd p
kind_antisymm true (inf true) b p q f g h l = absurd p
kind_antisymm true (inf false) nan p q f g h l = absurd q
kind_antisymm true (inf false) (inf true) p q f g h l = absurd q
kind_antisymm true (inf false) (inf false) p q f g h l = refl
kind_antisymm true (inf false) (fin true n d) p q f g h l = absurd q
kind_antisymm true (inf false) (fin false n d) p q f g h l = absurd l
kind_antisymm true (fin true m e) b p q f g h l = absurd p
kind_antisymm true (fin false m e) nan p q f g h l = absurd q
kind_antisymm true (fin false m e) (inf true) p q f g h l = absurd q
kind_antisymm true (fin false m e) (inf false) p q f g h l = absurd h
kind_antisymm true (fin false m e) (fin true n d) p q f g h l = absurd q
kind_antisymm true (fin false m e) (fin false n d) p q f g h l =
    same-value m n e d f g (le_antisymm (nltb→le (n * up d * down e) (m * up e * down d) l) (nltb→le (m * up e * down d) (n * up d * down e) h))
