-- A table of numbers whose entries `map` names by a constructor, one by one: the list is the numbers mapped. Assumes nothing.
use mathlib.Core.Path.{◌≡◌, sym, ap, ◌∙◌}
use mathlib.Core.List.{List, map}
use Prim.Native.Nat.{ℕ}
use native.Mathlib.Omega.{arith}
use lib.ListN.{length, get_or, length-map, get_or-map}
use lib.Seq.{ext_get_or}
use denote.Param.Members.{Mut, Called}
use Rattle.std.specs.Array.{IsMapOf}

pub named : {F A B : Type 0} (g : Mut F (A × Unit {0}) B) (s : F) (f : A → B) (l w : List A) (r : List B) (n : ℕ) (z : A)
    → w ≡ l → length l ≡ n → IsMapOf g s w r n → ((p : F) (x : A) (y : B) (q : F) → Called g p (x, tt) y q → y ≡ f x) → r ≡ map f l
named {A} g s f l w r n z e i m call =
    let j : length w ≡ n = ap length e ∙ i in
    ext_get_or (f z) r (map f w) (omega (arith, m.long, length-map w f))
    (λ k h. let a = m.at k z (f z) (omega (arith, m.long)) in call a.0 (get_or w k z) (get_or r k (f z)) a.1 a.2 ∙ sym (get_or-map f w k z))
    ∙ ap (λ (v : List A). map f v) e
