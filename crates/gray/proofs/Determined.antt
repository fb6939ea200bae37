-- Two results that meet the promise of a call are equal, for each call: in hard demapping the first index with the least
-- distance is the only one. And answers that say the same number and values are the same. Assumes nothing.
use Prim.Native.Nat.{ℕ}
use mathlib.Core.Path.{◌≡◌, refl, sym, ◌∙◌, ap₂}
use mathlib.Core.Bool.{cond}
use mathlib.Core.List.{List}
use lib.Dec.{eqb}
use lib.Ieee.{Float, nan}
use lib.ListN.{length, get_or}
use Rattle.std.specs.Prelude.{Option, Some, None, Result, Ok, Err}
use Rattle.ground.specs.declared.Refusal.{Refusal}
use Rattle.ground.specs.Answer.{kept, written}
use Rattle.ground.specs.declared.Cell.{Cell}
use Rattle.ground.specs.declared.ConstellationOrder.{ConstellationOrder}
use Rattle.ground.proofs.Answers.{OneAnswer, one_answer}
use Rattle.gray.specs.declared.Soft.{Soft}
use Rattle.gray.specs.declared.Soft.TheVariants.{Two, Four, Six}
use Rattle.gray.specs.Levels.{order_of}
use Rattle.gray.specs.Mapping.{cell_of, map_number_of, map_coordinates_of, map_answer}
use Rattle.gray.specs.Hard.{distances, bits_of, Wrote, demap_no, Demapped}
use Rattle.gray.specs.Soft.{soft_number_of, soft_values_of, soft_answer}
use Rattle.gray.proofs.Answers.{Demaps}
use Rattle.gray.proofs.Ieee.First.{first-unique}

wrote_determined : (o : ConstellationOrder) (c : Cell) (old a b : List ℕ) → Wrote o c old a → Wrote o c old b → a ≡ b
wrote_determined o c old a b p q =
    p.output
    ∙ ap₂ (λ (i j : ℕ). written (bits_of o i j) old) (first-unique (distances o c.re) p.i q.i p.i_first q.i_first)
    (first-unique (distances o c.im) p.q q.q p.q_first q.q_first)
    ∙ sym q.output

pub demapped_determined : (c : Cell) (v : ℕ) (old a b : List ℕ) → Demapped c v old a → Demapped c v old b → a ≡ b
demapped_determined c v old a b p q = go (demap_no v old) p q
  where
    go : (n : Option Refusal) → kept n (Wrote (order_of v) c old a) (a ≡ old) → kept n (Wrote (order_of v) c old b) (b ≡ old) → a ≡ b
    go None p q = wrote_determined (order_of v) c old a b p q
    go (Some refusal) p q = p ∙ sym q

pub demap_determined : (c : Cell) (v : ℕ) (old : List ℕ) (r q : Result ℕ Refusal) (a b : List ℕ) → Demaps c v old r a → Demaps c v old q b → (r ≡ q) × (a ≡ b)
demap_determined c v old r q a b x y = (x.0 ∙ sym y.0, demapped_determined c v old a b x.1 y.1)

pub map_determined : (bits : List ℕ) → OneAnswer (map_answer bits)
map_determined bits = one_answer (map_answer bits)

pub soft_determined : (c : Cell) (v : ℕ) → OneAnswer (soft_answer c v)
soft_determined c v = one_answer (soft_answer c v)

-- ---- no two answers say the same: each is made again of its number and its values
map_of : Option Refusal → List Float → Result Cell Refusal
map_of None s = Ok (cell_of (get_or s 0 nan) (get_or s 1 nan))
map_of (Some refusal) s = Err refusal

map-made : (r : Result Cell Refusal) → map_of (map_number_of r) (map_coordinates_of r) ≡ r
unfolding map_of
map-made (Ok point) = refl
map-made (Err refusal) = refl

pub map_faithful : (r q : Result Cell Refusal) → map_number_of r ≡ map_number_of q → map_coordinates_of r ≡ map_coordinates_of q → r ≡ q
map_faithful r q e f = sym (map-made r) ∙ ap₂ map_of e f ∙ map-made q

soft_of : Option Refusal → List Float → Result Soft Refusal
soft_of None s =
    let at : ℕ → Float = λ j. get_or s j nan in
    Ok (cond (eqb (length s) 2) (Two (at 0) (at 1))
    (cond (eqb (length s) 4) (Four (at 0) (at 1) (at 2) (at 3)) (Six (at 0) (at 1) (at 2) (at 3) (at 4) (at 5))))
soft_of (Some refusal) s = Err refusal

soft-made : (r : Result Soft Refusal) → soft_of (soft_number_of r) (soft_values_of r) ≡ r
unfolding soft_of
soft-made (Ok (Two a b)) = refl
soft-made (Ok (Four a b c d)) = refl
soft-made (Ok (Six a b c d e f)) = refl
soft-made (Err refusal) = refl

pub soft_faithful : (r q : Result Soft Refusal) → soft_number_of r ≡ soft_number_of q → soft_values_of r ≡ soft_values_of q → r ≡ q
soft_faithful r q e f = sym (soft-made r) ∙ ap₂ soft_of e f ∙ soft-made q
