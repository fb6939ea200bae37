-- The reserved carriers of a phase in rising order, in any mode: the walk along them gives the rule's data carriers, the two are all actives, a list
-- that passes two tests is theirs, and without TPS it is the rule's reference pilots. Assumes nothing.
use mathlib.Core.Path.{◌≡◌, refl, sym, ap, ◌∙◌}
use mathlib.Core.Bool.{Bool, true, false, not, ◌&&◌, ◌||◌, not-not}
use mathlib.Core.List.{List, map}
use Prim.Native.Nat.{ℕ, ◌+◌, ◌<◌}
use native.Mathlib.Omega.{arith}
use lib.ListN.{length}
use Rattle.carriers.specs.Mode.{Mode}
use Rattle.carriers.specs.Count.{bin_of}
use Rattle.carriers.specs.Carriers.{among, is_scattered, is_pilot, is_data, is_reference, data_actives, reference_actives, data_bins}
use Rattle.carriers.specs.Reserved.{Rises, gaps, without, reserved_rising, data_walk}
use Rattle.carriers.proofs.Chosen.{among-chosen}
use Rattle.carriers.proofs.Rising.{walk_is_chosen, list_is_chosen, chosen-rises, chosen-or-left}
use Rattle.carriers.proofs.Made.{rises, made, rises-holds, made_members, without-rises, without_members}
use Rattle.carriers.proofs.Spaced.{spaced, spaced-among}

module _ (m : Mode) (p : ℕ) where
  reserved-rises : Rises 0 m.actives (reserved_rising m p)
  unfolding reserved_rising
  reserved-rises = chosen-rises (λ a. not (is_data m p a)) m.actives 0 m.actives (omega arith)

  reserved-among : (a : ℕ) → a < m.actives → among a (reserved_rising m p) ≡ not (is_data m p a)
  unfolding reserved_rising
  reserved-among a h = among-chosen (λ a. not (is_data m p a)) m.actives 0 a (omega arith) (omega arith)

  -- the walk along them is the paper's rule
  pub walk_is_data : data_walk m p ≡ data_actives m p
  unfolding data_walk data_actives
  walk_is_data =
      walk_is_chosen (is_data m p) m.actives 0 m.actives (reserved_rising m p) (omega arith) reserved-rises
      (λ a g a<. sym (ap not (reserved-among a a<) ∙ not-not (is_data m p a)))

  pub data-and-reserved : length (data_actives m p) + length (reserved_rising m p) ≡ m.actives
  unfolding data_actives reserved_rising
  data-and-reserved = chosen-or-left (is_data m p) m.actives 0

-- ---- a list that rises and is made of TPS, continual and scattered carriers

not-tps : (t p : Bool) → not (not (t || p)) && not t ≡ p && not t
not-tps true true = refl
not-tps true false = refl
not-tps false true = refl
not-tps false false = refl

module _ (m : Mode) (p : ℕ) (h : p < 4) (l : List ℕ) (r : rises 0 m.actives l ≡ true) (e : made l m.tps m.continual (spaced m p) ≡ true) where
  row_members : (a : ℕ) → a < m.actives → among a l ≡ not (is_data m p a)
  unfolding is_data is_pilot
  row_members a a< =
      made_members l m.tps m.continual (spaced m p) a e
      ∙ ap (λ (b : Bool). among a m.tps || (among a m.continual || b)) (spaced-among m p h a a<)
      ∙ sym (not-not (among a m.tps || (among a m.continual || is_scattered p a)))

  pub row_is_reserved : l ≡ reserved_rising m p
  unfolding reserved_rising
  row_is_reserved =
      list_is_chosen (λ a. not (is_data m p a)) m.actives 0 m.actives l (omega arith) (rises-holds l 0 m.actives r) (λ a g a<. sym (row_members a a<))

  -- the data bins of the phase, by the walk along it
  pub row-data : map (bin_of m) (gaps 0 l m.actives) ≡ data_bins m p
  unfolding data_bins data_walk
  row-data = ap (λ (x : List ℕ). map (bin_of m) (gaps 0 x m.actives)) row_is_reserved ∙ ap (map (bin_of m)) (walk_is_data m p)

  -- the reference pilots of the phase, by the walk along it and the TPS carriers
  pub row_reference : without l m.tps ≡ reference_actives m p
  unfolding reference_actives is_reference is_data
  row_reference =
      list_is_chosen (is_reference m p) m.actives 0 m.actives (without l m.tps) (omega arith)
      (without-rises l m.tps 0 m.actives (rises-holds l 0 m.actives r))
      (λ a g a<. sym (without_members l m.tps m.continual (spaced m p) 0 m.actives a e (rises-holds l 0 m.actives r)
      ∙ ap (λ (b : Bool). b && not (among a m.tps)) (row_members a a<)
      ∙ not-tps (among a m.tps) (is_pilot m p a)))
