-- Interleaving has one result, and so has deinterleaving; so each undoes the other. For any mode that has its facts. Assumes nothing.
use mathlib.Core.Path.{◌≡◌, sym, ap, ◌∙◌}
use mathlib.Core.List.{List}
use Prim.Native.Nat.{ℕ, zero, suc, ◌*◌, ◌%◌, ◌≤◌}
use native.Mathlib.Omega.{arith}
use lib.Ieee.{Float}
use lib.ListN.{length, take}
use Rattle.ground.specs.Answer.{kept}
use Rattle.ground.specs.Cells.{cell_at}
use Rattle.ground.specs.Refusal.{ACCEPTED}
use Rattle.interleaver.specs.Permutation.{Interleaver}
use Rattle.interleaver.specs.Interleaving.{by_parity, Wrote, AtPlaces, Interleaved, Deinterleaved, reorder_no, Interleaves, Deinterleaves}
use Rattle.interleaver.proofs.Cells.{SameCells, same-front}
use Rattle.interleaver.proofs.Facts.{Facts, each_place_once}
use Rattle.interleaver.proofs.Parity.{Unlike, other-parity}
use Rattle.interleaver.proofs.Calls.{accepted_exactly, accepted_does}

module _ (m : Interleaver) (f : Facts m) where
  -- cells that stand at the same places are the same
  same_source : (a b y : List Float) → AtPlaces m a y → AtPlaces m b y → SameCells m.places a b
  same_source a b y g h q l = sym (g q l) ∙ h q l

  -- and the same cells stand at all places, since each place is a cell's
  same_image : (x a b : List Float) → AtPlaces m x a → AtPlaces m x b → SameCells m.places a b
  same_image x a b g h p l =
      let once = each_place_once m f p l in
      ap (cell_at a) (sym once.there) ∙ g once.at once.within ∙ sym (h once.at once.within) ∙ ap (cell_at b) once.there

  pub interleaved_once : (s : ℕ) (x a b : List Float) → Interleaved m s x a → Interleaved m s x b → SameCells m.places a b
  interleaved_once s x a b = by (s % 2)
    where
      by : (k : ℕ) → by_parity k (AtPlaces m x a) (AtPlaces m a x) → by_parity k (AtPlaces m x b) (AtPlaces m b x) → SameCells m.places a b
      by zero g h = same_image x a b g h
      by (suc k) g h = same_source a b x g h

  -- deinterleaving is interleaving of the other parity
  pub deinterleaved_once : (s : ℕ) (x a b : List Float) → Deinterleaved m s x a → Deinterleaved m s x b → SameCells m.places a b
  deinterleaved_once s x a b g h =
      interleaved_once (suc s) x a b ((other-parity m (suc s) s x a (omega arith)).1 g) ((other-parity m (suc s) s x b (omega arith)).1 h)

  -- ---- going round gives the cells back

  pub deinterleave_undoes : (s : ℕ) (x y z : List Float) → Interleaved m s x y → Deinterleaved m s y z → SameCells m.places z x
  deinterleave_undoes s x y z g h = deinterleaved_once s y z x h g

  pub interleave_undoes : (s : ℕ) (x y z : List Float) → Deinterleaved m s x y → Interleaved m s y z → SameCells m.places z x
  interleave_undoes s x y z g h = interleaved_once s y z x h g

  -- and so does interleaving once more as a symbol of the other parity
  pub even_odd_undo : (s t : ℕ) (x y z : List Float) → Unlike s t → Interleaved m s x y → Interleaved m t y z → SameCells m.places z x
  even_odd_undo s t x y z u g h = deinterleave_undoes s x y z g ((other-parity m t s y z (omega arith)).0 h)

  -- the same over the calls: where there is room the second is accepted, and leaves the first one's cells at its output's front
  module _ (s : ℕ) (x old y old' z : List Float) (enough : 2 * m.places ≤ length x) (room : 2 * m.places ≤ length old)
      (room' : 2 * m.places ≤ length old') where
    second-accepted : length y ≡ length old → reorder_no m y old' ≡ ACCEPTED
    second-accepted e = (accepted_exactly m y old').1 (omega arith, room')

    back : (P Q : List Float → Type 0) → (P y → Q z → SameCells m.places z x) → kept (reorder_no m x old) (Wrote m.places P old y) (y ≡ old)
        → kept (reorder_no m y old') (Wrote m.places Q old' z) (z ≡ old')
        → (reorder_no m y old' ≡ ACCEPTED) × (take (2 * m.places) z ≡ take (2 * m.places) x)
    back P Q undoes first second =
        let w : Wrote m.places P old y =
        accepted_does (Wrote m.places P old y) old y (reorder_no m x old) ((accepted_exactly m x old).1 (enough, room)) first in
        let accepted = second-accepted w.long in
        let v : Wrote m.places Q old' z = accepted_does (Wrote m.places Q old' z) old' z (reorder_no m y old') accepted second in
        (accepted, same-front m.places z x (undoes w.cells v.cells) (omega (arith, v.long)) enough)

    pub calls_deinterleave : Interleaves m s x old y → Deinterleaves m s y old' z
        → (reorder_no m y old' ≡ ACCEPTED) × (take (2 * m.places) z ≡ take (2 * m.places) x)
    calls_deinterleave = back (Interleaved m s x) (Deinterleaved m s y) (deinterleave_undoes s x y z)

    pub calls_interleave : Deinterleaves m s x old y → Interleaves m s y old' z
        → (reorder_no m y old' ≡ ACCEPTED) × (take (2 * m.places) z ≡ take (2 * m.places) x)
    calls_interleave = back (Deinterleaved m s x) (Interleaved m s y) (interleave_undoes s x y z)
