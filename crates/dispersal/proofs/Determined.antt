-- Two results that meet the promise of a call are equal, for each call; OUTPUT SHORT is given exactly where the output is
-- the shorter; and the bytes answered are the length of what is written. Assumes nothing.
use Prim.Native.Nat.{ℕ, ◌<◌}
use mathlib.Core.Path.{◌≡◌, sym, ap, ◌∙◌}
use mathlib.Core.List.{List}
use mathlib.Core.Logic.{◌↔◌}
use lib.ListN.{length, take}
use Rattle.ground.specs.Answer.{count_of}
use Rattle.ground.specs.Refusal.{ACCEPTED, OUTPUT_SHORT}
use Rattle.ground.proofs.Answers.{OneResult, one-result, answered}
use Rattle.ground.proofs.Exactly.{fill_short_exactly}
use Rattle.dispersal.specs.declared.DvbTEnergyDispersal.{DvbTEnergyDispersal}
use Rattle.dispersal.specs.Register.{start, steps}
use Rattle.dispersal.proofs.Whitening.{whitened-length}
use Rattle.dispersal.specs.Whitener.{register_of, feed_in_place_answer, feed_in_place_leaves, feed_no, feed_answer, feed_leaves}

-- a whitener is known by its register
by_register : (reg : ℕ) (a b : DvbTEnergyDispersal) → a.reg ≡ reg → b.reg ≡ reg → a ≡ b
by_register reg a b x y = ap (λ (r : ℕ). record { reg = r }) (x ∙ sym y)

pub new_determined : (a b : DvbTEnergyDispersal) → a.reg ≡ start → b.reg ≡ start → a ≡ b
new_determined = by_register start

pub reset_determined : (a b : DvbTEnergyDispersal) → a.reg ≡ start → b.reg ≡ start → a ≡ b
reset_determined = by_register start

pub advance_byte_determined : (d a b : DvbTEnergyDispersal) → a.reg ≡ steps 8 (register_of d) → b.reg ≡ steps 8 (register_of d) → a ≡ b
advance_byte_determined d = by_register (steps 8 (register_of d))

pub feed_in_place_determined : (d : DvbTEnergyDispersal) (bytes : List ℕ) → OneResult (feed_in_place_answer d bytes) (feed_in_place_leaves d bytes)
feed_in_place_determined d bytes = one-result (feed_in_place_answer d bytes) (feed_in_place_leaves d bytes)

pub feed_determined : (d : DvbTEnergyDispersal) (bytes out : List ℕ) → OneResult (feed_answer d bytes out) (feed_leaves d bytes out)
feed_determined d bytes out = one-result (feed_answer d bytes out) (feed_leaves d bytes out)

pub feed_short_exactly : (bytes out : List ℕ) → (feed_no bytes out ≡ OUTPUT_SHORT) ↔ (length out < length bytes)
feed_short_exactly bytes out = fill_short_exactly (length bytes) out

pub feed-answers-length : (d : DvbTEnergyDispersal) (bytes out : List ℕ) → feed_no bytes out ≡ ACCEPTED
    → let n = count_of (feed_answer d bytes out).answer in
    (n ≡ length (feed_in_place_leaves d bytes)) × (take n (feed_leaves d bytes out) ≡ feed_in_place_leaves d bytes)
feed-answers-length d bytes out a = answered (feed_no bytes out) (length bytes) (feed_in_place_leaves d bytes) out a (whitened-length (register_of d) bytes)
