-- Each refusal of a call is given exactly where its test holds and none before it; and an accepted demapping answers how
-- many bits it writes. Assumes nothing.
use Prim.Native.Nat.{ℕ, ◌<◌}
use mathlib.Core.Path.{◌≡◌, refl}
use mathlib.Core.Bool.{not}
use mathlib.Core.List.{List, [], ◌∷◌}
use mathlib.Core.Logic.Iff
use mathlib.Core.Logic.{◌⊎◌, inl, inr, ◌↔◌}
use lib.ListN.{length}
use Rattle.ground.specs.Answer.{count_of, short}
use Rattle.ground.specs.Bits.{Bits, are_bits}
use Rattle.ground.specs.Refusal.{ACCEPTED, LENGTH, NOT_A_BIT, OUTPUT_SHORT, ◌gives◌}
use Rattle.ground.proofs.Exactly.{Decides, equal_decides, bits_decide, not_decides, either_decides, given-here, given-behind, fill_short_exactly}
use Rattle.gray.specs.Levels.{is_size, order_of}
use Rattle.gray.specs.Mapping.{map_no}
use Rattle.gray.specs.Hard.{bits_of, demap_no, demap_answer}
use Rattle.gray.specs.Soft.{soft_no}

-- a size of a group, and another number
abbrev pub Size : ℕ → Type 0
Size v = (v ≡ 2) ⊎ ((v ≡ 4) ⊎ (v ≡ 6))

abbrev pub NoSize : ℕ → Type 0
NoSize v = (v ≡ 2 → ⊥) × ((v ≡ 4 → ⊥) × (v ≡ 6 → ⊥))

other-size : (v : ℕ) → Decides (not (is_size v)) (NoSize v) (Size v)
other-size v = not_decides (either_decides (equal_decides v 2) (either_decides (equal_decides v 4) (equal_decides v 6)))

bits_of_size : (v i q : ℕ) → Size v → v ≡ length (bits_of (order_of v) i q)
bits_of_size v i q (inl e) = rw e refl
bits_of_size v i q (inr (inl e)) = rw e refl
bits_of_size v i q (inr (inr e)) = rw e refl

pub soft_length_exactly : (v : ℕ) → (soft_no v ≡ LENGTH) ↔ NoSize v
soft_length_exactly v = given-here LENGTH [] (other-size v) tt

module _ (bits : List ℕ) where
  pub map_length_exactly : (map_no bits ≡ LENGTH) ↔ NoSize (length bits)
  map_length_exactly = given-here LENGTH (not (are_bits bits) gives NOT_A_BIT ∷ []) (other-size (length bits)) tt

  pub map_bit_exactly : (map_no bits ≡ NOT_A_BIT) ↔ (Size (length bits) × (Bits bits → ⊥))
  map_bit_exactly =
      given-behind LENGTH NOT_A_BIT (not (are_bits bits) gives NOT_A_BIT ∷ []) (other-size (length bits)) tt
      (λ size. given-here NOT_A_BIT [] (not_decides (bits_decide bits)) tt)

module _ (v : ℕ) (out : List ℕ) where
  pub demap_length_exactly : (demap_no v out ≡ LENGTH) ↔ NoSize v
  demap_length_exactly = given-here LENGTH (short v out gives OUTPUT_SHORT ∷ []) (other-size v) tt

  pub demap_short_exactly : (demap_no v out ≡ OUTPUT_SHORT) ↔ (Size v × (length out < v))
  demap_short_exactly = given-behind LENGTH OUTPUT_SHORT (short v out gives OUTPUT_SHORT ∷ []) (other-size v) tt (λ size. fill_short_exactly v out)

  -- the bits answered are those of the two indices
  pub demap_answers_length : demap_no v out ≡ ACCEPTED → (i q : ℕ) → count_of (demap_answer v out) ≡ length (bits_of (order_of v) i q)
  demap_answers_length a i q = rw a (bits_of_size v i q ((given-behind LENGTH ACCEPTED (short v out gives OUTPUT_SHORT ∷ []) (other-size v) tt (λ size. Iff.rfl)).0 a).0)
