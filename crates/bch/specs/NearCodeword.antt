-- Document 01, 'TPS': the codeword within distance two of the bits, as a function.
use Rattle.std.specs.Prelude.{Bool, true, false, ◌&&◌, cond, List, [], ◌∷◌, ◌++◌, map, ℕ, zero, suc, ◌-◌, eqb}
use Rattle.std.specs.Prelude.{length, take, Option, Some, None}
use Rattle.ground.specs.Bits.{are_bits}
use Rattle.bch.specs.Code.{remainder_of, places}

-- the bits w, and every list that differs from them in at most k places
unfoldable pub neighbours : ℕ → List ℕ → List (List ℕ)
neighbours zero w = w ∷ []
neighbours (suc k) [] = [] ∷ []
neighbours (suc k) (b ∷ w) = map (λ v. b ∷ v) (neighbours (suc k) w) ++ map (λ v. (1 - b) ∷ v) (neighbours k w)

-- what `Codeword` says, as a test
unfoldable pub is_codeword : List ℕ → Bool
is_codeword w = eqb (length w) 67 && (are_bits w && eqb (remainder_of 0 w) 0)

-- a codeword that was looked for, or none
abbrev pub Near : Type 0
Near = Option (List ℕ)

-- the first codeword of a list
unfoldable pub first_codeword : List (List ℕ) → Near
first_codeword [] = None
first_codeword (w ∷ ws) = cond (is_codeword w) (Some w) (first_codeword ws)

-- the codeword within distance two of the bits w
unfoldable pub near_of : List ℕ → Near
near_of w = first_codeword (neighbours 2 w)

-- there is none
abbrev pub is_none : Near → Bool
is_none (Some c) = false
is_none None = true

-- the places at which the bits w differ from a codeword that was found
abbrev pub places_to : Near → List ℕ → List ℕ
places_to (Some c) w = places 0 c w
places_to None w = []

-- the 53 information bits of a codeword that was found
abbrev pub information_in : Near → List ℕ
information_in (Some c) = take 53 c
information_in None = []
