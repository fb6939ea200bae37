-- Document 01, 'Small facts', (4), (5) and (6). Assumes nothing.
use mathlib.Core.Path.{◌≡◌, refl, ◌∙◌}
use mathlib.Core.List.{List, [], ◌∷◌, ◌++◌}
use Prim.Native.Nat.{ℕ, ◌≤◌}
use native.Mathlib.Omega.{arith}
use lib.ListN.{length, replicate}
use Rattle.ground.specs.Refusal.{NO_WORD}
use Rattle.ground.specs.Bits.{Bits}
use Rattle.ground.proofs.Bits.{zeros-bits, bits-append}
use Rattle.bch.specs.Polynomial.{division_step}
use Rattle.bch.specs.Code.{remainder_of, parity, Lone}
use Rattle.bch.specs.Field.{times_x, syndrome1}
use Rattle.bch.specs.Promise.{Decoded, decoded, Decodes}
use Rattle.bch.proofs.Pattern.{zero_syndrome_no_pattern}
use Rattle.bch.proofs.Flipped.{no_pattern_lone}
use Rattle.bch.proofs.Determined.{refuses}

-- (4) zero information has zero parity
pub zero_parity : parity (replicate 53 0) ≡ 0
unfolding division_step
zero_parity = refl

-- (5) information with only s53 set has parity 0x0377
pub last-parity : parity (replicate 52 0 ++ 1 ∷ []) ≡ 0x0377
unfolding division_step
last-parity = refl

-- the bits with only the degrees 7, 3 and 0 set
abbrev pub three : List ℕ
three = replicate 59 0 ++ 1 ∷ 0 ∷ 0 ∷ 0 ∷ 1 ∷ 0 ∷ 0 ∷ 1 ∷ []

three_remainder : remainder_of 0 three ≡ 0x89
unfolding division_step
three_remainder = refl

three-bits : Bits three
three-bits = bits-append (replicate 59 0) (1 ∷ 0 ∷ 0 ∷ 0 ∷ 1 ∷ 0 ∷ 0 ∷ 1 ∷ []) (zeros-bits 59) (omega arith)

three-syndrome1 : syndrome1 0x89 ≡ 0
unfolding division_step times_x syndrome1
three-syndrome1 = refl

pub three_lone : Lone three
three_lone = no_pattern_lone three three-bits refl (λ ps i l e. zero_syndrome_no_pattern 0x89 three-syndrome1 (omega arith) ps i l (e ∙ three_remainder))

-- (6) bits with only the degrees 7, 3 and 0 set are NO WORD
pub three-no-word : (o a : List ℕ) (r : Decoded) → 53 ≤ length o → Decodes three o r a → (r ≡ decoded NO_WORD []) × (a ≡ o)
three-no-word o a r room h = refuses three o a r three-bits refl room h three_lone
