-- Document 02, E12: three wrong bits may be read as another word. The example: the information of 53 zeros is sent,
-- the places 50, 52 and 63 of its codeword are received wrong, and the decoder gives the information with places 42,
-- 50 and 52 set, whose codeword is two places away. Assumes nothing.
use mathlib.Core.Path.{◌≡◌, refl, ap}
use mathlib.Core.List.{List, [], ◌∷◌, ◌++◌}
use Prim.Native.Nat.{ℕ, ◌≤◌}
use native.Mathlib.Omega.{arith}
use lib.ListN.{length, replicate, get_or}
use Rattle.ground.specs.Refusal.{ACCEPTED}
use Rattle.ground.specs.Answer.{written}
use Rattle.ground.specs.Bits.{Bits}
use Rattle.ground.proofs.Bits.{zeros-bits, bits-append}
use Rattle.bch.specs.Polynomial.{division_step}
use Rattle.bch.specs.Code.{encode, distance}
use Rattle.bch.specs.Promise.{Decoded, decoded, Decodes}
use Rattle.bch.proofs.Determined.{corrects}

-- the information that is sent, and another: places 42, 50 and 52 set
abbrev pub sent : List ℕ
sent = replicate 53 0

abbrev pub other : List ℕ
other = replicate 42 0 ++ 1 ∷ 0 ∷ 0 ∷ 0 ∷ 0 ∷ 0 ∷ 0 ∷ 0 ∷ 1 ∷ 0 ∷ 1 ∷ []

-- the codeword of the first with the places 50, 52 and 63 wrong
abbrev pub received : List ℕ
received = replicate 50 0 ++ 1 ∷ 0 ∷ 1 ∷ 0 ∷ 0 ∷ 0 ∷ 0 ∷ 0 ∷ 0 ∷ 0 ∷ 0 ∷ 0 ∷ 0 ∷ 1 ∷ 0 ∷ 0 ∷ 0 ∷ []

other-bits : Bits other
other-bits = bits-append (replicate 42 0) (1 ∷ 0 ∷ 0 ∷ 0 ∷ 0 ∷ 0 ∷ 0 ∷ 0 ∷ 1 ∷ 0 ∷ 1 ∷ []) (zeros-bits 42) (omega arith)

received-bits : Bits received
received-bits =
    bits-append (replicate 50 0) (1 ∷ 0 ∷ 1 ∷ 0 ∷ 0 ∷ 0 ∷ 0 ∷ 0 ∷ 0 ∷ 0 ∷ 0 ∷ 0 ∷ 0 ∷ 1 ∷ 0 ∷ 0 ∷ 0 ∷ []) (zeros-bits 50) (omega arith)

pub three_wrong : distance (encode sent) received ≡ 3
unfolding division_step
three_wrong = refl

pub two_from_another : distance (encode other) received ≡ 2
unfolding division_step
two_from_another = refl

pub is_another : other ≡ sent → ⊥
is_another e = let h : ◌≡◌ {A = ℕ} 1 0 = ap (λ (l : List ℕ). get_or l 42 0) e in omega arith

-- what meets the decoder's promise accepts the received bits, and gives the other information
pub three_wrong_read_as_another : (o a : List ℕ) (r : Decoded) → 53 ≤ length o → Decodes received o r a
    → (r ≡ decoded ACCEPTED (42 ∷ 66 ∷ [])) × (a ≡ written other o)
unfolding division_step
three_wrong_read_as_another o a r room h =
    corrects received o a r received-bits refl room h other other-bits refl (omega (arith, two_from_another))
