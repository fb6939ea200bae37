-- The decoders' searches, which the functions of the modules `search` and `slow` promise: what changed places add to
-- the remainder, the search for the locator's roots, and the bits with the places flipped. No public promise cites
-- this file.
use Rattle.std.specs.Prelude.{◌≡◌, List, [], ◌∷◌, ℕ, zero, suc, ◌-◌, ◌^◌, ◌≤◌, ◌<◌, length, set, get_or}
use Rattle.std.specs.Prelude.{Option, Some, None}
use Rattle.std.specs.Int.Bits.{bit_xor}
use Rattle.bch.specs.Code.{step, Codeword, Lone}
use Rattle.bch.specs.Field.{times_x, times_x2, mul, syndrome1, syndrome3}
use Rattle.bch.specs.declared.search.Found.{Found}
use Rattle.bch.specs.declared.search.Found.TheVariants.{Clean, One, Two}

-- ---- patterns of changed places

-- x^n modulo h(x)
abbrev pub power : ℕ → ℕ
power zero = 1
power (suc n) = step (power n) 0

-- what a change of the place k, of 67, adds to the remainder
unfoldable pub column : ℕ → ℕ
column k = power (66 - k)

-- what a pattern adds to the remainder
abbrev pub added : List ℕ → ℕ
added [] = 0
added (i ∷ ps) = bit_xor (column i) (added ps)

-- places rise, from k on, below 67
abbrev pub Rising : ℕ → List ℕ → Type 0
Rising k [] = Unit {0}
Rising k (i ∷ ps) = (k ≤ i) × (i < 67) × Rising (suc i) ps

-- no pattern of at most two places adds up to s
abbrev pub NoPattern : ℕ → Type 0
NoPattern s = (ps : List ℕ) → Rising 0 ps → length ps ≤ 2 → added ps ≡ s → ⊥

-- ---- the search

-- S1 and S3 of a remainder s, the first not zero, and c = S1^3 + S3
pub record Syndromes (s s1 s3 c : ℕ) : Type 0 where
  pub small : s < 2 ^ 14
  pub element : s1 < 2 ^ 7
  pub first : s1 ≡ syndrome1 s
  pub third : s3 ≡ syndrome3 s
  pub nonzero : s1 ≡ 0 → ⊥
  pub rest : c ≡ bit_xor s3 (mul (mul s1 s1) s1)

-- the product f, k times
abbrev pub repeated : (ℕ → ℕ) → ℕ → ℕ → ℕ
repeated f zero a = a
repeated f (suc k) a = f (repeated f k a)

-- the sum of the locator's terms, k degrees on from p and q
abbrev pub value_at : ℕ → ℕ → ℕ → ℕ
value_at p q k = bit_xor (repeated times_x2 k p) (repeated times_x k q)

-- from the terms p and q at the degree d, the search has moved on to p' and q' at the degree d', past no root
pub record Passed (c p q d p' q' d' : ℕ) : Type 0 where
  pub on : d ≤ d'
  pub within : d' ≤ 67
  pub first : p' ≡ repeated times_x2 (d' - d) p
  pub second : q' ≡ repeated times_x (d' - d) q
  pub none : (k : ℕ) → k < d' - d → value_at p q k ≡ c → ⊥

-- the same, and the degree d' is a root, of one of the 67 places
pub record NextRoot (c p q d p' q' d' : ℕ) : Type 0 where
  pub passed : Passed c p q d p' q' d'
  pub below : d' < 67
  pub root : bit_xor p' q' ≡ c

-- from the terms p and q at the degree d on, no degree of the 67 is a root
abbrev pub NoRoot : ℕ → ℕ → ℕ → ℕ → Type 0
NoRoot c p q d = (k : ℕ) → k < 67 - d → value_at p q k ≡ c → ⊥

-- the search's promise: at most two rising places that add up to the remainder s, or there are none
abbrev pub Locates : ℕ → Option Found → Type 0
Locates s (Some Clean) = s ≡ 0
Locates s (Some (One i)) = Rising 0 (i ∷ []) × (added (i ∷ []) ≡ s)
Locates s (Some (Two i j)) = Rising 0 (i ∷ j ∷ []) × (added (i ∷ j ∷ []) ≡ s)
Locates s None = NoPattern s

-- ---- the bits with the places flipped

-- the bit at the place i flipped; past the end, nothing
unfoldable pub flip : List ℕ → ℕ → List ℕ
flip w i = set w i (1 - get_or w i 0)

-- the bits with the named places flipped
abbrev pub mended : List ℕ → Found → List ℕ
mended w Clean = w
mended w (One i) = flip w i
mended w (Two i j) = flip (flip w i) j

-- the places that an answer of the search names
abbrev pub named : Found → List ℕ
named Clean = []
named (One i) = i ∷ []
named (Two i j) = i ∷ j ∷ []

-- the slow decoder has moved on from the place k to r, past no change that makes a codeword of w
pub record PastChanges (w : List ℕ) (k r : ℕ) : Type 0 where
  pub on : k ≤ r
  pub within : r ≤ 67
  pub none : (i : ℕ) → k ≤ i → i < r → Codeword (flip w i) → ⊥

-- the first place from k on whose change makes one, or none of the 67
abbrev pub NextChange : List ℕ → ℕ → Option ℕ → Type 0
NextChange w k None = PastChanges w k 67
NextChange w k (Some r) = PastChanges w k r × (r < 67) × Codeword (flip w r)

-- what is promised of the bits: at most two rising places below 67 whose change makes a codeword of w, or there is
-- none within distance two
abbrev pub Changes : List ℕ → Option Found → Type 0
Changes w (Some Clean) = Codeword w
Changes w (Some (One i)) = (i < 67) × Codeword (flip w i)
Changes w (Some (Two i j)) = (i < j) × (j < 67) × Codeword (flip (flip w i) j)
Changes w None = Lone w
