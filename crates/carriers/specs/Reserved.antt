-- Document 01, 'Pilot grid', once more: the data carriers of a phase as those that a walk along its rising reserved
-- carriers passes over, and its reference pilots as what the TPS carriers leave of them. In every mode these are the
-- rule's lists (`walk-is-data` of proofs/Reserved, `walk-is-reference` of proofs/Facts).
use Rattle.std.specs.Prelude.{Bool, true, false, not, List, [], ◌∷◌, ℕ, zero, suc, ◌≤◌, eqb}
use Rattle.carriers.specs.Mode.{Mode}
use Rattle.carriers.specs.Carriers.{keep, chosen, is_data}

-- the members of l rise, from a on and below b
abbrev pub Rises : ℕ → ℕ → List ℕ → Type 0
Rises a b [] = a ≤ b
Rises a b (r ∷ l) = (a ≤ r) × Rises (suc r) b l

-- a is the next member of l
abbrev pub heads : List ℕ → ℕ → Bool
heads [] a = false
heads (r ∷ l) a = eqb a r

-- l without its first member, where that was met
abbrev pub past : List ℕ → Bool → List ℕ
past [] b = []
past (r ∷ l) true = l
past (r ∷ l) false = r ∷ l

-- of the n numbers from a those that are not members of the rising list l, in one walk along it
unfoldable pub gaps : ℕ → List ℕ → ℕ → List ℕ
gaps a l zero = []
gaps a l (suc n) = keep (not (heads l a)) a (gaps (suc a) (past l (heads l a)) n)

-- the members of the rising list l that are not members of x, which rises and has only members of l, in one walk along
-- the two
unfoldable pub without : List ℕ → List ℕ → List ℕ
without [] x = []
without (r ∷ l) x = keep (not (heads x r)) r (without l (past x (heads x r)))

module _ (m : Mode) where
  -- every active carrier of a phase that has no data, in rising order
  unfoldable pub reserved_rising : ℕ → List ℕ
  reserved_rising p = chosen (λ a. not (is_data m p a)) 0 m.actives

  -- the data carriers, by the walk
  unfoldable pub data_walk : ℕ → List ℕ
  data_walk p = gaps 0 (reserved_rising p) m.actives

  -- the reference pilots, by the walk
  unfoldable pub reference_walk : ℕ → List ℕ
  reference_walk p = without (reserved_rising p) m.tps
