-- Document 02, E10; EN 300 744, tables 7 and 8: a list of carriers repeated every 1,704, as the 8K lists repeat the 2K
-- ones (`lists-repeat`, proofs/EightK).
use Rattle.std.specs.Prelude.{not, List, [], ◌∷◌, ◌++◌, map, ℕ, zero, suc, ◌+◌, ◌*◌}
use Rattle.carriers.specs.Carriers.{keep}
use Rattle.carriers.specs.Reserved.{heads}

-- l n times, the first time 1,704 k further on, and 1,704 more each time
unfoldable pub again : ℕ → ℕ → List ℕ → List ℕ
again zero k l = []
again (suc n) k l = map (λ c. c + 1704 * k) l ++ again n (suc k) l

-- a member that stands twice in a row stands once
unfoldable pub once : List ℕ → List ℕ
once [] = []
once (x ∷ l) = keep (not (heads l x)) x (once l)

-- l four times, a carrier that two of them share standing once
unfoldable pub repeated : List ℕ → List ℕ
repeated l = once (again 4 0 l)
