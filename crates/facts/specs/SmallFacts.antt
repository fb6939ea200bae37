-- Document 01, 'Small facts to hold the definitions to': the ten facts in one list, over the definitions that the
-- promises cite.
use Rattle.std.specs.Prelude.{◌≡◌, List, [], ◌∷◌, ◌++◌, map, ℕ, ◌≤◌, ℤ, pos, negsuc, length, get_or, replicate}
use Rattle.ground.specs.Refusal.{NO_WORD}
use Rattle.dispersal.specs.Register.{start, whitened}
use Rattle.carriers.specs.Mode.{mode2k}
use Rattle.carriers.specs.Count.{bin_of}
use Rattle.carriers.specs.Sequence.{wk_from}
use Rattle.carriers.specs.Carriers.{scattered}
use Rattle.bch.specs.Code.{parity}
use Rattle.bch.specs.Promise.{Decoded, decoded, Decodes}
use Rattle.gray.specs.Levels.{order_of, levels}
use Rattle.gray.specs.Mapping.{index}
use Rattle.ts.specs.Packets.{packetized}

-- the levels of a bit group on the I and the Q axis
abbrev pub level_on : ℕ → List ℕ → ℤ
level_on axis bits = get_or (levels (order_of (length bits))) (index (order_of (length bits)) axis bits) (pos 0)

abbrev pub levels_of : List ℕ → List ℤ
levels_of bits = level_on 0 bits ∷ level_on 1 bits ∷ []

-- 67 bits of which only the degrees 7, 3 and 0 are set
abbrev pub three : List ℕ
three = replicate 59 0 ++ 1 ∷ 0 ∷ 0 ∷ 0 ∷ 1 ∷ 0 ∷ 0 ∷ 1 ∷ []

pub record SmallFacts : Type 0 where
  -- (1) the first dispersal bytes are 03 F6 08 34
  pub first_dispersal_bytes : whitened start (0 ∷ 0 ∷ 0 ∷ 0 ∷ []) ≡ 0x03 ∷ 0xF6 ∷ 0x08 ∷ 0x34 ∷ []
  -- (2) w begins with eleven 1s, then 0 0 1 1 0
  pub w_begins : wk_from 0 16 ≡ replicate 11 1 ++ 0 ∷ 0 ∷ 1 ∷ 1 ∷ 0 ∷ []
  -- (3) actives 0, 851, 852, 1704 are bins 1196, 2047, 0, 852
  pub actives_are_bins : map (bin_of mode2k) (0 ∷ 851 ∷ 852 ∷ 1704 ∷ []) ≡ 1196 ∷ 2047 ∷ 0 ∷ 852 ∷ []
  -- (4) zero information has zero parity
  pub zero_parity : parity (replicate 53 0) ≡ 0
  -- (5) information with only s53 set has parity 0x0377
  pub s53_parity : parity (replicate 52 0 ++ 1 ∷ []) ≡ 0x0377
  -- (6) bits with only degrees 7, 3, 0 set are NO WORD, whatever stands in the lent output, and it stays
  pub three-are-no-word :
      (before after : List ℕ) (answer : Decoded) → 53 ≤ length before → Decodes three before answer after
      → (answer ≡ decoded NO_WORD []) × (after ≡ before)
  -- (7) bits 0010 are levels (1, 3)
  pub levels_of_four_bits : levels_of (0 ∷ 0 ∷ 1 ∷ 0 ∷ []) ≡ pos 1 ∷ pos 3 ∷ []
  -- (8) bits 101001 are levels (-1, 5)
  pub levels_of_six_bits : levels_of (1 ∷ 0 ∷ 1 ∷ 0 ∷ 0 ∷ 1 ∷ []) ≡ negsuc 0 ∷ pos 5 ∷ []
  -- (9) phases 0 and 1 have 143 and 142 scattered pilots
  pub scattered_pilots : (length (scattered mode2k 0) ≡ 143) × (length (scattered mode2k 1) ≡ 142)
  -- (10) a payload of 188 makes 376 bytes
  pub payload_of_188 : (payload : List ℕ) → length payload ≡ 188 → length (packetized payload) ≡ 376
