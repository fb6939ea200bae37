-- When each number of a call is given: a refusal's exactly where its test holds and none before it. Assumes nothing.
use Prim.Native.Nat.{ℕ, ◌*◌, ◌/◌, ◌%◌, ◌<◌, ◌≤◌}
use mathlib.Core.Path.{◌≡◌}
use mathlib.Core.Bool.{not}
use mathlib.Core.List.{List, [], ◌∷◌}
use mathlib.Core.Logic.Iff
use mathlib.Core.Logic.{◌⊎◌, ◌↔◌}
use lib.Dec.{eqb}
use lib.ListN.{length}
use borrow.Author.Tests.{le-ltb, eq-eqb, ne_eqb}
use Rattle.ground.specs.Answer.{short}
use Rattle.ground.specs.Refusal.{ACCEPTED, LENGTH, OUTPUT_SHORT, Test, ◌gives◌}
use Rattle.ground.proofs.Exactly.{Decides, less_decides, equal_decides, not_decides, lacks-number, given-here, given-either, given-behind, fill_short_exactly}
use Rattle.ts.specs.Packets.{depacketize_no}
use Rattle.ts.specs.Stuffing.{stuff_no}
use Rattle.ts.specs.Dispersal.{disperse_no}
use Rattle.ts.specs.Packets.{bytes_for}
use Rattle.ts.specs.PacketizeDispersed.{packetize_dispersed_no}

-- n bytes aren't whole packets
ragged : (n : ℕ) → Decides (not (eqb (n % 188) 0)) (n % 188 ≡ 0 → ⊥) (n % 188 ≡ 0)
ragged n = not_decides (equal_decides (n % 188) 0)

module _ (s out : List ℕ) where
  pub packetize_dispersed_short_exactly : (packetize_dispersed_no s out ≡ OUTPUT_SHORT) ↔ (length out < bytes_for s)
  packetize_dispersed_short_exactly = fill_short_exactly (bytes_for s) out

  pub packetize_dispersed_never_length : packetize_dispersed_no s out ≡ LENGTH → ⊥
  packetize_dispersed_never_length = lacks-number LENGTH (short (bytes_for s) out gives OUTPUT_SHORT ∷ []) tt

  pub depacketize_accepted : (length s ≡ 0 → ⊥) → length s % 188 ≡ 0 → 187 * (length s / 188) ≤ length out → depacketize_no s out ≡ ACCEPTED
  depacketize_accepted a b h = rw (ne_eqb (length s) 0 a, eq-eqb (length s % 188) 0 b, le-ltb (length out) (187 * (length s / 188)) h)

  abbrev room : List Test
  room = short (187 * (length s / 188)) out gives OUTPUT_SHORT ∷ []

  abbrev behind : List Test
  behind = not (eqb (length s % 188) 0) gives LENGTH ∷ room

  pub depacketize_length_exactly : (depacketize_no s out ≡ LENGTH) ↔ ((length s ≡ 0) ⊎ (length s % 188 ≡ 0 → ⊥))
  depacketize_length_exactly = given-either LENGTH behind (equal_decides (length s) 0) (given-here LENGTH room (ragged (length s)) tt)

  pub depacketize_short_exactly : (depacketize_no s out ≡ OUTPUT_SHORT) ↔ ((length s ≡ 0 → ⊥) × ((length s % 188 ≡ 0) × (length out < 187 * (length s / 188))))
  depacketize_short_exactly =
      given-behind LENGTH OUTPUT_SHORT behind (equal_decides (length s) 0) tt
      (λ some. given-behind LENGTH OUTPUT_SHORT room (ragged (length s)) tt (λ whole. fill_short_exactly (187 * (length s / 188)) out))

module _ (used target : ℕ) (ts : List ℕ) where
  pub stuff_accepted : used ≤ length ts → used % 188 ≡ 0 → 188 * target ≤ length ts → stuff_no used target ts ≡ ACCEPTED
  stuff_accepted h m k = rw (le-ltb (length ts) used h, eq-eqb (used % 188) 0 m, le-ltb (length ts) (188 * target) k)

  abbrev target_room : List Test
  target_room = short (188 * target) ts gives OUTPUT_SHORT ∷ []

  abbrev behind-used : List Test
  behind-used = not (eqb (used % 188) 0) gives LENGTH ∷ target_room

  pub stuff_length_exactly : (stuff_no used target ts ≡ LENGTH) ↔ ((length ts < used) ⊎ (used % 188 ≡ 0 → ⊥))
  stuff_length_exactly = given-either LENGTH behind-used (less_decides (length ts) used) (given-here LENGTH target_room (ragged used) tt)

  pub stuff_short_exactly : (stuff_no used target ts ≡ OUTPUT_SHORT) ↔ ((used ≤ length ts) × ((used % 188 ≡ 0) × (length ts < 188 * target)))
  stuff_short_exactly =
      given-behind LENGTH OUTPUT_SHORT behind-used (less_decides (length ts) used) tt
      (λ inside. given-behind LENGTH OUTPUT_SHORT target_room (ragged used) tt (λ whole. fill_short_exactly (188 * target) ts))

  pub stuff_taken : stuff_no used target ts ≡ ACCEPTED → (used ≤ length ts) × (used % 188 ≡ 0)
  stuff_taken a =
      let g = (given-behind LENGTH ACCEPTED behind-used (less_decides (length ts) used) tt (λ inside. given-behind LENGTH ACCEPTED target_room (ragged used) tt (λ whole. Iff.rfl))).0 a in
      (g.0, g.1.0)

pub disperse_accepted : (packets : List ℕ) → length packets % 188 ≡ 0 → disperse_no packets ≡ ACCEPTED
disperse_accepted packets h = rw (eq-eqb (length packets % 188) 0 h)

pub disperse_length_exactly : (packets : List ℕ) → (disperse_no packets ≡ LENGTH) ↔ (length packets % 188 ≡ 0 → ⊥)
disperse_length_exactly packets = given-here LENGTH [] (ragged (length packets)) tt
