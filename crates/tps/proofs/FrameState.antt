-- Sender and receiver agree after the bits of some symbols: the receiver's previous cells are those of the sender's
-- signs, and it has read the bits. Assumes nothing.
use mathlib.Core.Path.{◌≡◌, refl, sym, ap, ◌∙◌, subst}
use mathlib.Core.List.{List, [], ◌∷◌, ◌++◌, map}
use Prim.Native.Nat.{ℕ, suc, ◌+◌, ◌<◌, min}
use native.Mathlib.Omega.{arith}
use lib.Ieee.{Float}
use lib.ListN.{length, take, set, length-set}
use lib.Seq.{take-suc-set}
use Rattle.ground.specs.Bits.{Bits}
use Rattle.ground.proofs.Bits.{bits-append}
use Rattle.carriers.specs.Mode.{Mode}
use Rattle.tps.specs.declared.sender.TpsEncoder.{TpsEncoder}
use Rattle.tps.specs.declared.receiver.TpsDecoder.{TpsDecoder}
use Rattle.tps.specs.Word.{SYMBOLS}
use Rattle.tps.specs.Send.{sign_cell, fresh_encoder}
use Rattle.tps.specs.Receive.{held_bits, fresh_decoder}
use Rattle.tps.specs.Frame.{read_bits}
use Rattle.tps.proofs.StandingBits.{held-length, held_first, bits_held}
use Rattle.tps.proofs.SignRows.{TpsFacts, start-signs, Signs}

abbrev begun : List ℕ → ℕ
begun [] = 0
begun (b ∷ bs) = 1

-- the previous cells are the sender's, from the first symbol on
abbrev Previous : List ℕ → TpsEncoder → TpsDecoder → Type 0
Previous [] e d = Unit {0}
Previous (b ∷ bs) e d = d.prev ≡ map sign_cell e.signs

-- after the bits bs, newest first
pub record FrameHolds (m : Mode) (bs : List ℕ) (e : TpsEncoder) (d : TpsDecoder) : Type 0 where
  pub signs : Signs m.tps_count e.signs
  pub started : e.started ≡ begun bs
  pub previous : Previous bs e d
  pub count : d.count ≡ length bs
  pub size : length d.bits ≡ SYMBOLS
  pub read : take (length bs) d.bits ≡ read_bits bs
  pub bits : Bits (read_bits bs)

pub holds-at-start : (m : Mode) → TpsFacts m → FrameHolds m [] (fresh_encoder m) (fresh_decoder m)
unfolding read_bits
holds-at-start m f = record { signs = start-signs m f; started = refl; previous = tt; count = refl; size = refl; read = refl; bits = tt }

abbrev pub sender : List Float → TpsEncoder
sender s = record { signs = s; started = 1 }

abbrev pub receiver : List Float → TpsDecoder → ℕ → TpsDecoder
receiver s d v = record { prev = map sign_cell s; bits = set (held_bits d.count d.bits) d.count v; count = d.count + 1 }

-- one symbol more, with the signs s and the bit v
pub holds-next : (m : Mode) (bs : List ℕ) (e : TpsEncoder) (d : TpsDecoder) (bit v : ℕ) (s : List Float) → FrameHolds m bs e d → length bs < SYMBOLS
    → Signs m.tps_count s → v < 2 → read_bits (bit ∷ bs) ≡ read_bits bs ++ (v ∷ []) → FrameHolds m (bit ∷ bs) (sender s) (receiver s d v)
holds-next m bs e d bit v s h l k vb r =
    let n = length bs in
    let z : length (held_bits n d.bits) ≡ SYMBOLS = held-length d.bits n h.size (omega arith) in
    record {
      signs = k;
      started = refl;
      previous = refl;
      count = omega (arith, h.count);
      size = ap (λ (k : ℕ). length (set (held_bits k d.bits) k v)) h.count ∙ length-set (held_bits n d.bits) n v ∙ z;
      read =
          ap (λ (k : ℕ). take (suc n) (set (held_bits k d.bits) k v)) h.count
          ∙ take-suc-set (held_bits n d.bits) n v (omega (arith, z))
          ∙ ap (λ (t : List ℕ). t ++ (v ∷ []))
          (held_first d.bits n h.size (omega arith) ∙ ap (map (min 1)) h.read ∙ bits_held (read_bits bs) h.bits)
          ∙ sym r;
      bits = subst Bits (sym r) (bits-append (read_bits bs) (v ∷ []) h.bits (vb, tt));
    }
