-- `DvbTEnergyDispersal::feed_in_place` meets its contract: the bytes are whitened from their front on, and the mirrored
-- register stands behind them. Assumes nothing.
use mathlib.Core.Path.{◌≡◌, refl, ap, ap₂, ◌∙◌}
use Prim.Native.Nat.{ℕ, ◌*◌, ◌%◌, ◌<◌, ◌^◌}
use native.Mathlib.Omega.{arith}
use lib.ListN.{length}
use Rattle.dispersal.specs.Register.{steps, whitened}
use Rattle.dispersal.specs.Inner.{mirror}
use Rattle.dispersal.proofs.Mirror.{mirror-lt}
use Rattle.dispersal.proofs.Register.{steps-lt}
use Rattle.dispersal.proofs.MirroredRegister.{mirrored_next, mirrored_back, mirrored_start, mirrored_mirrored}
use Rattle.dispersal.proofs.Whitening.{whitened-next, whitened_end}
use Rattle.dispersal.proofs.DvbTEnergyDispersal.feed_in_place.Goals as goal

pub loop-byte-init : goal.loop-byte-init
loop-byte-init c = record { ahead = mirrored_start c.mirrored-ahead.result (c.args.self.reg % 2 ^ 15) c.mirrored-ahead.ensures; bytes = refl }

pub loop-byte-preserved : goal.loop-byte-preserved
loop-byte-preserved c =
    let l = c.loop-byte in
    let o = c.args.bytes.now in
    let r : ℕ = mirror 15 c.mirrored-ahead.result in
    let t = mirrored_next l.ahead r l.byte-index c.mask_of-mask.result (mirror-lt 15 _) l.invariant.ahead c.mask_of-mask.ensures in
    record { ahead = t.1; bytes = whitened-next r o l.bytes l.byte-index c.mask_of-mask.result (omega arith) l.invariant.bytes t.0 }

pub returns : goal.returns
returns c =
    let l = c.loop-byte in
    let o = c.args.bytes.now in
    let x : ℕ = c.args.self.reg % 2 ^ 15 in
    let q = c.mirrored-ahead in
    let h : mirror 15 q.result ≡ x = mirrored_mirrored q.result x (omega arith) q.ensures in
    let e : l.byte-index ≡ length o = omega arith in
    let small : mirror 15 q.result < 2 ^ 15 = mirror-lt 15 q.result in record {
      answer = ap (λ (r : ℕ). record { reg = r })
          (c.mirrored.ensures
          ∙ mirrored_back l.ahead (steps (8 * l.byte-index) (mirror 15 q.result)) (steps-lt (8 * l.byte-index) _ small) l.invariant.ahead
          ∙ ap₂ (λ (n r : ℕ). steps (8 * n) r) e h);
      bytes = whitened_end (mirror 15 q.result) o l.bytes l.byte-index e l.invariant.bytes ∙ ap (λ (r : ℕ). whitened r o) h;
    }
