-- `gray::axis_index` meets its contract: a bit more is brought in a turn. Assumes nothing.
use Prim.Native.Nat.{◌+◌, ◌*◌}
use native.Mathlib.Numerals.{add-one}
use native.Mathlib.Omega.{arith}
use native.Mathlib.Nat.{pow-suc}
use mathlib.Core.Path.{refl}
use Rattle.ground.proofs.Bits.{bits_at}
use Rattle.gray.proofs.IndexBits.{every_other_next}
use Rattle.gray.proofs.axis_index.Goals as goal

pub loop-place-preserved : goal.loop-place-preserved
loop-place-preserved c =
    let a = c.args in
    let k = c.loop-place.place in
    let bit = bits_at a.bits.now (a.first + 2 * k) c.requires.3 in
    rw add-one (
      omega (arith, every_other_next k 0 a.first (a.first + 2 * k) a.bits.now refl),
      omega (arith, pow-suc 2 k),
    )
