-- `gray::squared_with` meets its contract: the index is one of the axis. Assumes nothing.
use mathlib.Core.Path.{sym, subst}
use Prim.Native.Nat.{ℕ, ◌<◌}
use lib.ListN.{length}
use Rattle.gray.specs.Levels.{levels}
use Rattle.gray.proofs.Levels.{with_bit_in}
use Rattle.gray.proofs.squared_with.Goals as goal

pub squared-requires : goal.squared-requires
squared-requires c =
    let a = c.args in
    let r = c.requires in
    subst (λ (i : ℕ). i < length (levels a.order)) (sym c.with_bit.ensures) (with_bit_in a.order a.rest a.place a.bit r.0 r.1 r.2)
