-- `bch::slow::changed` meets its contract: a copy, with one bit flipped. Assumes nothing.
use mathlib.Core.Path.{sym, subst}
use mathlib.Core.List.{List}
use Prim.Native.Nat.{ℕ}
use Rattle.ground.specs.Bits.{Bits}
use Rattle.ground.proofs.Bits.{bits_of_lem}
use Rattle.bch.proofs.slow.changed.Goals as goal

pub flip_at-requires : goal.flip_at-requires
flip_at-requires c =
    let a = c.args.code in
    subst (λ (l : List ℕ). Bits l) (sym c.copy_from_slice.ensures.after) (bits_of_lem a.bits.now a.right)
