-- `bch::search::changes` meets its contract: what the search names for the remainder. Assumes nothing.
use mathlib.Core.Path.{sym, subst}
use Prim.Native.Nat.{ℕ, ◌^◌, ◌<◌}
use native.Mathlib.Omega.{arith}
use Rattle.ground.proofs.Bits.{bits_of_lem}
use Rattle.bch.specs.Search.{Locates}
use Rattle.bch.proofs.Generator.{remainder_lt}
use Rattle.bch.proofs.Flipped.{located_changes}
use Rattle.bch.proofs.search.changes.Goals as goal

pub locate-requires : goal.locate-requires
locate-requires c =
    let a = c.args.code in
    subst (λ (s : ℕ). s < 2 ^ 14) (sym c.remainder.ensures) (remainder_lt 0 a.bits.now (omega arith) (bits_of_lem a.bits.now a.right))

pub returns : goal.returns
returns c =
    let a = c.args.code in
    located_changes a.bits.now c.locate.result (bits_of_lem a.bits.now a.right) a.size
    (subst (λ (s : ℕ). Locates s c.locate.result) c.remainder.ensures c.locate.ensures)
