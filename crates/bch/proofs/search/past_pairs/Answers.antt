-- `bch::search::past_pairs` meets its contract: two degrees that are no roots are passed a turn. Assumes nothing.
use mathlib.Core.Path.{sym, ap₂, ◌∙◌, subst}
use Prim.Native.Nat.{ℕ}
use lib.Bits.{bit_xor}
use borrow.Author.Tests.{eqb-false}
use Rattle.bch.specs.Search.{Passed}
use Rattle.bch.proofs.LocatorSearch.{passed-two}
use Rattle.bch.proofs.search.past_pairs.Goals as goal

pub loop-at-preserved : goal.loop-at-preserved
loop-at-preserved c =
    let a = c.args in
    let here = eqb-false _ _ (sym c.is_root.ensures ∙ c.if-is_root.false) in
    let next = eqb-false _ _ (sym c.is_root-else-is_root.ensures ∙ c.if-is_root-2.false) in
    let o = c.on-at.ensures in
    subst (λ (d : ℕ). Passed a.c.digits a.search.p.digits a.search.q.digits a.search.degree c.on-at.result.p.digits c.on-at.result.q.digits d) (sym o.degree)
    (passed-two c.loop-at.invariant c.loop-at-test.true here (λ e. next (ap₂ bit_xor c.on.ensures.first c.on.ensures.second ∙ e)) o.first o.second)
