-- `bch::search::next_root` meets its contract: one degree that is no root is passed a turn. Assumes nothing.
use mathlib.Core.Path.{sym, ◌∙◌, subst}
use Prim.Native.Nat.{ℕ}
use borrow.Author.Tests.{eqb-false}
use Rattle.bch.specs.Search.{Passed}
use Rattle.bch.proofs.LocatorSearch.{passed-one}
use Rattle.bch.proofs.search.next_root.Goals as goal

pub loop-at-preserved : goal.loop-at-preserved
loop-at-preserved c =
    let a = c.args in
    let here = eqb-false _ _ (sym c.is_root.ensures ∙ c.if-is_root.false) in
    let o = c.on-at.ensures in
    subst (λ (d : ℕ). Passed a.c.digits a.search.p.digits a.search.q.digits a.search.degree c.on-at.result.p.digits c.on-at.result.q.digits d) (sym o.degree)
    (passed-one c.loop-at.invariant c.loop-at-test.true here o.first o.second)
