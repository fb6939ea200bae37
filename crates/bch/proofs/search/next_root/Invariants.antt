-- `bch::search::next_root` meets its contract: one degree that is no root is passed a turn. Assumes nothing.
use Prim.Native.Nat.{◌-◌}
use Rattle.bch.specs.Search.{Passed}
use Rattle.bch.proofs.search.next_root.Given as goal

abbrev pub invariant-loop-at : goal.invariant-loop-at
invariant-loop-at l =
    let from = l.fn.search in
    Passed l.c.digits from.p.digits from.q.digits from.degree l.at.p.digits l.at.q.digits l.at.degree

abbrev pub decreases-loop-at : goal.decreases-loop-at
decreases-loop-at l = 68 - l.at.degree
