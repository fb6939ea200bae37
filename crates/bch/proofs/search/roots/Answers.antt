-- `bch::search::roots` meets its contract: the changed places are the roots of the locator. Assumes nothing.
use mathlib.Core.Path.{sym, ◌∙◌, subst}
use Prim.Native.Nat.{ℕ, ◌+◌}
use borrow.Author.Tests.{eqb-true, eqb-false}
use Rattle.std.specs.Prelude.{Option}
use Rattle.bch.specs.declared.search.Found.{Found}
use Rattle.bch.specs.Search.{NextRoot, NoRoot, Locates}
use Rattle.bch.proofs.Roots.{syndromes_worked}
use Rattle.bch.proofs.FoundPlaces.{no-root-no-pattern, one_root_located, two_roots_located, lone_root_no_pattern}
use Rattle.bch.proofs.search.roots.Goals as goal

pub returns-in_err-one : goal.returns-in_err-one
returns-in_err-one c =
    λ s c' g.
    let h = syndromes_worked g c.mul-square.ensures c.mul.ensures c.add-c.ensures in
    subst (λ (f : Option Found). Locates s f) (sym c.from_residual.ensures) (no-root-no-pattern h c.mul-square.ensures c.in_err-one.ensures)

pub returns-then-eq : goal.returns-then-eq
returns-then-eq c =
    λ s c' g.
    let h = syndromes_worked g c.mul-square.ensures c.mul.ensures c.add-c.ensures in
    one_root_located h c.mul-square.ensures c.in_ok-one.ensures (eqb-true c.add-c.result.digits 0 (sym c.eq.ensures ∙ c.if-eq.true))

pub returns-in-None : goal.returns-in-None
returns-in-None c =
    λ s c' g.
    let h = syndromes_worked g c.mul-square.ensures c.mul.ensures c.add-c.ensures in
    let o = c.on.ensures in
    let k = c.add-c.result.digits in
    let n : NoRoot k c.on.result.p.digits c.on.result.q.digits (c.in_ok-one.one.degree + 1) =
    subst (λ (d : ℕ). NoRoot k c.on.result.p.digits c.on.result.q.digits d) o.degree c.in-None.ensures in
    lone_root_no_pattern h c.mul-square.ensures c.in_ok-one.ensures o.first o.second n (eqb-false k 0 (sym c.eq.ensures ∙ c.if-eq.false))

pub returns-in-Some : goal.returns-in-Some
returns-in-Some c =
    λ s c' g.
    let h = syndromes_worked g c.mul-square.ensures c.mul.ensures c.add-c.ensures in
    let o = c.on.ensures in
    let t = c.in-Some.other in
    two_roots_located h c.mul-square.ensures c.in_ok-one.ensures o.first o.second
    (subst (λ (d : ℕ). NextRoot c.add-c.result.digits c.on.result.p.digits c.on.result.q.digits d t.p.digits t.q.digits t.degree) o.degree c.in-Some.ensures)
