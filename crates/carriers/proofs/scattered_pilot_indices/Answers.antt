-- `carriers::scattered_pilot_indices` meets its contract: the scattered pilots of a phase are the carriers 12 apart. Assumes nothing.
use borrow.Author.Tests.{lt-ltb, le-ltb}
use mathlib.Core.Path.{◌≡◌, sym, ap, ◌∙◌}
use mathlib.Core.List.{List, ◌++◌}
use Prim.Native.Nat.{ℕ, ◌+◌, ◌-◌, ◌*◌, ◌/◌, ◌%◌, ◌≤◌}
use native.Mathlib.Omega.{arith}
use lib.ListN.{length, drop}
use lib.Seq.{length-take-le}
use Rattle.carriers.specs.Mode.{mode2k}
use Rattle.carriers.specs.Carriers.{every_twelfth, scattered}
use Rattle.carriers.proofs.Spaced.{scattered-apart, scattered-many}
use Rattle.carriers.proofs.scattered_pilot_indices.Goals as goal

pub returns-then-out-count : goal.returns-then-out-count
returns-then-out-count c =
    let e = scattered-many mode2k (c.args.phase % 4) (omega arith) (omega arith) in
    record { value = simp (e, lt-ltb _ _ c.if-out-count.true); out_after = simp (e, lt-ltb _ _ c.if-out-count.true) }

pub returns : goal.returns
returns c =
    let a = c.args in
    let o = a.out.now in
    let p = a.phase % 4 in
    let n = (1704 - 3 * p) / 12 + 1 in
    let e : length (scattered mode2k p) ≡ n = scattered-many mode2k p (omega arith) (omega arith) in
    let room : n ≤ length o = omega arith in
    let laid = c.every_twelfth.ensures ∙ ap (every_twelfth (3 * p)) (length-take-le n o room) ∙ sym (scattered-apart mode2k p (omega arith) (omega arith)) in
    record { value = simp (e, le-ltb _ _ room); out_after = simp (e, le-ltb _ _ room) (ap (λ (l : List ℕ). l ++ drop n o) laid) }
