-- `tps::sender::put_signs` meets its contract: the cells are written from the output's front. Assumes nothing.
use mathlib.Core.Path.{◌≡◌, sym, ap, ◌∙◌}
use Prim.Native.Nat.{◌+◌, ◌*◌}
use native.Mathlib.Omega.{arith}
use mathlib.Core.List.{map}
use lib.Ieee.{nan}
use lib.ListN.{length, get_or, length-map}
use Rattle.ground.proofs.Front.{front_length, front-whole}
use Rattle.ground.specs.Cells.{flat, plus_zero}
use Rattle.ground.proofs.Cells.{cell_next, flat-length}
use Rattle.tps.specs.Send.{sign_cell}
use Rattle.tps.specs.Receive.{no_cell}
use Rattle.ground.proofs.Mapped.{map_at}
use borrow.Author.Rules.{rules}
use Rattle.tps.proofs.sender.put_signs.Goals as goal

pub loop-k-preserved : goal.loop-k-preserved
unfolding plus_zero
loop-k-preserved c =
    let l = c.loop-k in
    let s = c.args.signs in
    let o = c.args.out.now in
    let m = map sign_cell s in
    let z : length s ≡ 17 = search rules in
    let n : length m ≡ 17 = length-map s sign_cell ∙ z in
    let f : length (flat m) ≡ 2 * length m = flat-length m in
    let d = c.put_cell.ensures ∙ cell_next m o l.out l.k no_cell (sign_cell (get_or s l.k nan)) (omega arith) (omega arith) l.invariant.written
    (sym (map_at sign_cell s l.k no_cell nan (omega arith))) in
    record { long = ap length d ∙ front_length (flat m) o (2 * (l.k + 1)) (omega arith) (omega arith); written = d }

pub returns : goal.returns
returns c =
    let l = c.loop-k in
    let s = c.args.signs in
    let m = map sign_cell s in
    let z : length s ≡ 17 = search rules in
    let n : length m ≡ 17 = length-map s sign_cell ∙ z in
    let f : length (flat m) ≡ 2 * length m = flat-length m in
    front-whole (flat m) c.args.out.now l.out (2 * l.k) (omega (arith, c.loop-k-test.false)) l.invariant.written
