-- `carriers::decode` meets its contract: after k turns the bins and the values of the first k numbers stand at the fronts. Assumes nothing.
use mathlib.Core.Path.{◌≡◌, sym, ◌∙◌}
use mathlib.Core.List.{map}
use Prim.Native.Nat.{ℕ, ◌*◌, ◌/◌}
use native.Mathlib.Omega.{arith}
use lib.ListN.{length, length-map, get_or-map}
use Rattle.ground.specs.declared.Cell.{Cell}
use Rattle.ground.proofs.Mapped.{map_at}
use Rattle.ground.proofs.Front.{front-next, front-whole}
use Rattle.carriers.specs.Mode.{mode2k}
use Rattle.ground.specs.Cells.{flat}
use Rattle.carriers.specs.Pilots.{pilot_cell, code_bin, code_cells}
use Rattle.ground.proofs.Cells.{cell_next, flat-length}
use Rattle.carriers.proofs.decode.Goals as goal

-- the value of one number
abbrev cell : ℕ → Cell
cell code = pilot_cell (code / 2048)

pub loop-k-preserved : goal.loop-k-preserved
unfolding code_cells
loop-k-preserved c =
    let a = c.args in
    let at = c.loop-k in
    let codes = a.codes.now in
    let n : length (map (code_bin mode2k) codes) ≡ length codes = length-map codes (code_bin mode2k) in
    let q : length (map cell codes) ≡ length codes = length-map codes cell in
    let set = c.put_cell.ensures in
    let value = c.boost.ensures ∙ sym (get_or-map cell codes at.k 0) in (
      front-next (map (code_bin mode2k) codes) a.bins.now at.bins at.k 0 _ (omega arith) (omega arith) at.invariant.0
          (sym (map_at (code_bin mode2k) codes at.k 0 0 (omega arith))),
      set ∙ cell_next (map cell codes) a.values.now at.values at.k (cell 0) _ (omega arith) (omega arith) at.invariant.1 value,
    )

pub returns : goal.returns
unfolding code_cells
returns c =
    let a = c.args in
    let at = c.loop-k in
    let codes = a.codes.now in
    let n : length (map (code_bin mode2k) codes) ≡ length codes = length-map codes (code_bin mode2k) in
    let q : length (map cell codes) ≡ length codes = length-map codes cell in
    let w : length (flat (map cell codes)) ≡ 2 * length (map cell codes) = flat-length (map cell codes) in
    record {
      bins_after = front-whole (map (code_bin mode2k) codes) a.bins.now at.bins at.k (omega arith) at.invariant.0;
      values_after = front-whole (flat (map cell codes)) a.values.now at.values (2 * at.k) (omega arith) at.invariant.1;
    }
