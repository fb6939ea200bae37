-- `grid::set_pilots` meets its contract: a turn is the next clause of the definition. Assumes nothing.
use mathlib.Core.Path.{◌≡◌}
use mathlib.Core.List.{map}
use Rattle.carriers.specs.Mode.{mode2k}
use Rattle.carriers.specs.Pilots.{code_bin, code_cells}
use Rattle.grid.specs.Symbol.{placed}
use Rattle.grid.proofs.set_pilots.Given as goal

abbrev pub invariant-loop-code : goal.invariant-loop-code
invariant-loop-code l = l.symbol ≡ placed (map (code_bin mode2k) l.codes) (code_cells mode2k l.codes) l.code-index l.initial.symbol
