-- `grid::lay_data` meets its contract: a turn is the next clause of the definition. Assumes nothing.
use mathlib.Core.Path.{◌≡◌}
use Rattle.grid.specs.Symbol.{placed}
use Rattle.grid.proofs.lay_data.Given as goal

abbrev pub invariant-loop-k : goal.invariant-loop-k
invariant-loop-k l = l.symbol ≡ placed l.bin-items l.cells l.k l.initial.symbol
