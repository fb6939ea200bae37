-- `session::halves::replay` meets its contract: after n chunks the TPS decoder was fed the first n places, and what is left begins behind these.
-- Assumes nothing.
use mathlib.Core.Path.{◌≡◌, ◌∙◌, refl}
use mathlib.Core.List.{◌∷◌, [], ◌++◌}
use Prim.Native.Nat.{suc}
use lib.ListN.{length, length-append}
use Rattle.std.proofs.Common.{rules, arith}
use Rattle.carriers.specs.Mode.{mode2k}
use lib.Ieee.{of_bits}
use Rattle.ground.specs.Cells.{plus_zero}
use Rattle.tps.specs.Receive.{first_cells}
use Rattle.session.specs.Journal.{places_in, decoder_on}
use Rattle.session.proofs.Decoder.{replay_turn}
use Rattle.session.proofs.halves.replay.Goals as goal

pub loop-cells-init : goal.loop-cells-init
unfolding decoder_on places_in first_cells plus_zero of_bits
loop-cells-init c = record { size = search rules; rest = search rules; fed = refl }

pub loop-cells-preserved : goal.loop-cells-preserved
loop-cells-preserved c =
    let step = c.in-Some.ensures.steps.0 in
    let i = c.loop-cells.invariant in
    let n : length (c.loop-cells.yielded ++ (c.in-Some.cells ∷ [])) ≡ suc (length c.loop-cells.yielded) = grind (arith, length-append) in
    let turn = replay_turn mode2k c.args.frame.now (length c.loop-cells.yielded) _ _ i.rest step.1.0 (step.1.1 ∙ i.size) i.fed c.feed_symbol.ensures in
    rw n (record { size = step.0 ∙ i.size; rest = turn.0; fed = turn.1 })
