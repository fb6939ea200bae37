-- `GroupOutputs::behind_sync` meets its contract: the part lent is the outputs from the packet's register on. Assumes nothing.
use mathlib.Core.Path.{ap, ◌∙◌}
use native.Mathlib.Omega.{arith}
use lib.ListN.{length}
use Rattle.ts.proofs.Dispersal.{part_of_group}
use Rattle.dispersal.proofs.Streams.{stream-length}
use Rattle.dispersal.specs.Register.{start}
use Rattle.ts.proofs.outputs.GroupOutputs.behind_sync.Goals as goal

pub slice_bounds-result-end : goal.slice_bounds-result-end
slice_bounds-result-end c = omega (arith, ap length c.args.self.now.from_start ∙ stream-length 1504 start)

pub returns : goal.returns
returns c = part_of_group c.args.i _ c.args.self.now.bytes.now (omega arith) c.args.self.now.from_start
