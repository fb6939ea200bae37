-- `dispersal::inner::fill_outputs` meets its contract: the first 120 bytes come from the register, and the others from them. Assumes nothing.
use Rattle.dispersal.proofs.Streams.{stream-part-begun}
use Rattle.dispersal.proofs.inner.fill_outputs.Goals as goal

pub go_on_with_outputs-requires : goal.go_on_with_outputs-requires
go_on_with_outputs-requires c =
    let b = c.begin_outputs-2 in stream-part-begun c.args.outputs.now b.new.outputs c.if-outputs-lt120.false b.ensures
