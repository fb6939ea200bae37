-- `dispersal::inner::begin_outputs` meets its contract: zeros that are whitened are the outputs. Assumes nothing.
use lib.ListN.{length}
use Rattle.dispersal.proofs.Whitening.{stream-begins}
use Rattle.dispersal.proofs.inner.begin_outputs.Goals as goal

pub returns : goal.returns
returns c =
    let f = c.feed_in_place in
    let n = c.new in
    let z = c.fill in
    stream-begins (length c.args.outputs.now) n.result.reg z.new.self f.new.bytes n.ensures (z.ensures.after (λ y e. e)) f.ensures.bytes
