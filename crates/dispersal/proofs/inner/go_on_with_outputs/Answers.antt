-- `dispersal::inner::go_on_with_outputs` meets its contract: the stream is filled on from its first 120 bytes. Assumes nothing.
use mathlib.Core.Path.{refl}
use native.Mathlib.Omega.{arith}
use lib.ListN.{length}
use Rattle.dispersal.proofs.Streams.{stream-next, stream-begun, stream_end}
use Rattle.dispersal.proofs.inner.go_on_with_outputs.Goals as goal

pub loop-i-init : goal.loop-i-init
loop-i-init c = let s = c.args.outputs.now in let b = c.requires in stream-begun (length s) s refl b.long b.first

pub loop-i-preserved : goal.loop-i-preserved
loop-i-preserved c =
    let l = c.loop-i in
    let s = c.args.outputs.now in
    stream-next (length s) s l.outputs l.i refl (omega arith) (omega arith) l.invariant

pub returns : goal.returns
returns c = let l = c.loop-i in let s = c.args.outputs.now in stream_end (length s) s l.outputs l.i refl (omega (arith, c.requires.long)) l.invariant
