-- `report::Reader::close` meets its contract: the end stands at the front of an output with room. Assumes nothing.
use Rattle.std.proofs.Common.{rules}
use Rattle.report.specs.Inner.{Puts}
use Rattle.report.specs.Stream.{close_text}
use Rattle.report.proofs.Calls.{text-refused, text-answered, text-left}
use Rattle.report.proofs.Reader.close.Goals as goal

pub returns-then-out : goal.returns-then-out
returns-then-out c =
    let both = text-refused 120 (close_text c.args.self) c.args.out.now c.if-out.true in record { answer = both.0; output = both.1 }

pub returns : goal.returns
unfolding close_text
returns c =
    let t = close_text c.args.self in
    let o = c.args.out.now in
    let h = c.if-out.false in
    let b = c.new-text.ensures.empty in
    let p : Puts c.new-text.result t c.put_close.new.text = rw (c.line.ensures, c.counts.ensures) at c.put_close.ensures.text in
    let k = c.put_close.ensures.room in
    record { answer = text-answered 120 t o h b p k c.len.ensures; output = text-left 120 t o h b p k (search rules) }
