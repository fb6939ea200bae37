-- `deskreport::inner::Reader::close` meets its contract: the end stands at the front of an output with room. Assumes
-- nothing.
use Rattle.std.proofs.Common.{rules}
use Rattle.deskreport.specs.Stream.{close_text}
use Rattle.report.proofs.Calls.{text-refused, text-answered, text-left}
use Rattle.deskreport.proofs.inner.Reader.close.Goals as goal

pub returns-then-out-lt-CLOSE_ROOM : goal.returns-then-out-lt-CLOSE_ROOM
returns-then-out-lt-CLOSE_ROOM c =
    let both = text-refused 150 (close_text c.args.self) c.args.out.now c.if-out-lt-CLOSE_ROOM.true in record { answer = both.0; output = both.1 }

pub returns : goal.returns
unfolding close_text
returns c =
    let t = close_text c.args.self in
    let o = c.args.out.now in
    let h = c.if-out-lt-CLOSE_ROOM.false in
    let b = c.new-text.ensures.empty in
    let p = c.put_close.ensures.text in
    let k = c.put_close.ensures.room in
    record { answer = text-answered 150 t o h b p k c.len.ensures; output = text-left 150 t o h b p k (search rules) }
