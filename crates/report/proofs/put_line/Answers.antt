-- `report::put_line` meets its contract: the line stands at the front of an output with room. Assumes nothing.
use Rattle.std.proofs.Common.{rules}
use Rattle.report.specs.Text.{line_text}
use Rattle.report.proofs.Calls.{text-refused, text-answered, text-left}
use Rattle.report.proofs.put_line.Goals as goal

pub returns-then-out-lt-LINE_ROOM : goal.returns-then-out-lt-LINE_ROOM
returns-then-out-lt-LINE_ROOM c =
    let s = c.args in
    let both = text-refused 60 (line_text s.number s.answer) s.out.now c.if-out-lt-LINE_ROOM.true in
    record { answer = both.0; output = both.1 }

pub returns : goal.returns
returns c =
    let t = line_text c.args.number c.args.answer in
    let o = c.args.out.now in
    let h = c.if-out-lt-LINE_ROOM.false in
    let p = c.put_answer.ensures in
    let b = c.new-text.ensures.empty in
    record { answer = text-answered 60 t o h b p.text p.room c.len.ensures; output = text-left 60 t o h b p.text p.room (search rules) }
