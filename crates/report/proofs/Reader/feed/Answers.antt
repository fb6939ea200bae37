-- `report::Reader::feed` meets its contract: the part is taken where the output has the room. Assumes nothing.
use Rattle.std.proofs.Common.{◌≤◌, length, arith, rules}
use Rattle.report.specs.Stream.{feed_text}
use Rattle.report.specs.Calls.{part_room}
use Rattle.report.proofs.Calls.{part-refused, part-answered, text-left}
use Rattle.report.proofs.Reader.feed.Goals as goal

pub returns-then-out-part : goal.returns-then-out-part
returns-then-out-part c =
    let s = c.args in let both = part-refused s.self s.part.now s.out.now (omega arith) in record { answer = both.0; output = both.1 }

pub returns : goal.returns
returns c =
    let r = c.args.self in
    let part = c.args.part.now in
    let o = c.args.out.now in
    let h : part_room part ≤ length o = omega arith in
    let p = rw (c.line.ensures, c.counts-counts.ensures) at c.put_part-line.ensures in
    let b = c.new-text.ensures.empty in
    record {
      answer = part-answered r part o h b p c.len.ensures;
      output = text-left (part_room part) (feed_text r part) o h b p.written p.room (search rules);
    }
