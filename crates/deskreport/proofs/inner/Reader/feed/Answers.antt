-- `deskreport::inner::Reader::feed` meets its contract: the texts stand at the front of an output with room. Assumes
-- nothing.
use Rattle.std.proofs.Common.{arith, rules}
use Rattle.report.specs.Calls.{part_room}
use Rattle.report.proofs.Calls.{text-left}
use Rattle.deskreport.specs.Stream.{feed_text}
use Rattle.deskreport.proofs.inner.Reader.feed.Goals as goal

pub returns-clause-output : goal.returns-clause-output
returns-clause-output c =
    let part = c.args.part.now in
    let p = c.put_part-line.ensures in
    text-left (part_room part) (feed_text c.args.self part) c.args.out.now (omega arith) c.new-text.ensures.empty p.written p.room (search rules)
