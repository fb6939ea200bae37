-- `report::put_heading` meets its contract: the heading stands at the front of an output with room. Assumes nothing.
use Rattle.std.proofs.Common.{◌+◌, ◌≤◌, arith, rules}
use Rattle.report.specs.Text.{heading}
use Rattle.report.proofs.Calls.{text-refused, text-answered, text-left}
use Rattle.report.proofs.put_heading.Goals as goal

pub returns-then-out-lt-HEADING_LEN : goal.returns-then-out-lt-HEADING_LEN
unfolding heading
returns-then-out-lt-HEADING_LEN c =
    let both = text-refused 41 heading c.args.out.now c.if-out-lt-HEADING_LEN.true in record { answer = both.0; output = both.1 }

pub returns : goal.returns
unfolding heading
returns c =
    let o = c.args.out.now in
    let h = c.if-out-lt-HEADING_LEN.false in
    let p = c.put.ensures in
    let b = c.new-text.ensures.empty in
    let k : c.put.new.self.len ≤ c.new-text.result.len + 41 = omega (arith, p.next) in
    record { answer = text-answered 41 heading o h b p k c.len.ensures; output = text-left 41 heading o h b p k (search rules) }
