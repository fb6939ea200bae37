-- `tps::receiver::TpsDecoder::bits` meets its contract: the held bits of the symbols that stand are written before
-- what stood behind them. Assumes nothing.
use mathlib.Core.Path.{◌≡◌, ◌∙◌}
use lib.ListN.{length}
use Rattle.tps.proofs.StandingBits.{bits-written, all_bits_stand}
use borrow.Author.Rules.{rules}
use Rattle.tps.proofs.receiver.TpsDecoder.bits.Goals as goal

pub returns-clause-output : goal.returns-clause-output
returns-clause-output c =
    let z = c.args in
    let n = c.standing_count-standing in
    let held = c.held_bits-held in
    let l : length held.result ≡ 68 = search rules in
    (bits-written z.self z.out.now n.result n.ensures c.if-out-standing.false held.result c.copy_from_slice.new.self l
    (held.ensures ∙ all_bits_stand z.self.bits (search rules)) c.copy_from_slice.ensures.after).1
