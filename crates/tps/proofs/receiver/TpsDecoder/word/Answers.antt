-- `tps::receiver::TpsDecoder::word` meets its contract: the count is tested, and the held bits are unpacked. Assumes
-- nothing.
use mathlib.Core.Path.{◌∙◌}
use Rattle.tps.proofs.StandingBits.{word_unpacks, all_bits_stand}
use borrow.Author.Rules.{rules}
use Rattle.tps.proofs.receiver.TpsDecoder.word.Goals as goal

pub returns : goal.returns
returns c = word_unpacks c.args.self c.if-self-lt-TPS_SYMBOLS_PER_FRAME.false c.unpack.result c.held_bits.result (c.held_bits.ensures ∙ all_bits_stand c.args.self.bits (search rules)) c.unpack.ensures
