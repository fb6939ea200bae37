-- `tps::word::TpsWord::pack` meets its contract: the three parts of the word are written from the output's front.
-- Assumes nothing.
use Rattle.tps.proofs.Packing.{pack_accepted}
use Rattle.tps.proofs.word.TpsWord.pack.Goals as goal

pub returns : goal.returns
returns c =
    let second = c.put_digits-2 in
    let first = c.put_digits in
    let parity = c.parity_of-parity in
    let number = c.information-information in
    let l = c.if-out-lt-TPS_SYMBOLS_PER_FRAME.false in
    let z = c.args in let both = pack_accepted z.self z.out.now l number.result number.ensures first.new.out first.ensures
    parity.result parity.ensures second.new.out second.ensures in record { answer = both.0; output = both.1 }
