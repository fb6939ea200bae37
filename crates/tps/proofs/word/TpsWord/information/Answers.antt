-- `tps::word::TpsWord::information` meets its contract: the number is that of the table's fields behind one another.
-- Assumes nothing.
use Rattle.tps.proofs.Fields.{information-value}
use borrow.Author.Rules.{rules}
use Rattle.tps.proofs.word.TpsWord.information.Goals as goal

pub returns : goal.returns
returns c =
    let sync = c.sync_word in
    let codes = c.from-codes in
    let w = c.args.self in
    information-value w codes.result sync.result _ codes.ensures (search rules) sync.ensures (cc (c.from.ensures, c.from-2.ensures, c.from-3.ensures, c.from-4.ensures, c.from-5.ensures))
