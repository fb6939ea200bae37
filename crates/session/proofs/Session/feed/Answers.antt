-- `session::Session::feed` meets its contract: the callees give the data cells, the journal and the bit. Assumes nothing.
use mathlib.Core.Path.{sym, ◌∙◌}
use Rattle.carriers.specs.Mode.{mode2k}
use Rattle.session.proofs.Calls.{fed_done}
use Rattle.session.proofs.Session.feed.Goals as goal

pub returns : goal.returns
returns c =
    let a = c.args in
    fed_done mode2k a.self a.symbol.now a.out.now a.journal.now
    c.if-symbol-lt-SYMBOL_FLOATS.false c.if-out-lt-DATA_FLOATS.false c.if-journal-lt-JOURNAL_FLOATS.false
    (sym c.is_full.ensures ∙ c.if-is_full.false) c.opened-session.ensures.session
    c.extract_symbol.ensures.out_after c.tps_cells-cells.ensures c.put_cells.ensures c.take_bit.ensures
