-- `saltkernel::words::packed` meets its contract: codes that say no word are reserved. Assumes nothing.
use mathlib.Core.Path.{◌≡◌, sym, ap, ◌∙◌}
use Rattle.std.specs.Prelude.{Err}
use Rattle.tps.proofs.Codes.{word_refused}
use Rattle.saltkernel.specs.Words.{word_in, is_reserved}
use Rattle.saltkernel.proofs.WordCodes.{codes_reserved}
use borrow.Author.Rules.{rules}
use Rattle.saltkernel.proofs.words.packed.Goals as goal

pub returns-in_err-try_from-clause-answer : goal.returns-in_err-try_from-clause-answer
returns-in_err-try_from-clause-answer c =
    let z = c.args in
    let e : word_in z.word ≡ Err c.in_err-try_from.field-0.0 = sym c.try_from.ensures ∙ c.in_err-try_from.was in
    let turned : c.from_residual.result ≡ Err c.in_err-try_from.field-0.0 = search rules in
    rw (codes_reserved 68 (is_reserved (word_in z.word)) z.out.now c.if-out-lt-TPS_WORD_BITS.false (ap is_reserved e))
    (turned ∙ ap Err (word_refused _ c.in_err-try_from.field-0.0 e))
