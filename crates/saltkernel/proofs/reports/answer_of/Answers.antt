-- `saltkernel::reports::answer_of` meets its contract: a word that codes don't say is RESERVED. Assumes nothing.
use Rattle.std.proofs.Common.{◌≡◌, Err, sym, ap, ◌∙◌, eq-eqb}
use Rattle.std.proofs.lemmas.Result.{err_from_is_err_and}
use Rattle.tps.proofs.Codes.{word_refused}
use Rattle.saltkernel.specs.Words.{word_in}
use Rattle.saltkernel.proofs.reports.answer_of.Goals as goal

pub returns-in_err-word : goal.returns-in_err-word
returns-in_err-word c =
    let p = err_from_is_err_and c.from_residual.result c.from_residual.ensures.1 in
    let r = c.in_err-word.field-0.0 in
    let e : word_in c.args.answer.word ≡ Err r = sym c.try_from.ensures ∙ c.in_err-word.was in
    rw (p.1, p.2) (simp (eq-eqb _ 0 c.if-answer-ne0.false, e) (ap Err (word_refused _ r e)))
