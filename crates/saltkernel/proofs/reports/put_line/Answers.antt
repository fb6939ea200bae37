-- `saltkernel::reports::put_line` meets its contract: an answer that can't be read is refused. Assumes nothing.
use Rattle.std.proofs.Common.{◌≡◌, Bool, true, false, cond, Ok, Err, sym, refl, ap, ◌∙◌}
use Rattle.std.proofs.lemmas.Result.{err_from_is_err_and}
use Rattle.ground.specs.declared.Refusal.{Refusal}
use Rattle.ground.specs.declared.Refusal.TheVariants.{Reserved}
use Rattle.saltkernel.specs.Reports.{reserved_in}
use Rattle.saltkernel.proofs.WordCodes.{codes_reserved}
use Rattle.saltkernel.proofs.reports.put_line.Goals as goal

refused-by : {A : Type 0} (t : Bool) (a : A) (r : Refusal) → cond t (Err Reserved) (Ok a) ≡ Err r → (t ≡ true) × (r ≡ Reserved)
refused-by true a r e = (refl, cc)
refused-by false a r e = cc

pub returns-in_err-answer_of : goal.returns-in_err-answer_of
returns-in_err-answer_of c =
    let p = err_from_is_err_and c.from_residual.result c.from_residual.ensures.1 in
    let r = c.in_err-answer_of.field-0.0 in
    let e = refused-by (reserved_in c.args.answer) _ r (sym c.answer_of.ensures ∙ c.in_err-answer_of.was) in
    let n = codes_reserved 60 (reserved_in c.args.answer) c.args.out.now c.if-out-lt-LINE_ROOM.false e.0 in
    rw (p.1, p.2, n) (record { answer = ap Err e.1; output = refl })
