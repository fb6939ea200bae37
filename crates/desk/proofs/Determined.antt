-- Two results that meet the promise of one call of the desk are equal. Assumes nothing.
use Rattle.ground.proofs.Answers.{OneAnswer, one_answer}
use Rattle.tps.specs.declared.word.TpsWord.{TpsWord}
use Rattle.desk.specs.declared.Desk.{Desk}
use Rattle.desk.specs.Desk.{fresh, take_answer}

pub new_determined : OneAnswer fresh
new_determined = one_answer fresh

pub take_determined : (d : Desk) (w : TpsWord) → OneAnswer (take_answer d w)
take_determined d w = one_answer (take_answer d w)
