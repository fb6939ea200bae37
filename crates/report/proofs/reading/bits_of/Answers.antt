-- `report::reading::bits_of` meets its contract: the bits are filled from the front, four a turn. Assumes nothing.
use Rattle.std.proofs.Common.{◌≡◌, ℕ, Ok, length, replicate, sym, ap, ◌∙◌, arith, take_all, eq-eqb}
use lib.ListN.{length-replicate}
use Rattle.report.specs.Reading.{bits_of}
use Rattle.report.proofs.Texts.{sets_whole}
use Rattle.report.proofs.Digits.{bits-turn, bits-length}
use Rattle.report.proofs.reading.bits_of.Goals as goal

pub loop-i-preserved : goal.loop-i-preserved
loop-i-preserved c =
    rw c.loop-i.invariant (bits-turn (replicate 68 0) c.args.line.now c.loop-i.i c.digit_value-digit.result c.loop-i-test.true c.digit_value-digit.ensures)

pub returns : goal.returns
returns c =
    let l = c.args.line.now in
    let h = c.if-line-ne17.false in
    let n : length {A = ℕ} (replicate 68 0) ≡ length (bits_of l) = length-replicate {A = ℕ} 68 0 ∙ omega (arith, bits-length l) in
    simp (eq-eqb (length l) 17 h, sym c.all_digits.ensures ∙ c.if-not-all_digits.false)
    (ap Ok (c.loop-i.invariant ∙ rw (take_all c.loop-i.i l (omega arith)) (sets_whole (replicate 68 0) (bits_of l) n)))
