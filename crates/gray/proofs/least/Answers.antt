-- `gray::least` meets its contract: half the levels have the bit, and it takes the least of their squares by pairs. Assumes nothing.
use Rattle.gray.proofs.SoftValues.{least_by_code}
use Rattle.gray.proofs.Squares.{by-one, by_two, by_four}
use Rattle.gray.proofs.least.Goals as goal

pub returns-in-Qpsk : goal.returns-in-Qpsk
returns-in-Qpsk c =
    let a = c.args in
    least_by_code a.order a.x a.place a.bit _ c.requires.0 c.requires.1 (by-one a.order _ _ c.in-Qpsk.is c.squared_with-zero.ensures)

pub returns-in-Qam16 : goal.returns-in-Qam16
returns-in-Qam16 c =
    let a = c.args in
    least_by_code a.order a.x a.place a.bit _ c.requires.0 c.requires.1
    (by_two a.order _ _ _ _ c.in-Qam16.is c.lesser_of.ensures c.squared_with-zero.ensures c.squared_with.ensures)

pub returns-in-Qam64 : goal.returns-in-Qam64
returns-in-Qam64 c =
    let a = c.args in
    least_by_code a.order a.x a.place a.bit _ c.requires.0 c.requires.1
    (by_four a.order _ _ _ _ _ _ c.in-Qam64.is (cc) c.squared_with-zero.ensures c.squared_with-in-Qam64.ensures c.squared_with-in-Qam64-2.ensures
    c.squared_with-in-Qam64-3.ensures)
