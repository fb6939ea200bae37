-- `gray::write_bits` meets its contract: two bits a turn, from the output's front. Assumes nothing.
use Prim.Native.Nat.{◌*◌}
use native.Mathlib.Omega.{arith}
use mathlib.Core.Path.{refl}
use Rattle.ground.proofs.Front.{front-whole}
use Rattle.gray.specs.Hard.{bits_in_turn}
use Rattle.gray.proofs.IndexBits.{in_turn_length, in_turn_next}
use Rattle.gray.proofs.write_bits.Goals as goal

pub loop-j-preserved : goal.loop-j-preserved
loop-j-preserved c =
    let l = c.loop-j in
    let a = c.args in
    in_turn_next a.count a.i a.q l.j _ _ a.out.now l.out c.loop-j-test.true c.requires.1 l.invariant refl refl

pub returns : goal.returns
returns c =
    let l = c.loop-j in
    let a = c.args in
    front-whole (bits_in_turn a.count a.i a.q) a.out.now l.out (2 * l.j) (omega (arith, in_turn_length a.count a.i a.q)) l.invariant
