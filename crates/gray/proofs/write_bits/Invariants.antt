-- `gray::write_bits` meets its contract: two bits a turn, from the output's front. Assumes nothing.
use Prim.Native.Nat.{◌*◌}
use mathlib.Core.Path.{◌≡◌}
use Rattle.ground.proofs.Front.{front}
use Rattle.gray.specs.Hard.{bits_in_turn}
use Rattle.gray.proofs.write_bits.Given as goal

abbrev pub invariant-loop-j : goal.invariant-loop-j
invariant-loop-j l = l.out ≡ front (bits_in_turn l.count l.i l.q) (2 * l.j) l.initial.out
