-- `ts::dispersing::sync` meets its contract: each way out is the case that its test chooses. Assumes nothing.
use mathlib.Core.Path.{sym, ap}
use mathlib.Core.Bool.{cond}
use Prim.Native.Nat.{ℕ}
use lib.Bits.{bit_xor}
use borrow.Author.Tests.{eq-eqb, ne_eqb}
use Rattle.ts.specs.Dispersal.{sync}
use Rattle.ts.proofs.dispersing.sync.Goals as goal

pub returns-then-i-eq0 : goal.returns-then-i-eq0
unfolding sync
returns-then-i-eq0 c = let b : ℕ = c.args.byte in sym (ap (λ t. cond t (bit_xor b 0xFF) b) (eq-eqb _ _ c.if-i-eq0.true))

pub returns-else-i-eq0 : goal.returns-else-i-eq0
unfolding sync
returns-else-i-eq0 c = let b : ℕ = c.args.byte in sym (ap (λ t. cond t (bit_xor b 0xFF) b) (ne_eqb _ _ c.if-i-eq0.false))
