-- `tps::lent::next_bit` meets its contract: the tests are those of the definition. Assumes nothing.
use mathlib.Core.Path.{◌≡◌, refl, ap, ◌∙◌}
use mathlib.Core.Bool.{Bool, true, false, cond}
use Prim.Native.Nat.{ℕ}
use mir.Val.{bool_byte}
use borrow.Author.Tests.{eq-eqb, ne_eqb, le-ltb, lt-leb}
use Rattle.std.specs.Prelude.{Ok}
use Rattle.ground.specs.Cells.{plus_zero}
use Rattle.carriers.specs.Mode.{mode2k}
use Rattle.tps.specs.Receive.{first_cells, bit_of}
use Rattle.tps.proofs.lent.next_bit.Goals as goal
use Rattle.tps.proofs.lent.next_bit.Goals.{then-count-ne0, else-count-ne0}

byte : (b : Bool) → bool_byte b ≡ cond b 1 0
byte true = refl
byte false = refl

pub returns : goal.returns
unfolding bit_of plus_zero
returns c =
    let a = c.args in
    let e : c.from.result ≡ bit_of mode2k a.count (first_cells 17 a.cells.now) (first_cells 17 a.prev.now) = elim c.if-count-ne0.branch [
      | then-count-ne0 w ↦ simp (c.from.ensures, w.from-is, w.correlate.ensures, ne_eqb a.count 0 w.if-count-ne0.true) (byte _)
      | else-count-ne0 w ↦ simp (c.from.ensures, w.from-is, eq-eqb a.count 0 w.if-count-ne0.false)
    ] in
    ap (λ (b : ℕ). Ok b) e ∙ simp (le-ltb _ _ c.if-cells-lt-TPS_FLOATS.false, lt-leb _ _ c.if-count-ge-TPS_SYMBOLS_PER_FRAME.false)
