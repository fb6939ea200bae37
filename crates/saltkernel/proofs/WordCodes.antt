-- What a call over the C interface answers that takes a word by codes, where one of them stands for nothing. Assumes
-- nothing.
use mathlib.Core.Path.{◌≡◌, ap, ◌∙◌}
use mathlib.Core.Bool.{Bool, true, cond}
use mathlib.Core.List.{List}
use Prim.Native.Nat.{ℕ, ◌≤◌}
use lib.ListN.{length}
use borrow.Author.Tests.{le-ltb}
use Rattle.ground.specs.Refusal.{OUTPUT_SHORT, RESERVED}
use Rattle.saltkernel.specs.Words.{codes_no}

pub codes_reserved : (room : ℕ) (nothing : Bool) (o : List ℕ) → room ≤ length o → nothing ≡ true → codes_no room nothing o ≡ RESERVED
codes_reserved room nothing o h e =
    ap (λ (b : Bool). codes_no room b o) e ∙ ap (λ (b : Bool). cond b OUTPUT_SHORT RESERVED) (le-ltb (length o) room h)
