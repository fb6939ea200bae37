-- `bch::tps_bch_decode_by` meets its contract: the search names the places of the codeword within distance two, by
-- whichever decoder. Assumes nothing.
use mathlib.Core.Path.{sym, ap, ◌∙◌, subst}
use mathlib.Core.List.{List}
use Prim.Native.Nat.{ℕ}
use lib.ListN.{length, take}
use lib.Seq.{length-take-le}
use Rattle.ground.specs.Bits.{Bits}
use Rattle.ground.proofs.Bits.{bits_of_lem}
use Rattle.std.specs.Prelude.{Option, Some}
use Rattle.bch.specs.declared.search.Found.{Found}
use Rattle.bch.specs.Search.{mended, Changes}
use Rattle.bch.proofs.Answer.{decode_found}
use Rattle.bch.proofs.tps_bch_decode_by.Goals as goal

pub slice_bounds-put_information-end-2 : goal.slice_bounds-put_information-end-2
slice_bounds-put_information-end-2 c = let h = c.in_ok-code.ensures in sym (length-take-le 53 c.args.out.now h.2)

pub put_information-requires : goal.put_information-requires
put_information-requires c = let h = c.in_ok-code.ensures in length-take-le 53 c.args.out.now h.2

pub returns : goal.returns
returns c =
    let w = c.args.code.now in
    let l = c.in_ok-code.code in
    let h = c.in_ok-code.ensures in
    let f = c.in_ok-found in
    let p = c.put_information in
    decode_found w c.args.out.now f.found c.from.result p.new.out h.0 (subst (λ (v : List ℕ). Bits v) h.1 (bits_of_lem l.bits.now l.right)) (ap length (sym h.1) ∙ l.size)
    (subst (λ (v : List ℕ). Changes v (Some f.found)) h.1 (subst (λ (g : Option Found). Changes l.bits.now g) f.ensures.ok_part c.changes.ensures))
    c.from.ensures (p.ensures ∙ ap (λ (v : List ℕ). take 53 (mended v f.found)) h.1)
