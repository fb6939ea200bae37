-- `bch::tps_bch_encode` meets its contract: the codeword is written before what stood behind it. Assumes nothing.
use mathlib.Core.Path.{sym, ap, ◌∙◌}
use lib.ListN.{length}
use lib.Seq.{length-take-le}
use Rattle.bch.specs.Code.{encode}
use Rattle.bch.proofs.Codeword.{encode-length}
use Rattle.bch.proofs.Answer.{encode-accepted}
use Rattle.bch.proofs.tps_bch_encode.Goals as goal

pub slice_bounds-put_codeword-end-2 : goal.slice_bounds-put_codeword-end-2
slice_bounds-put_codeword-end-2 c = let h = c.in_ok-info.ensures in sym (length-take-le 67 c.args.out.now h.2)

pub put_codeword-requires : goal.put_codeword-requires
put_codeword-requires c = let h = c.in_ok-info.ensures in length-take-le 67 c.args.out.now h.2

pub returns : goal.returns
returns c =
    let z = c.args in
    let l = c.in_ok-info.info in
    let h = c.in_ok-info.ensures in
    let both = encode-accepted z.info.now z.out.now c.put_codeword.new.out h.0 (encode-length z.info.now (ap length (sym h.1) ∙ l.size)) (c.put_codeword.ensures ∙ ap encode h.1) in
    record { answer = both.0; output = both.1 }
