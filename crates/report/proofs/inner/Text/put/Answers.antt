-- `report::inner::Text::put` meets its contract: the part behind the text is written over. Assumes nothing.
use Rattle.std.proofs.Common.{◌≡◌, ◌+◌, ◌-◌, length, refl, ap, ◌∙◌, arith}
use borrow.Rule.Slice.PartMut.{put_mid}
use lib.Seq.{sets, length-sets}
use Rattle.report.proofs.Texts.{part-sets}
use Rattle.report.proofs.inner.Text.put.Goals as goal

pub returns : goal.returns
returns c =
    let s = c.args.self.now in
    let t = c.args.characters.now in
    let n = s.len in
    let e : put_mid n (n + length t - n) s.out.now c.copy_from_slice.new.self ≡ sets s.out.now n t =
    rw c.copy_from_slice.ensures.after (part-sets s.out.now t n (n + length t - n) c.requires (omega arith)) in
    record { same = refl; list = e; next = refl; size = ap length e ∙ length-sets s.out.now n t }
