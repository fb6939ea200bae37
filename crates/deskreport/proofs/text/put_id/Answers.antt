-- `deskreport::text::put_id` meets its contract: its five characters are those of the definition. Assumes nothing.
use Rattle.std.proofs.Common.{◌≡◌, ℕ, ◌/◌, ◌%◌, [], ◌∷◌, ap, ◌∙◌, arith, mod-eq_of_lt}
use Rattle.report.proofs.Texts.{puts_then}
use Rattle.deskreport.proofs.text.put_id.Goals as goal

pub returns-clause-text : goal.returns-clause-text
returns-clause-text c =
    let id = c.args.id in
    let bytes : c.to_be_bytes.result ≡ id / 256 ∷ id % 256 ∷ [] =
    c.to_be_bytes.ensures ∙ ap (λ (high : ℕ). high ∷ id % 256 ∷ []) (mod-eq_of_lt (omega arith)) in
    puts_then c.put.ensures (puts_then (rw bytes at c.put_cell.ensures.text) (rw bytes at c.put_cell-2.ensures.text))
