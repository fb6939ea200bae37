-- `deskreport::text::put_frame` meets its contract: the columns stand one behind the other. Assumes nothing.
use Rattle.std.proofs.Common.{append_assoc}
use Rattle.report.proofs.Texts.{puts_then}
use Rattle.deskreport.specs.Text.{frame_text}
use Rattle.deskreport.proofs.text.put_frame.Goals as goal

pub returns-clause-text : goal.returns-clause-text
unfolding frame_text
returns-clause-text c =
    puts_then c.put_decimal.ensures.text (puts_then c.put_id.ensures.text (simp append_assoc at (puts_then c.put_columns.ensures.text c.put.ensures)))
