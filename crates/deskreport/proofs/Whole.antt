-- However an input is cut into parts, the desk's report of the parts is that of the whole input. Assumes nothing.
use Rattle.std.proofs.Common.{◌≡◌, ℕ, List, [], ◌∷◌, ◌++◌, refl, ap, ◌∙◌}
use Rattle.report.specs.OpenLine.{joined}
use Rattle.report.proofs.Telling.{tell_parts, told_in_parts}
use Rattle.deskreport.specs.declared.inner.Reader.{Reader}
use Rattle.deskreport.specs.Text.{heading}
use Rattle.deskreport.specs.Telling.{start, teller}
use Rattle.deskreport.specs.Report.{report}
use Rattle.deskreport.specs.Stream.{fresh, feed_text, feed_reader, close_text}

-- what the calls write for parts in turn, and at the input's end, where a reader s takes them
abbrev pub written_for : Reader → List (List ℕ) → List ℕ
written_for s [] = close_text s
written_for s (p ∷ ps) = feed_text s p ++ written_for (feed_reader s p) ps

tells : (s : Reader) (parts : List (List ℕ)) → written_for s parts ≡ tell_parts teller s.line s.tally parts
unfolding close_text
tells s [] = refl
tells s (p ∷ ps) = ap (λ (t : List ℕ). feed_text s p ++ t) (tells (feed_reader s p) ps)

pub told-whole : (parts : List (List ℕ)) → heading ++ written_for fresh parts ≡ report (joined parts)
told-whole parts = ap (λ (t : List ℕ). heading ++ t) (tells fresh parts ∙ told_in_parts teller start parts)
