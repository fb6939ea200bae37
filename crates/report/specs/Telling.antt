-- Document 01, 'Report program', and document 02, E3: a report that is told line by line. What it keeps between lines
-- is moved on by the answer to each line, each answer has a text, and behind the last line stands a closing text.
use Rattle.std.specs.Prelude.{ℕ, List, [], ◌∷◌, ◌++◌}
use Rattle.tps.specs.Packing.{Unpacked}

pub record Teller (Kept : Type 0) : Type 0 where
  pub moved : Kept → Unpacked → Kept
  pub text : Kept → Unpacked → List ℕ
  pub closing : Kept → List ℕ

module _ {Kept : Type 0} (t : Teller Kept) where
  -- what is kept where lines with these answers have ended
  abbrev pub kept_after : Kept → List Unpacked → Kept
  kept_after k [] = k
  kept_after k (a ∷ r) = kept_after (t.moved k a) r

  -- what is written for them
  abbrev pub text_over : Kept → List Unpacked → List ℕ
  text_over k [] = []
  text_over k (a ∷ r) = t.text k a ++ text_over (t.moved k a) r

  -- and the closing text
  abbrev pub rest_text : Kept → List Unpacked → List ℕ
  rest_text k r = text_over k r ++ t.closing (kept_after k r)
