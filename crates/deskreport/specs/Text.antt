-- Document 02, E3: the texts of the desk's report, in the columns of document 01's report.
use Rattle.std.specs.Prelude.{ℕ, ◌/◌, ◌%◌, List, [], ◌∷◌, ◌++◌, Some, None, Ok, Err}
use Rattle.ground.specs.Refusal.{code_of}
use Rattle.desk.specs.declared.SuperFrame.{SuperFrame}
use Rattle.desk.specs.Desk.{Answer}
use Rattle.report.specs.Characters.{characters}
use Rattle.report.specs.Text.{decimal, cell_text, points_text, rate_text, guard_text, row, line_text}
use Rattle.deskreport.specs.declared.inner.Tally.{Tally}

unfoldable pub heading : List ℕ
heading = characters "line id points rate guard\n"

-- a cell id in four digits, the high byte's first
abbrev pub id_text : ℕ → List ℕ
id_text id = cell_text (id / 256) ++ cell_text (id % 256)

-- the line of a complete super-frame, by the number of the line that completes it
unfoldable pub frame_text : ℕ → SuperFrame → List ℕ
frame_text n s =
    row
    (decimal n
    ∷ id_text s.cell_id
    ∷ points_text s.constellation
    ∷ rate_text s.code_rate_hp
    ∷ guard_text s.guard
    ∷ [])

-- the text of an answer: none for a word that is gathered, and document 01's for a refusal
abbrev pub answer_text : ℕ → Answer → List ℕ
answer_text n (Ok None) = []
answer_text n (Ok (Some s)) = frame_text n s
answer_text n (Err r) = line_text n (Err (code_of r))

-- the closing line: all lines, the complete super-frames, and the refusals
unfoldable pub closing : Tally → List ℕ
closing k =
    row
    (characters "read"
    ∷ decimal k.lines
    ∷ characters "complete"
    ∷ decimal k.complete
    ∷ characters "refused"
    ∷ decimal k.refused
    ∷ [])
