-- Document 01, 'Report program': its input and its output are characters, each one byte; a text stands here as the
-- list of its characters' codes.
use Rattle.std.specs.Prelude.{ℕ, List, [], ◌∷◌}
use Prim.Native.Char.{code}
use Prim.Native.String.{String, [] as empty, ◌∷◌ as ◌then◌}

-- the codes of a text's characters
abbrev pub characters : String → List ℕ
characters empty = []
characters (c then s) = code c ∷ characters s

abbrev pub newline : ℕ
newline = code "\n"

abbrev pub space : ℕ
space = code " "
