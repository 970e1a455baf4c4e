-- How a place is written: `modes.c:12 (1042:7)`.
use Rattle.std.specs.Prelude.{ℕ, List, [], ◌∷◌, Option, Some, None, codes}
use Rattle.std.specs.List.{concat}
use Rattle.std.specs.Fmt.{decimal}
use Rattle.mc_lex.specs.Lines.{line_of, column_of}
use Rattle.mc_places.specs.Origins.{Origin, origin_at}

-- the line and the column in the text
abbrev pub here_text : (line column : ℕ) → List ℕ
here_text line column = concat (decimal line ∷ codes ":" ∷ decimal column ∷ [])

-- where a file and line are known, these come first
abbrev pub place_with : Option Origin → (line column : ℕ) → List ℕ
place_with None line column = here_text line column
place_with (Some o) line column =
    concat (o.file ∷ codes ":" ∷ decimal o.line ∷ codes " (" ∷ here_text line column ∷ codes ")"
    ∷ [])

abbrev pub place_text : (text : List ℕ) (at : ℕ) → List ℕ
place_text text at = place_with (origin_at text at) (line_of text at) (column_of text at)
