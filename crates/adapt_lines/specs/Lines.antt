-- The lines on what stays outside the language.
use Rattle.std.specs.Prelude.{ℕ, Bool, List, [], ◌∷◌, ◌++◌, map, codes, if◌then◌else◌}
use Rattle.std.specs.List.{concat}
use Rattle.std.specs.Fmt.{decimal}
use Rattle.mc_lex.specs.Lines.{line_of, column_of}
use Rattle.mc_adapt.specs.Outside.{Refusal}
use Rattle.mc_adapt.specs.Reasons.{reason_words, shows_text}

-- the bytes of the piece stand after the reason, where they say more than it
abbrev pub piece_after : Bool → List ℕ → List ℕ
piece_after shown text = if shown then concat (codes " " ∷ text ∷ []) else []

-- a place in the source, and why the piece that starts there is refused
abbrev pub front_text : (line column : ℕ) → List ℕ → List ℕ
front_text line column why =
    concat (codes "mcdc: source " ∷ decimal line ∷ codes ":" ∷ decimal column ∷ codes ": " ∷ why
    ∷ [])

-- the line on a piece: its line and column, which are counted from 1, and why it is refused
abbrev pub refusal_line : (source : List ℕ) → Refusal → List ℕ
refusal_line source r =
    front_text (line_of source r.at) (column_of source r.at) (reason_words r.why)
    ++ piece_after (shows_text r.why) r.text ++ codes "\n"

-- a line for each
abbrev pub refusal_lines : (source : List ℕ) → List Refusal → List ℕ
refusal_lines source rs = concat (map (refusal_line source) rs)
