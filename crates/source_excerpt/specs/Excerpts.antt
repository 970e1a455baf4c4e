-- What is shown of a source.
use Rattle.std.specs.Prelude.{ℕ, List, take, drop}
use Rattle.mc_span.specs.declared.span.Span.{Span}
use Rattle.source_excerpt.specs.Blanks.{on_one_line}
use Rattle.source_excerpt.specs.Comments.{without_comments}

-- what stands at a place; a place that passes the source's end is cut there
abbrev pub bytes_at : List ℕ → Span → List ℕ
bytes_at source span = drop span.start (take span.«end» source)

-- the greatest number of bytes on the line
abbrev pub most_shown : ℕ
most_shown = 60

-- the bytes on one line: comments and white space in a row are one blank, with none at the front
-- and at the end, also where the line is cut
abbrev pub one_line : List ℕ → List ℕ
one_line bytes = on_one_line (take most_shown (on_one_line (without_comments bytes)))
