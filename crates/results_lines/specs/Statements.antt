-- The text of a statement on one line.
use Rattle.std.specs.Prelude.{ℕ, ◌-◌, ◌==◌, Bool, if◌then◌else◌, List, [], ◌++◌, drop, take_while, slice_index_or, Option, Some, None}
use Rattle.mc_lex.specs.Bytes.{goes_on}
use Rattle.mc_span.specs.declared.span.Span.{Span}
use Rattle.source_excerpt.specs.Excerpts.{bytes_at, one_line}

-- A statement without a body stands at its place as a whole, to its `;`. One with a body is at its
-- keyword (C17 6.8.4, 6.8.5).
abbrev pub is_whole : List ℕ → Span → Bool
is_whole source span = slice_index_or source (span.end - 1) 0 == 59

-- the rest of a line
abbrev pub to_line_end : List ℕ → List ℕ
to_line_end bytes = take_while goes_on bytes

-- to its end, or of a statement with a body to the end of the line of its keyword
abbrev pub stretch : List ℕ → Span → List ℕ
stretch source span =
    if is_whole source span then bytes_at source span else
    bytes_at source span ++ to_line_end (drop span.end source)

abbrev pub statement_text : List ℕ → Option Span → List ℕ
statement_text source None = []
statement_text source (Some span) = one_line (stretch source span)
