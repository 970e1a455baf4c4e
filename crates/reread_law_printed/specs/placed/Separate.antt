-- Which row may stand directly after which: what the table never puts side by side.
use Rattle.std.specs.Prelude.{◌≡◌, ◌≤◌, ◌<◌, ℕ, List, [], ◌∷◌, ◌++◌}
use Rattle.mc_span.specs.declared.span.Span.{Span}
use Rattle.mc_lex.specs.Tokens.{Tok}
use Rattle.reread_pieces.specs.declared.piece.What.{What}
use Rattle.reread_pieces.specs.declared.piece.What.TheVariants as what
use Rattle.reread_law_texts.specs.alike.Moves.{end_of}
use Rattle.reread_law_rows.specs.inserted.Rows.{Row}
use Rattle.reread_law_printed.specs.parts.Parts.{place_by}
use Rattle.reread_law_printed.specs.parts.Stands.{past_by}

-- No two counted statements begin at one byte, and no declaration begins one: a statement that
-- begins with another is a compound statement or a labelled one (C17 6.8). None is empty.
abbrev pub IsLater : What → Span → What → Span → Type 0
IsLater (what.Statement b) span w other = span.start < place_by w other
IsLater v span w other = Unit {0}

-- A `return` with its exit stands directly in its counted statement.
abbrev pub IsDirectlyIn : What → Span → Span → Type 0
IsDirectlyIn (what.Statement b) span other = span ≡ other
IsDirectlyIn v span other = ⊥

-- Nothing stands between the first token of a label and its colon, and no label at the front of a
-- body.
abbrev pub IsBeforeLabel : What → Span → Span → Type 0
IsBeforeLabel (what.Registers n) span other = ⊥
IsBeforeLabel (what.Entry b) span other = ⊥
IsBeforeLabel (what.Exit b) span other = ⊥
IsBeforeLabel v span other = past_by v span ≤ other.start

-- a row, by the one before it
abbrev pub ComesAfter : What → Span → What → Span → Type 0
ComesAfter v span (what.Statement b) other = IsLater v span (what.Statement b) other
ComesAfter v span (what.Declaration b) other = IsLater v span (what.Declaration b) other
ComesAfter v span what.StatementEnd other = IsLater v span what.StatementEnd other
ComesAfter v span what.Value other = IsDirectlyIn v span other
ComesAfter v span (what.Return b) other = IsDirectlyIn v span other
ComesAfter v span (what.Label r b) other = IsBeforeLabel v span other
ComesAfter v span w other = Unit {0}

-- an end of the same place
abbrev pub Ends : What → What → Span → Span → Type 0
Ends v w span other = (w ≡ v) × (span ≡ other)

-- The first two tokens at a place end at this byte or before it.
pub record HasTwoBefore (tokens : List Tok) (span : Span) (at : ℕ) : Type 0 where
  pub before : List Tok
  pub first : Tok
  pub second : Tok
  pub after : List Tok
  pub all : tokens ≡ before ++ first ∷ second ∷ after
  pub start : first.start ≡ span.start
  pub end : end_of second ≤ at

-- the next row, by a row
abbrev pub ComesBefore : List Tok → What → Span → What → Span → Type 0
-- What stands in a declaration stands in an initializer (C17 6.7.9); an exit has the place of its
-- function.
ComesBefore tokens (what.Declaration b) span (what.Exit c) other = Unit {0}
ComesBefore tokens (what.Declaration b) span w other =
    HasTwoBefore tokens span (place_by w other)
-- An absent `default` stands at the end of its counted statement, and nothing stands in a `return`
-- without a value.
ComesBefore tokens (what.Default r b) span w other = Ends what.StatementEnd w span other
ComesBefore tokens (what.Return b) span w other = Ends what.ReturnEnd w span other
ComesBefore tokens v span w other = Unit {0}

-- the last row of a text
abbrev pub MayBeLast : What → Type 0
MayBeLast (what.Default r b) = ⊥
MayBeLast v = Unit {0}

abbrev pub AreSeparateAfter : List Tok → What → Span → List Row → Type 0
AreSeparateAfter tokens v span [] = MayBeLast v
AreSeparateAfter tokens v span (r ∷ rows) =
    ComesAfter v span r.what r.span × ComesBefore tokens v span r.what r.span
    × AreSeparateAfter tokens r.what r.span rows

-- A text begins as it goes on after an end.
abbrev pub AreSeparate : List Tok → List Row → Type 0
AreSeparate tokens rows =
    AreSeparateAfter tokens what.Closing (record { start = 0; end = 0 }) rows
