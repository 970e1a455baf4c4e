-- The brackets of C for those that the table inserts: parentheses round expressions and braces
-- round statements, each at the place of what it encloses.
use Rattle.std.specs.Prelude.{ℕ, ◌+◌, ◌-◌, nat_eq, Bool, true, false, ◌&&◌, ◌||◌, List, [], ◌∷◌}
use Rattle.std.specs.Prelude.{◌++◌, if◌then◌else◌}
use Rattle.mc_span.specs.declared.span.Span.{Span}
use Rattle.reread_pieces.specs.declared.piece.What.{What}
use Rattle.reread_pieces.specs.declared.piece.What.TheVariants as what
use Rattle.reread_pieces.specs.declared.without.Stand.{Stand}
use Rattle.reread_pieces.specs.declared.without.Stand.TheVariants.{Opens, Closes}
use Rattle.reread_pieces.specs.Plain.{stand_of, text_for}
use Rattle.reread_law_texts.specs.weave.Brackets.{Brackets, sign}
use Rattle.reread_law_texts.specs.brackets.Signs.{Sign}
use Rattle.reread_law_rows.specs.inserted.Rows.{Row}

-- the bracket of a row
abbrev pub sign_by : Stand → Row → List Sign → List Sign
sign_by Opens r later =
    record { place = r.span.start; token = sign (text_for r.what []) r.span.start } ∷ later
sign_by Closes r later =
    record { place = r.span.end; token = sign (text_for r.what []) (r.span.end - 1) } ∷ later
sign_by _ r later = later

abbrev pub sign_of_row : Row → List Sign → List Sign
sign_of_row r later = sign_by (stand_of r.what) r later

abbrev pub signs_of : List Row → List Sign
signs_of [] = []
signs_of (r ∷ rest) = sign_of_row r (signs_of rest)

-- ---- by their places alone

abbrev pub is_same : Span → Span → Bool
is_same a b = nat_eq a.start b.start && nat_eq a.end b.end

-- a row that stands round an expression
abbrev pub is_round : What → Bool
is_round (what.Decision r base) = true
is_round (what.Condition r t f) = true
is_round (what.Switch r) = true
is_round w = false

abbrev pub stands_round : Span → Row → Bool
stands_round span r = is_round r.what && is_same r.span span

-- a row that encloses a statement
abbrev pub is_enclosing : What → Bool
is_enclosing (what.Statement b) = true
is_enclosing w = false

abbrev pub encloses : Span → Row → Bool
encloses span r = is_enclosing r.what && is_same r.span span

-- how many rows stand round the expression at a place
abbrev pub count_round : Span → List Row → ℕ
count_round span [] = 0
count_round span (r ∷ rest) =
    if stands_round span r then 1 + count_round span rest else count_round span rest

-- whether one encloses the statement at a place
abbrev pub is_counted : Span → List Row → Bool
is_counted span [] = false
is_counted span (r ∷ rest) = encloses span r || is_counted span rest

abbrev pub brackets_of : List Row → Brackets
brackets_of rows =
    record {
      parentheses = λ span. count_round span rows;
      braces = λ span. is_counted span rows;
    }
