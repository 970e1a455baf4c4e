-- Where the functions of a program stand among the tokens of its source, and in which order the
-- rows of their bodies.
use Rattle.std.specs.Prelude.{◌≡◌, ◌≤◌, ◌+◌, ℕ, Bool, true, not, List, [], ◌∷◌, ◌++◌, codes}
use Rattle.std.specs.List.{list_all}
use Rattle.mc_span.specs.declared.span.Span.{Span}
use Rattle.mc_lex.specs.Tokens.{Tok}
use Rattle.reread_pieces.specs.declared.piece.What.{What}
use Rattle.reread_pieces.specs.declared.piece.What.TheVariants as what
use Rattle.reread_pieces.specs.Words.{is}
use Rattle.mc_probe.specs.Tree as p
use Rattle.reread_law_texts.specs.alike.Moves.{end_of}
use Rattle.reread_law_rows.specs.inserted.Rows.{Row}
use Rattle.reread_law_printed.specs.parts.Parts.{body_rows, place_by, place_of}

-- ---- the order of rows

-- From where on the next row may stand. The word `return` has six letters.
abbrev pub past_by : What → Span → ℕ
past_by what.Value span = span.start + 6
past_by (what.ValueEnd bit) span = span.end
past_by w span = place_by w span

abbrev pub past : Row → ℕ
past r = past_by r.what r.span

-- The rows stand between two bytes, each where the one before it stands or later.
abbrev pub AreInOrder : ℕ → List Row → ℕ → Type 0
AreInOrder from [] to = from ≤ to
AreInOrder from (r ∷ rows) to = (from ≤ place_of r) × AreInOrder (past r) rows to

-- ---- functions

abbrev pub is_brace : Tok → Bool
is_brace t = is (codes "{") t

-- A function among tokens: what stands before its name, the name, what stands between it and the
-- body, the body in its braces, and what stands after it.
pub record IsFunctionAmong (tokens : List Tok) (f : p.Function) : Type 0 where
  pub before : List Tok
  pub name : Tok
  pub parameters : List Tok
  pub opening : Tok
  pub inside : List Tok
  pub closing : Tok
  pub after : List Tok
  pub all : tokens ≡ before ++ name ∷ (parameters ++ opening ∷ (inside ++ closing ∷ after))
  pub name_start : name.start ≡ f.name_span.start
  pub name_end : end_of name ≡ f.name_span.end
  pub no_brace : list_all (λ t. not (is_brace t)) parameters ≡ true
  pub opening_is : is (codes "{") opening ≡ true
  pub closing_is : is (codes "}") closing ≡ true
  pub closing_start : closing.start ≡ f.closing.start
  pub closing_end : end_of closing ≡ f.closing.end
  pub in_order : AreInOrder (end_of opening) (body_rows f) f.closing.start

-- each after the one before it
abbrev pub AreAmong : List p.Function → List Tok → Type 0
AreAmong [] ts = Unit {0}
AreAmong (f ∷ rest) ts = (q : IsFunctionAmong ts f) × AreAmong rest q.after
