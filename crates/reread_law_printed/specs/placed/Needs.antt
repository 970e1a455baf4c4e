-- What a part needs where it stands, taken apart: its own words, what stands directly before it,
-- what follows it, in which brackets it stands, and the type of a value.
use Rattle.std.specs.Prelude.{◌≡◌, ◌==◌, ◌&&◌, ℕ, true, false, List, [], ◌∷◌, drop, codes}
use Rattle.std.specs.List.{AllByRecursion as Each}
use Rattle.mc_lex.specs.Tokens.{Tok}
use Rattle.reread_pieces.specs.declared.bracket.Bracket.TheVariants as bracket
use Rattle.reread_pieces.specs.declared.word.Word.TheVariants as word
use Rattle.reread_pieces.specs.declared.piece.What.{What}
use Rattle.reread_pieces.specs.declared.piece.What.TheVariants as what
use Rattle.reread_pieces.specs.Words.{is, probe_word, begins_declaration, may_begin_declaration}
use Rattle.reread_pieces.specs.Shapes.{begins}
use Rattle.reread_pieces.specs.Rows.{is_front, is_at_front, is_after_statement, is_colon, is_name}
use Rattle.reread_pieces.specs.Rows.{is_parenthesis, is_statement, is_nothing, is_hit, is_no_declaration}
use Rattle.reread_pieces.specs.Rows.{sees_brace, after_tokens}
use Rattle.reread_pieces.specs.Pieces.{Here, innermost}
use Rattle.reread_law_printed.specs.spelled.Numbers.{IsShort}
use Rattle.reread_law_rows.specs.inserted.Rows.{Row}
use Rattle.reread_law_printed.specs.parts.Parts.{Part, what_of, own, row_part, words_of}
use Rattle.reread_law_printed.specs.parts.Marks as marks
use Rattle.reread_law_printed.specs.parts.Shaped.{AreWords, tokens_at, after_part}

-- ---- its own words

-- What a row says: its numbers, or the words of its type.
abbrev pub IsSaid : List (List ℕ) → What → Type 0
IsSaid type (what.Registers n) = ((n == 0) ≡ false) × IsShort n
IsSaid type (what.Entry b) = IsShort b
IsSaid type (what.Exit b) = IsShort b
IsSaid type (what.Declaration b) = IsShort b
IsSaid type (what.Label r b) = IsShort r × IsShort b
IsSaid type (what.Default r b) = IsShort r × IsShort b
IsSaid type (what.Statement b) = IsShort b
IsSaid type what.Value = AreWords type
IsSaid type (what.ValueEnd b) = IsShort b
IsSaid type (what.Return b) = IsShort b
IsSaid type (what.Decision r base) = IsShort r × IsShort base
IsSaid type (what.Condition r t f) = IsShort r × IsShort t × IsShort f
IsSaid type (what.Switch r) = IsShort r
IsSaid type what.StatementEnd = Unit {0}
IsSaid type what.ReturnEnd = Unit {0}
IsSaid type what.OperandEnd = Unit {0}
IsSaid type w = ⊥

-- No token of a source is the name of a probe, or `#`, which stands for a number.
abbrev pub IsOwnWord : Tok → Type 0
IsOwnWord t = (probe_word t ≡ word.Other) × (is (codes "#") t ≡ false)

-- The numbers of these rows are short.
abbrev pub AreSaid : List Row → Type 0
AreSaid rows = Each (λ (r : Row). IsSaid [] r.what) rows

-- A token of the source that is no name of a probe, the `{` of a function's body, or a row.
pub data IsSpelled : Part → Type 0 where
  token : (t : Tok) → probe_word t ≡ word.Other → IsSpelled (own (what_of t) t)
  body : (t : Tok) → is (codes "{") t ≡ true → IsSpelled (own (what.Opening bracket.Body) t)
  row : (type : List (List ℕ)) (w : What) → IsSaid type w → IsSpelled (row_part type w)

-- ---- what stands directly before it

-- At the front of a body the registers stand, and then the entry; nothing of the source does.
abbrev pub FrontBy : Here → What → Type 0
FrontBy h what.Source = is_at_front h.before ≡ false
FrontBy h (what.Registers n) = is_at_front h.before ≡ true
FrontBy h (what.Entry b) = is_front h.before ≡ true
FrontBy h (what.Exit b) = is_front h.before ≡ false
FrontBy h (what.Declaration b) = is_front h.before ≡ false
FrontBy h w = Unit {0}

-- A label stands after a colon, the value of a `return` directly in its statement, and no operand
-- after a name.
abbrev pub AfterBy : Here → What → Type 0
AfterBy h (what.Opening bracket.Brace) = is_after_statement h.before ≡ false
AfterBy h (what.Label r b) = is_colon h.before ≡ true
AfterBy h (what.Default r b) = is_colon h.before ≡ false
AfterBy h (what.Statement b) = is_after_statement h.before ≡ false
AfterBy h what.StatementEnd = is_after_statement h.before ≡ false
AfterBy h what.Value = is_after_statement h.before ≡ true
AfterBy h (what.Return b) = is_after_statement h.before ≡ true
AfterBy h (what.Decision r base) = is_name h.before ≡ false
AfterBy h (what.Condition r t f) = is_name h.before ≡ false
AfterBy h (what.Switch r) = is_name h.before ≡ false
AfterBy h w = Unit {0}

-- ---- what follows it

abbrev pub FollowedBy : What → List Tok → Type 0
FollowedBy (what.Opening bracket.Brace) later =
    (is_hit later && is_no_declaration (after_tokens 5 later)) ≡ false
FollowedBy (what.Exit b) later = sees_brace later ≡ true
FollowedBy (what.Declaration b) later =
    (sees_brace later ≡ false) × (may_begin_declaration later ≡ true)
FollowedBy (what.Statement b) later =
    (begins_declaration later ≡ false) × (is_hit later ≡ false)
FollowedBy (what.Return b) later =
    begins (codes "return" ∷ codes ";" ∷ codes "}" ∷ []) later ≡ true
FollowedBy w later = Unit {0}

-- ---- in which brackets it stands: the `{` of a body stands outside all, after a `)`

abbrev pub InsideBy : Here → What → Type 0
InsideBy h (what.Opening bracket.Brace) =
    (is_nothing (innermost h.brackets) && is_parenthesis h.before) ≡ false
InsideBy h (what.Opening bracket.Body) =
    (is_nothing (innermost h.brackets) ≡ true) × (h.inside ≡ false)
    × (is_parenthesis h.before ≡ true)
InsideBy h (what.Declaration b) = h.inside ≡ true
InsideBy h (what.Label r b) = h.inside ≡ true
InsideBy h (what.Statement b) = h.inside ≡ true
InsideBy h (what.Default r b) = is_statement (innermost h.brackets) ≡ true
InsideBy h w = Unit {0}

-- ---- the type of a value: its words are those of the function

abbrev pub TypeBy : Here → What → List (List ℕ) → Type 0
TypeBy h what.Value texts = h.value ≡ drop 1 texts
TypeBy h w texts = Unit {0}

-- ---- all parts

-- what a part needs where it stands, with these tokens after it
abbrev pub Need : Type 1
Need = Here → Part → List Tok → Type 0

abbrev pub Front : Need
Front h q later = FrontBy h q.what

abbrev pub After : Need
After h q later = AfterBy h q.what

abbrev pub Followed : Need
Followed h q later = FollowedBy q.what later

abbrev pub Inside : Need
Inside h q later = InsideBy h q.what

abbrev pub Typed : Need
Typed h q later = TypeBy h q.what q.texts

-- Each part has what it needs.
abbrev pub Along : List Tok → Need → Here → ℕ → List Part → Type 0
Along source N h at [] = Unit {0}
Along source N h at (q ∷ qs) =
    N h q (tokens_at source (marks.after at q.texts) (words_of qs))
    × Along source N (after_part source h at q (words_of qs)) (marks.after at q.texts) qs
