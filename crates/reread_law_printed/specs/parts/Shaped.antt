-- Which part may stand at a place of a text of parts, so that it is read as what it is.
use Rattle.std.specs.Prelude.{◌≡◌, ◌⊎◌, ◌==◌, ◌&&◌, ℕ, true, false, List, [], ◌∷◌, ◌++◌, Some}
use Rattle.std.specs.Prelude.{codes}
use Rattle.std.specs.List.{list_any}
use Rattle.std.specs.Str.{bytes_eq}
use Rattle.mc_lex.specs.Tokens.{Tok}
use Rattle.reread_pieces.specs.declared.bracket.Bracket.TheVariants as bracket
use Rattle.reread_pieces.specs.declared.word.Word.TheVariants as word
use Rattle.reread_pieces.specs.declared.piece.What.{What}
use Rattle.reread_pieces.specs.declared.piece.What.TheVariants as what
use Rattle.reread_pieces.specs.Words.{word_of, begins_declaration, may_begin_declaration}
use Rattle.reread_pieces.specs.Shapes.{begins}
use Rattle.reread_pieces.specs.Rows.{is_front, is_at_front, is_after_statement, is_colon, is_name}
use Rattle.reread_pieces.specs.Rows.{is_body, is_statement, is_value, begins_body, is_counted, is_hit}
use Rattle.reread_pieces.specs.Rows.{is_no_declaration, sees_brace, after_tokens}
use Rattle.reread_pieces.specs.Pieces.{Here, innermost, site_of, after}
use Rattle.reread_law_printed.specs.spelled.Numbers.{IsShort}
use Rattle.reread_law_printed.specs.spelled.Words.{laid, tokens_in}
use Rattle.reread_law_printed.specs.parts.Parts.{Part, own, row_part, words_of}
use Rattle.reread_law_printed.specs.parts.Marks.{first_token}
use Rattle.reread_law_printed.specs.parts.Marks as marks

-- the tokens of these words from a byte on
abbrev pub tokens_at : List Tok → ℕ → List (List ℕ) → List Tok
tokens_at source at words = laid at (tokens_in source words)

-- ---- tokens of the source

abbrev pub Closes : Here → Tok → Type 0
Closes h t =
    (word_of t ≡ word.CloseParenthesis) × (innermost h.brackets ≡ Some bracket.Parenthesis)
    ⊎ (word_of t ≡ word.CloseSquare) × (innermost h.brackets ≡ Some bracket.Square)
    ⊎ (word_of t ≡ word.CloseBrace) × (innermost h.brackets ≡ Some bracket.Brace)
    ⊎ (word_of t ≡ word.CloseBrace) × (innermost h.brackets ≡ Some bracket.Body)

-- A `{` that begins no row.
abbrev pub OpensBrace : Here → Tok → List Tok → Type 0
OpensBrace h t later =
    (word_of t ≡ word.OpenBrace) × (is_after_statement h.before ≡ false)
    × ((h.inside && is_counted (t ∷ later) && is_no_declaration (after_tokens 5 later)) ≡ false)

-- what may stand there, and these tokens after it
abbrev pub MayBe : Here → What → Tok → List Tok → Type 0
MayBe h what.Source t later =
    (word_of t ≡ word.Other) × (is_at_front h.before ≡ false)
    ⊎ (word_of t ≡ word.Semicolon) × (is_value (innermost h.brackets) ≡ false)
MayBe h (what.Opening bracket.Parenthesis) t later = word_of t ≡ word.OpenParenthesis
MayBe h (what.Opening bracket.Square) t later = word_of t ≡ word.OpenSquare
MayBe h (what.Opening bracket.Brace) t later =
    OpensBrace h t later × (begins_body (site_of h) ≡ false)
MayBe h (what.Opening bracket.Body) t later =
    OpensBrace h t later × (begins_body (site_of h) ≡ true)
MayBe h what.Closing t later = Closes h t
MayBe h _ t later = ⊥

-- ---- rows

-- No word of a type is `#`, which stands for a number, or `MCDC_H`, with which a bare `return`
-- would begin.
abbrev pub AreWords : List (List ℕ) → Type 0
AreWords type =
    (list_any (λ x. bytes_eq x (codes "#")) type ≡ false)
    × (list_any (λ x. bytes_eq x (codes "MCDC_H")) type ≡ false)

abbrev pub MayStand : Here → List (List ℕ) → What → List Tok → Type 0
MayStand h type (what.Registers n) later =
    (is_at_front h.before ≡ true) × ((n == 0) ≡ false) × IsShort n
MayStand h type (what.Entry b) later = (is_front h.before ≡ true) × IsShort b
MayStand h type (what.Exit b) later =
    (is_front h.before ≡ false) × (is_body (innermost h.brackets) ≡ true)
    × (sees_brace later ≡ true) × IsShort b
MayStand h type (what.Declaration b) later =
    (is_front h.before ≡ false) × (sees_brace later ≡ false) × (h.inside ≡ true)
    × (may_begin_declaration later ≡ true) × IsShort b
MayStand h type (what.Label r b) later =
    (h.inside ≡ true) × (is_colon h.before ≡ true) × IsShort r × IsShort b
MayStand h type (what.Default r b) later =
    (is_colon h.before ≡ false) × (is_statement (innermost h.brackets) ≡ true)
    × IsShort r × IsShort b
MayStand h type (what.Statement b) later =
    (is_after_statement h.before ≡ false) × (h.inside ≡ true)
    × (begins_declaration later ≡ false) × (is_hit later ≡ false) × IsShort b
MayStand h type what.StatementEnd later =
    (innermost h.brackets ≡ Some bracket.Statement) × (is_after_statement h.before ≡ false)
MayStand h type what.Value later =
    (is_after_statement h.before ≡ true)
    × (h.value ≡ (type ++ codes "mcdc_v" ∷ []) ++ codes "=" ∷ []) × AreWords type
MayStand h type (what.ValueEnd b) later =
    (innermost h.brackets ≡ Some bracket.Value) × IsShort b
MayStand h type (what.Return b) later =
    (is_after_statement h.before ≡ true)
    × (begins (codes "return" ∷ codes ";" ∷ codes "}" ∷ []) later ≡ true) × IsShort b
MayStand h type what.ReturnEnd later = innermost h.brackets ≡ Some bracket.Exit
MayStand h type (what.Decision r base) later =
    (is_name h.before ≡ false) × IsShort r × IsShort base
MayStand h type (what.Condition r on_true on_false) later =
    (is_name h.before ≡ false) × IsShort r × IsShort on_true × IsShort on_false
MayStand h type (what.Switch r) later = (is_name h.before ≡ false) × IsShort r
MayStand h type what.OperandEnd later = innermost h.brackets ≡ Some bracket.Operand
MayStand h type _ later = ⊥

-- ---- all parts

abbrev pub after_part : List Tok → Here → ℕ → Part → List (List ℕ) → Here
after_part source h at q words =
    after h q.what (first_token source at q.texts)
    (tokens_at source (marks.after at q.texts) words)

-- Each part may stand where it does, and nothing is left open.
pub data IsShaped (source : List Tok) : Here → ℕ → List Part → Type 0 where
  ends : {h : Here} {at : ℕ} → h.brackets ≡ [] → IsShaped source h at []
  kept : {h : Here} {at : ℕ} (w : What) (t : Tok) {qs : List Part}
      → MayBe h w (marks.token source at t.text)
      (tokens_at source (marks.after at (t.text ∷ [])) (words_of qs))
      → IsShaped source (after_part source h at (own w t) (words_of qs))
      (marks.after at (t.text ∷ [])) qs
      → IsShaped source h at (own w t ∷ qs)
  put : {h : Here} {at : ℕ} (type : List (List ℕ)) (w : What) {qs : List Part}
      → MayStand h type w
      (tokens_at source (marks.after at (row_part type w).texts) (words_of qs))
      → IsShaped source (after_part source h at (row_part type w) (words_of qs))
      (marks.after at (row_part type w).texts) qs
      → IsShaped source h at (row_part type w ∷ qs)
