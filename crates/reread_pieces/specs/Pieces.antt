-- An instrumented text as pieces. What a piece is follows from the place where it stands; what it
-- opens is closed by another piece.
use Rattle.std.specs.Prelude.{◌≡◌, ℕ, ◌+◌, ◌-◌, Bool, true, false, not, ◌&&◌, ◌||◌, List, [], ◌∷◌}
use Rattle.std.specs.Prelude.{◌++◌, length, take, Option, Some, None, option_to_list, slice_get}
use Rattle.std.specs.Prelude.{codes, if◌then◌else◌}
use Rattle.mc_lex.specs.Tokens.{Tok}
use Rattle.reread_pieces.specs.declared.bracket.Bracket.{Bracket}
use Rattle.reread_pieces.specs.declared.bracket.Bracket.TheVariants as bracket
use Rattle.reread_pieces.specs.declared.site.Before.{Before}
use Rattle.reread_pieces.specs.declared.site.Before.TheVariants as before
use Rattle.reread_pieces.specs.declared.site.Site.{Site}
use Rattle.reread_pieces.specs.declared.piece.What.{What}
use Rattle.reread_pieces.specs.declared.piece.What.TheVariants as what
use Rattle.reread_pieces.specs.Words.{is, before_of}
use Rattle.reread_pieces.specs.Rows.{is_body, is_nothing, after_tokens, row_at}

-- what a piece is, the first of its tokens, and where the word of its probe starts
pub record Mark : Type 0 where
  pub row : What
  pub token : Tok
  pub word : ℕ

-- What has been read at a place: what is open, the innermost last; whether it is inside a
-- function's body; what stands directly before; the tokens from the start of the external
-- declaration; and what stands between the `{` of a `return` and its value.
pub record Here : Type 0 where
  pub brackets : List Bracket
  pub inside : Bool
  pub before : Before
  pub item : List Tok
  pub value : List (List ℕ)

abbrev pub start : List Tok → Here
start ts = record { brackets = []; inside = false; before = before.Other; item = ts; value = [] }

abbrev pub innermost : List Bracket → Option Bracket
innermost bs = slice_get bs (length bs - 1)

abbrev pub site_of : Here → Site
site_of h =
    record { innermost = innermost h.brackets; inside = h.inside; before = h.before }

-- ---- the words of a function's type

-- no word of a type
abbrev pub is_left_out : Tok → Bool
is_left_out t =
    is (codes "static") t || is (codes "extern") t || is (codes "const") t || is (codes "*") t

abbrev pub word : Tok → List (List ℕ)
word t = if is_left_out t then [] else t.text ∷ []

-- those before the name, which stands before the first `(`
abbrev pub type_words : List Tok → List (List ℕ)
type_words [] = []
type_words (t ∷ []) = []
type_words (t ∷ u ∷ ts) = if is (codes "(") u then [] else word t ++ type_words (u ∷ ts)

-- `T mcdc_v =`
abbrev pub value_shape : List Tok → List (List ℕ)
value_shape item = (type_words item ++ codes "mcdc_v" ∷ []) ++ codes "=" ∷ []

-- ---- what a piece changes

-- how many tokens it has
abbrev pub size : List (List ℕ) → What → ℕ
size value (what.Registers count) = 6
size value (what.Statement bit) = 6
size value (what.Entry bit) = 5
size value (what.Exit bit) = 5
size value (what.Declaration bit) = 5
size value (what.Label register bit) = 7
size value (what.Default register bit) = 7
size value what.Value = length value + 1
size value (what.ValueEnd bit) = 10
size value (what.Return bit) = 6
size value (what.Decision register base) = 6
size value (what.Condition register on_true on_false) = 8
size value (what.Switch register) = 4
size value _ = 1

abbrev pub opened : What → Option Bracket
opened (what.Opening b) = Some b
opened (what.Statement bit) = Some bracket.Statement
opened what.Value = Some bracket.Value
opened (what.Return bit) = Some bracket.Exit
opened (what.Decision register base) = Some bracket.Operand
opened (what.Condition register on_true on_false) = Some bracket.Operand
opened (what.Switch register) = Some bracket.Operand
opened _ = None

-- whether it closes the innermost bracket
abbrev pub closes : What → Bool
closes what.Closing = true
closes what.StatementEnd = true
closes (what.ValueEnd bit) = true
closes what.ReturnEnd = true
closes what.OperandEnd = true
closes _ = false

-- the `{` of a function's body
abbrev pub is_front : What → Bool
is_front w = is_body (opened w)

abbrev pub brackets_after : List Bracket → What → List Bracket
brackets_after bs w =
    if closes w then take (length bs - 1) bs else bs ++ option_to_list (opened w)

abbrev pub inside_after : Bool → Site → What → Bool
inside_after inside s w = is_front w || (inside && not (closes w && is_body s.innermost))

abbrev pub before_after : What → Tok → Before
before_after (what.Registers count) t = before.Registers
before_after (what.Statement bit) t = before.Statement
before_after what.Source t = before_of t
before_after what.Closing t = before_of t
before_after w t = if is_front w then before.Front else before.Other

-- An external declaration ends with a `;` outside all brackets, or with a function's body.
abbrev pub ends_item : Site → What → Tok → Bool
ends_item s what.Closing t = is_body s.innermost
ends_item s what.Source t = is_nothing s.innermost && is (codes ";") t
ends_item s _ t = false

abbrev pub value_after : Here → What → List (List ℕ)
value_after h w = if is_front w then value_shape h.item else h.value

-- the tokens after a piece with which these tokens begin
abbrev pub later : Here → What → List Tok → List Tok
later h w ts = after_tokens (size h.value w) ts

-- after a piece, whose first token this is and which these tokens follow
abbrev pub after : Here → What → Tok → List Tok → Here
after h w t rest =
    record {
      brackets = brackets_after h.brackets w;
      inside = inside_after h.inside (site_of h) w;
      before = before_after w t;
      item = if ends_item (site_of h) w t then rest else h.item;
      value = value_after h w;
    }

abbrev pub passed : Here → Mark → List Tok → Here
passed h m ts = after h m.row m.token (later h m.row ts)

-- ---- the pieces of a text

-- whether a `{` or a `;` stands before the word of its probe
abbrev pub word_is_second : What → Bool
word_is_second (what.Statement bit) = true
word_is_second (what.ValueEnd bit) = true
word_is_second (what.Return bit) = true
word_is_second _ = false

-- where the word of its probe starts: a token of the source is its own word
abbrev pub word_start : What → Tok → List Tok → ℕ
word_start w t [] = t.start
word_start w t (u ∷ ts) = if word_is_second w then u.start else t.start

-- the piece with which these tokens begin
abbrev pub marked : Tok → List Tok → Option What → Option Mark
marked t rest None = None
marked t rest (Some w) = Some (record { row = w; token = t; word = word_start w t rest })

abbrev pub piece_at : Site → List (List ℕ) → List Tok → Option Mark
piece_at s value [] = None
piece_at s value (t ∷ ts) = marked t ts (row_at s value (t ∷ ts))

abbrev pub next : Here → List Tok → Option Mark
next h ts = piece_at (site_of h) h.value ts

pub data Shaped : Here → List Tok → List Mark → Type 0 where
  -- Nothing is left open.
  ends : {h : Here} → h.brackets ≡ [] → Shaped h [] []
  piece : {h : Here} {m : Mark} {ts : List Tok} {ps : List Mark}
      → next h ts ≡ Some m
      → Shaped (passed h m ts) (later h m.row ts) ps → Shaped h ts (m ∷ ps)

abbrev pub ArePieces : List Tok → List Mark → Type 0
ArePieces ts ps = Shaped (start ts) ts ps
