-- The text of a program with probes as parts: the tokens of its source, and what the table inserts,
-- each row at its place.
use Rattle.std.specs.Prelude.{ℕ, ◌-◌, nat_lt, Bool, true, false, ◌||◌, List, [], ◌∷◌, ◌++◌, map}
use Rattle.std.specs.Prelude.{take, Option, Some, None, codes, if◌then◌else◌}
use Rattle.mc_span.specs.declared.span.Span.{Span}
use Rattle.mc_lex.specs.Tokens.{Tok}
use Rattle.reread_pieces.specs.declared.bracket.Bracket.TheVariants as bracket
use Rattle.reread_pieces.specs.declared.piece.What.{What}
use Rattle.reread_pieces.specs.declared.piece.What.TheVariants as what
use Rattle.reread_pieces.specs.Words.{is}
use Rattle.mc_typed.specs.declared.probes.Probe.TheVariants as probe
use Rattle.mc_probe.specs.Tree as p
use Rattle.mc_print.specs.Pens.{before, last_item, type_words}
use Rattle.mc_print.specs.Insertions.{hit, label, opening, registers, value_exit}
use Rattle.reread_law_rows.specs.inserted.Rows.{Row, register_row, entry_row, rows_in_statements}

-- what a part is, and its tokens
pub record Part : Type 0 where
  pub what : What
  pub texts : List (List ℕ)

-- what these tokens of a source become, with what is inserted among them
abbrev pub Parts : Type 0
Parts = List Tok → List Part

-- ---- tokens of the source

abbrev pub what_of : Tok → What
what_of t =
    if is (codes "(") t then what.Opening bracket.Parenthesis
    else (if is (codes "[") t then what.Opening bracket.Square
    else (if is (codes "{") t then what.Opening bracket.Brace
    else (if is (codes ")") t || is (codes "]") t || is (codes "}") t then what.Closing
    else what.Source)))

abbrev pub own : What → Tok → Part
own w t = record { what = w; texts = t.text ∷ [] }

abbrev pub copied : Tok → Part
copied t = own (what_of t) t

-- those that start before a byte, and then what becomes of the others
abbrev pub upto : ℕ → Parts → Parts
upto at next [] = next []
upto at next (t ∷ ts) = if nat_lt t.start at then copied t ∷ upto at next ts else next (t ∷ ts)

-- those through the first `{`, which is that of a function's body
abbrev pub into_body : Parts → Parts
into_body next [] = next []
into_body next (t ∷ ts) =
    if is (codes "{") t then own (what.Opening bracket.Body) t ∷ next ts
    else copied t ∷ into_body next ts

-- ---- rows

-- The tokens of a row. The value of a `return` has the type that these words say.
abbrev pub row_texts : List (List ℕ) → What → List (List ℕ)
row_texts type (what.Registers count) = registers count
row_texts type (what.Entry bit) = hit bit
row_texts type (what.Exit bit) = hit bit
row_texts type (what.Declaration bit) = hit bit
row_texts type (what.Label register bit) = label (record { register = register; bit = bit })
row_texts type (what.Default register bit) = label (record { register = register; bit = bit })
row_texts type (what.Statement bit) = codes "{" ∷ hit bit
row_texts type what.StatementEnd = codes "}" ∷ []
row_texts type what.Value = codes "{" ∷ type ++ codes "mcdc_v" ∷ codes "=" ∷ []
row_texts type (what.ValueEnd bit) = codes ";" ∷ value_exit bit
row_texts type (what.Return bit) = codes "{" ∷ hit bit
row_texts type what.ReturnEnd = codes "}" ∷ []
row_texts type (what.Decision register base) = opening (probe.Decision register base)
row_texts type (what.Condition register on_true on_false) =
    opening (probe.Condition register on_true on_false)
row_texts type (what.Switch register) = opening (probe.Switch register)
row_texts type what.OperandEnd = codes ")" ∷ []
row_texts type w = []

abbrev pub row_part : List (List ℕ) → What → Part
row_part type w = record { what = w; texts = row_texts type w }

-- Of a row of a body; those of a whole function are put below. A row stands before the first token
-- that starts at this byte or later: at the start of what it stands at, or at its end. The end of a
-- value is put in place of its `;`.
abbrev pub place_by : What → Span → ℕ
place_by (what.Label register bit) span = span.end
place_by (what.Default register bit) span = span.end
place_by what.StatementEnd span = span.end
place_by what.ReturnEnd span = span.end
place_by what.OperandEnd span = span.end
place_by (what.ValueEnd bit) span = span.end - 1
place_by w span = span.start

abbrev pub place_of : Row → ℕ
place_of r = place_by r.what r.span

-- whether a row is put in place of a token: of the word `return`, or of the `;` after a value
abbrev pub takes_token : What → Bool
takes_token what.Value = true
takes_token (what.ValueEnd bit) = true
takes_token w = false

abbrev pub without_first : Bool → List Tok → List Tok
without_first true (t ∷ ts) = ts
without_first b ts = ts

-- a row at once
abbrev pub put : List (List ℕ) → What → Parts → Parts
put type w next ts = row_part type w ∷ next (without_first (takes_token w) ts)

-- rows at their places
abbrev pub inserted : List (List ℕ) → List Row → Parts → Parts
inserted type [] next = next
inserted type (r ∷ rows) next = upto (place_of r) (put type r.what (inserted type rows next))

-- ---- functions and programs

abbrev pub all_put : List Row → Parts → Parts
all_put [] next = next
all_put (r ∷ rows) next = put [] r.what (all_put rows next)

-- the rows at the front of a body
abbrev pub front_rows : p.Function → List Row
front_rows f = register_row f (entry_row f f.entry [])

-- the rows among the tokens of a body
abbrev pub body_rows : p.Function → List Row
body_rows f = rows_in_statements f.body []

abbrev pub exit_put : Option ℕ → Span → Parts → Parts
exit_put None closing next = next
exit_put (Some b) closing next = upto closing.start (put [] (what.Exit b) next)

-- the words that say the type of the function whose name starts at a byte
abbrev pub type_at : ℕ → List Tok → List (List ℕ)
type_at at ts = type_words (last_item (take (before at ts) ts))

-- a body, after its `{`
abbrev pub body : List (List ℕ) → p.Function → Parts → Parts
body type f next =
    all_put (front_rows f) (inserted type (body_rows f) (exit_put f.exit f.closing next))

abbrev pub parts_in_function : p.Function → Parts → Parts
parts_in_function f next ts =
    upto f.name_span.end (into_body (body (type_at f.name_span.start ts) f next)) ts

abbrev pub parts_in_functions : List p.Function → Parts
parts_in_functions [] ts = map copied ts
parts_in_functions (f ∷ rest) ts = parts_in_function f (parts_in_functions rest) ts

-- the parts of the text of a program with probes over the tokens of its source
abbrev pub parts_of : List Tok → p.Tree → List Part
parts_of tokens tree = parts_in_functions tree.program.functions tokens

-- ---- what they are

-- their texts, one after the other
abbrev pub words_of : List Part → List (List ℕ)
words_of [] = []
words_of (q ∷ qs) = q.texts ++ words_of qs

-- no token of the source
abbrev pub is_row : What → Bool
is_row what.Source = false
is_row (what.Opening b) = false
is_row what.Closing = false
is_row w = true

abbrev pub rows_among : List Part → List What
rows_among [] = []
rows_among (q ∷ qs) = if is_row q.what then q.what ∷ rows_among qs else rows_among qs

-- The tokens of the source among them: the word `return` stands where the row stands that is put in
-- place of it, and the first token of the end of a value is its `;`.
abbrev pub own_before : What → List (List ℕ) → List (List ℕ) → List (List ℕ)
own_before what.Value texts later = codes "return" ∷ later
own_before (what.ValueEnd bit) texts later = codes ";" ∷ later
own_before w texts later = if is_row w then later else texts ++ later

abbrev pub own_texts : List Part → List (List ℕ)
own_texts [] = []
own_texts (q ∷ qs) = own_before q.what q.texts (own_texts qs)
