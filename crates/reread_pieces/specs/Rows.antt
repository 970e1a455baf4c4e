-- Which row of the table stands at a place, or which token of the source. The first token says
-- which rows come into question, and the place which of them it is.
use Rattle.std.specs.Prelude.{ℕ, zero, suc, ◌==◌, Bool, true, false, not, ◌&&◌, List, [], ◌∷◌}
use Rattle.std.specs.Prelude.{Option, Some, None, codes, if◌then◌else◌}
use Rattle.mc_lex.specs.Tokens.{Tok}
use Rattle.reread_pieces.specs.declared.bracket.Bracket.{Bracket}
use Rattle.reread_pieces.specs.declared.bracket.Bracket.TheVariants as bracket
use Rattle.reread_pieces.specs.declared.site.Before.{Before}
use Rattle.reread_pieces.specs.declared.site.Before.TheVariants as before
use Rattle.reread_pieces.specs.declared.site.Site.{Site}
use Rattle.reread_pieces.specs.declared.word.Word.{Word}
use Rattle.reread_pieces.specs.declared.word.Word.TheVariants as word
use Rattle.reread_pieces.specs.declared.piece.What.{What}
use Rattle.reread_pieces.specs.declared.piece.What.TheVariants as what
use Rattle.reread_pieces.specs.Words.{is, word_of, begins_declaration, may_begin_declaration}
use Rattle.reread_pieces.specs.Shapes.{begins, number_at, hit, registers, label, statement, value_end}
use Rattle.reread_pieces.specs.Shapes.{bare_return, decision, condition, switch}

-- ---- the place

abbrev pub is_front : Before → Bool
is_front before.Front = true
is_front before.Registers = true
is_front _ = false

abbrev pub is_after_statement : Before → Bool
is_after_statement before.Statement = true
is_after_statement _ = false

abbrev pub is_at_front : Before → Bool
is_at_front before.Front = true
is_at_front _ = false

abbrev pub is_colon : Before → Bool
is_colon before.Colon = true
is_colon _ = false

abbrev pub is_parenthesis : Before → Bool
is_parenthesis before.Parenthesis = true
is_parenthesis _ = false

abbrev pub is_name : Before → Bool
is_name before.Name = true
is_name _ = false

abbrev pub is_body : Option Bracket → Bool
is_body (Some bracket.Body) = true
is_body _ = false

abbrev pub is_statement : Option Bracket → Bool
is_statement (Some bracket.Statement) = true
is_statement _ = false

abbrev pub is_value : Option Bracket → Bool
is_value (Some bracket.Value) = true
is_value _ = false

abbrev pub is_nothing : Option Bracket → Bool
is_nothing None = true
is_nothing (Some b) = false

-- A `{` after a `)` outside all brackets is that of a function's body.
abbrev pub begins_body : Site → Bool
begins_body s = is_nothing s.innermost && is_parenthesis s.before

abbrev pub after_tokens : ℕ → List Tok → List Tok
after_tokens n [] = []
after_tokens zero (t ∷ ts) = t ∷ ts
after_tokens (suc n) (t ∷ ts) = after_tokens n ts

abbrev pub sees_brace : List Tok → Bool
sees_brace [] = false
sees_brace (t ∷ ts) = is (codes "}") t

-- ---- the rows of each first token

abbrev pub is_hit : List Tok → Bool
is_hit ts = begins hit ts

-- `MCDC_H ( b ) ;` is the entry's at the front of a function's body, after the registers where
-- there are some; the exit's before the `}` of a body; and else that of a declaration, where one
-- may follow.
abbrev pub hit_row : Site → List Tok → Option What
hit_row s ts =
    if not (is_hit ts) then None
    else (if is_front s.before then Some (what.Entry (number_at 2 ts))
    else (if is_body s.innermost && sees_brace (after_tokens 5 ts)
    then Some (what.Exit (number_at 2 ts))
    else (if s.inside && may_begin_declaration (after_tokens 5 ts)
    then Some (what.Declaration (number_at 2 ts))
    else None)))

abbrev pub is_label : List Tok → Bool
is_label ts = begins label ts

-- `MCDC_L ( r , b ) ;` stands after the colon of a label, or after a `switch` in its statement's
-- braces.
abbrev pub label_row : Site → List Tok → Option What
label_row s ts =
    if not (is_label ts) then None
    else (if s.inside && is_colon s.before
    then Some (what.Label (number_at 2 ts) (number_at 4 ts))
    else (if is_statement s.innermost
    then Some (what.Default (number_at 2 ts) (number_at 4 ts))
    else None))

-- A probe round an expression is a `primary`, and none begins after a name, nor where a test does.
abbrev pub is_decision : List Tok → Bool
is_decision ts = begins decision ts

abbrev pub decision_row : Site → List Tok → Option What
decision_row s ts =
    if is_decision ts && not (is_name s.before)
    then Some (what.Decision (number_at 2 ts) (number_at 4 ts)) else None

abbrev pub is_condition : List Tok → Bool
is_condition ts = begins condition ts

abbrev pub condition_row : Site → List Tok → Option What
condition_row s ts =
    if is_condition ts && not (is_name s.before)
    then Some (what.Condition (number_at 2 ts) (number_at 4 ts) (number_at 6 ts)) else None

abbrev pub is_switch : List Tok → Bool
is_switch ts = begins switch ts

abbrev pub switch_row : Site → List Tok → Option What
switch_row s ts =
    if is_switch ts && not (is_name s.before) then Some (what.Switch (number_at 2 ts)) else None

abbrev pub is_return : List Tok → Bool
is_return ts = begins bare_return ts

abbrev pub is_counted : List Tok → Bool
is_counted ts = begins statement ts

-- Directly inside the braces of a counted statement a `{` begins that of a `return` alone. `value`
-- is what stands after it before a value: `T mcdc_v =`.
abbrev pub exit_row : List (List ℕ) → List Tok → Option What
exit_row value ts =
    if is_return ts then Some (what.Return (number_at 3 ts))
    else (if begins value (after_tokens 1 ts) then Some what.Value
    else None)

abbrev pub is_no_declaration : List Tok → Bool
is_no_declaration ts = not (begins_declaration ts) && not (is_hit ts)

abbrev pub brace : Site → Bracket
brace s = if begins_body s then bracket.Body else bracket.Brace

-- Inside a function's body `{ MCDC_H ( b ) ;` begins a counted statement, where neither a
-- declaration nor another such probe follows.
abbrev pub brace_row : Site → List (List ℕ) → List Tok → Option What
brace_row s value ts =
    if is_after_statement s.before then exit_row value ts
    else (if s.inside && is_counted ts && is_no_declaration (after_tokens 6 ts)
    then Some (what.Statement (number_at 3 ts))
    else Some (what.Opening (brace s)))

abbrev pub parenthesis_end : Option Bracket → Option What
parenthesis_end (Some bracket.Parenthesis) = Some what.Closing
parenthesis_end (Some bracket.Operand) = Some what.OperandEnd
parenthesis_end _ = None

abbrev pub square_end : Option Bracket → Option What
square_end (Some bracket.Square) = Some what.Closing
square_end _ = None

-- a counted statement is not empty
abbrev pub statement_end : Before → Option What
statement_end b = if is_after_statement b then None else Some what.StatementEnd

abbrev pub brace_end_in : Option Bracket → Before → Option What
brace_end_in (Some bracket.Brace) b = Some what.Closing
brace_end_in (Some bracket.Body) b = Some what.Closing
brace_end_in (Some bracket.Exit) b = Some what.ReturnEnd
brace_end_in (Some bracket.Statement) b = statement_end b
brace_end_in _ b = None

abbrev pub brace_end : Site → Option What
brace_end s = brace_end_in s.innermost s.before

abbrev pub is_value_end : List Tok → Bool
is_value_end ts = begins value_end ts

-- The value of a `return` ends with its exit.
abbrev pub semicolon_row : Site → List Tok → Option What
semicolon_row s ts =
    if not (is_value s.innermost) then Some what.Source
    else (if is_value_end ts then Some (what.ValueEnd (number_at 3 ts)) else None)

abbrev pub is_registers : List Tok → Bool
is_registers ts = begins registers ts

-- `unsigned mcdc_r [ n ] ;`, n not 0, at the front of a function's body
abbrev pub other_row : Site → List Tok → Option What
other_row s ts =
    if is_at_front s.before && is_registers ts && not (number_at 3 ts == 0)
    then Some (what.Registers (number_at 3 ts)) else Some what.Source

-- ---- all rows

abbrev pub row_of : Word → Site → List (List ℕ) → List Tok → Option What
row_of word.Hit s value ts = hit_row s ts
row_of word.Label s value ts = label_row s ts
row_of word.Decision s value ts = decision_row s ts
row_of word.Condition s value ts = condition_row s ts
row_of word.Switch s value ts = switch_row s ts
row_of word.Inner s value ts = None
row_of word.OpenParenthesis s value ts = Some (what.Opening bracket.Parenthesis)
row_of word.CloseParenthesis s value ts = parenthesis_end s.innermost
row_of word.OpenSquare s value ts = Some (what.Opening bracket.Square)
row_of word.CloseSquare s value ts = square_end s.innermost
row_of word.OpenBrace s value ts = brace_row s value ts
row_of word.CloseBrace s value ts = brace_end s
row_of word.Semicolon s value ts = semicolon_row s ts
row_of word.Other s value ts = other_row s ts

abbrev pub row_at : Site → List (List ℕ) → List Tok → Option What
row_at s value [] = None
row_at s value (t ∷ ts) = row_of (word_of t) s value (t ∷ ts)
