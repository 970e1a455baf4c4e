-- The tokens of C that a text without its probes has: those of its source, and brackets of C for
-- those of its probes. These stand where what they enclose begins and ends, so they add nothing to
-- the place of a tree, and they may be told from those of the source by their pieces.
use Rattle.std.specs.Prelude.{ℕ, ◌+◌, ◌-◌, nat_le, Bool, true, false, List, [], ◌∷◌, ◌++◌, length}
use Rattle.std.specs.Prelude.{codes, if◌then◌else◌}
use Rattle.mc_lex.specs.declared.token.TokenKind.{TokenKind}
use Rattle.mc_lex.specs.declared.token.TokenKind.TheVariants as kind
use Rattle.mc_lex.specs.Tokens.{Tok}
use Rattle.reread_pieces.specs.declared.piece.What.{What}
use Rattle.reread_pieces.specs.declared.piece.What.TheVariants as what
use Rattle.reread_pieces.specs.declared.without.Stand.{Stand}
use Rattle.reread_pieces.specs.declared.without.Stand.TheVariants.{Opens, Closes, Own, Nowhere}
use Rattle.reread_pieces.specs.Pieces.{Mark}

-- ---- the token of a piece

-- Braces and parentheses of probes stand with the next token or the one before. Registers, events
-- and the braces round a bare `return` leave no token.
abbrev pub stand_of : What → Stand
stand_of what.Source = Own
stand_of (what.Opening b) = Own
stand_of what.Closing = Own
stand_of what.Value = Own
stand_of (what.ValueEnd bit) = Own
stand_of (what.Statement bit) = Opens
stand_of (what.Decision register base) = Opens
stand_of (what.Condition register on_true on_false) = Opens
stand_of (what.Switch register) = Opens
stand_of what.StatementEnd = Closes
stand_of what.OperandEnd = Closes
stand_of _ = Nowhere

abbrev pub text_for : What → List ℕ → List ℕ
text_for what.Value text = codes "return"
text_for (what.Statement bit) text = codes "{"
text_for what.StatementEnd text = codes "}"
text_for (what.Decision register base) text = codes "("
text_for (what.Condition register on_true on_false) text = codes "("
text_for (what.Switch register) text = codes "("
text_for what.OperandEnd text = codes ")"
text_for _ text = text

abbrev pub text_of : Mark → List ℕ
text_of m = text_for m.row m.token.text

abbrev pub own_kind : What → TokenKind → TokenKind
own_kind what.Value k = kind.Keyword
own_kind _ k = k

abbrev pub kind_by : Stand → What → TokenKind → TokenKind
kind_by Own w k = own_kind w k
kind_by _ w k = kind.Punctuator

abbrev pub kind_of : Mark → TokenKind
kind_of m = kind_by (stand_of m.row) m.row m.token.kind

abbrev pub start_by : Stand → ℕ → ℕ → ℕ
start_by Own start end = start
start_by Closes start end = end - 1
start_by _ start end = 0

abbrev pub start_of : Mark → ℕ → ℕ
start_of m end = start_by (stand_of m.row) m.token.start end

-- the place after so many bytes, of at most 32 bits
abbrev pub place_after : ℕ → ℕ → ℕ
place_after start n = if nat_le (start + n) 4294967295 then start + n else 4294967295

abbrev pub end_by : Stand → Mark → ℕ → ℕ
end_by Own m end = place_after m.token.start (length (text_of m))
end_by _ m end = end

abbrev pub end_of : Mark → ℕ → ℕ
end_of m end = end_by (stand_of m.row) m end

-- ---- all of them

-- a token, and whether it stands where the next one does
pub record Lay : Type 0 where
  pub token : Tok
  pub opens : Bool

abbrev pub token_of : Mark → ℕ → Tok
token_of m end = record { kind = kind_of m; text = text_of m; start = start_of m end }

abbrev pub laid_by : Stand → Mark → ℕ → List Lay
laid_by Nowhere m end = []
laid_by Opens m end = record { token = token_of m end; opens = true } ∷ []
laid_by _ m end = record { token = token_of m end; opens = false } ∷ []

abbrev pub laid_one : Mark → ℕ → List Lay
laid_one m end = laid_by (stand_of m.row) m end

abbrev pub laid : ℕ → List Mark → List Lay
laid end [] = []
laid end (m ∷ ms) = laid_one m end ++ laid (end_of m end) ms

abbrev pub moved : Lay → ℕ → Tok
moved l next =
    if l.opens then record { kind = l.token.kind; text = l.token.text; start = next } else l.token

-- where the first of them starts
abbrev pub first_start : List Tok → ℕ
first_start [] = 0
first_start (t ∷ ts) = t.start

abbrev pub placed : List Lay → List Tok
placed [] = []
placed (l ∷ ls) = moved l (first_start (placed ls)) ∷ placed ls

abbrev pub plain_of : List Mark → List Tok
plain_of ms = placed (laid 0 ms)

-- ---- from the last to the first

abbrev pub moved_back : ℕ → List Lay → List Tok
moved_back next [] = []
moved_back next (l ∷ ls) = moved l next ∷ moved_back (moved l next).start ls
