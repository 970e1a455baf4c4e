-- What is open at each part of a text: brackets of the source, and what rows open. The innermost
-- is the first.
use Rattle.std.specs.Prelude.{◌≡◌, ℕ, Bool, true, false, ◌&&◌, List, [], ◌∷◌, ◌++◌, Option, Some}
use Rattle.std.specs.Prelude.{None, option_to_list, codes, if◌then◌else◌}
use Rattle.std.specs.Str.{bytes_eq}
use Rattle.reread_pieces.specs.declared.bracket.Bracket.{Bracket}
use Rattle.reread_pieces.specs.declared.bracket.Bracket.TheVariants as bracket
use Rattle.reread_pieces.specs.declared.piece.What.{What}
use Rattle.reread_pieces.specs.declared.piece.What.TheVariants as what
use Rattle.reread_pieces.specs.Rows.{is_value}
use Rattle.reread_pieces.specs.Pieces.{opened, closes}
use Rattle.mc_probe.specs.Tree as p
use Rattle.mc_lex.specs.Tokens.{Tok}
use Rattle.reread_law_rows.specs.inserted.Fits.{IsBalanced, is_bracket}
use Rattle.reread_law_printed.specs.parts.Parts.{Part}
use Rattle.reread_law_printed.specs.parts.Stands.{AreAmong}

abbrev pub top : List Bracket → Option Bracket
top [] = None
top (b ∷ bs) = Some b

abbrev pub below : List Bracket → List Bracket
below [] = []
below (b ∷ bs) = bs

-- what is open after a part
abbrev pub open_after : List Bracket → What → List Bracket
open_after bs w = if closes w then below bs else option_to_list (opened w) ++ bs

-- whether a token of the source with this text closes it
abbrev pub closes_with : List ℕ → Option Bracket → Bool
closes_with text (Some bracket.Parenthesis) = bytes_eq text (codes ")")
closes_with text (Some bracket.Square) = bytes_eq text (codes "]")
closes_with text (Some bracket.Brace) = bytes_eq text (codes "}")
closes_with text (Some bracket.Body) = bytes_eq text (codes "}")
closes_with text _ = false

abbrev pub first_text : List (List ℕ) → List ℕ
first_text [] = []
first_text (text ∷ texts) = text

-- What closes something closes the innermost bracket. The value of a `return` has no `;`.
abbrev pub MayClose : List Bracket → What → List (List ℕ) → Type 0
MayClose bs what.Source texts =
    (bytes_eq (first_text texts) (codes ";") && is_value (top bs)) ≡ false
MayClose bs what.Closing texts = closes_with (first_text texts) (top bs) ≡ true
MayClose bs what.StatementEnd texts = top bs ≡ Some bracket.Statement
MayClose bs (what.ValueEnd b) texts = top bs ≡ Some bracket.Value
MayClose bs what.ReturnEnd texts = top bs ≡ Some bracket.Exit
MayClose bs what.OperandEnd texts = top bs ≡ Some bracket.Operand
MayClose bs (what.Exit b) texts = top bs ≡ Some bracket.Body
MayClose bs w texts = Unit {0}

-- all is closed at the end
abbrev pub AllClose : List Bracket → List Part → Type 0
AllClose bs [] = bs ≡ []
AllClose bs (q ∷ qs) = MayClose bs q.what q.texts × AllClose (open_after bs q.what) qs

-- The brackets of a source belong together before each function, among its parameters, in its body,
-- and after the last one.
abbrev pub AreBalanced : (fs : List p.Function) (ts : List Tok) → AreAmong fs ts → Type 0
AreBalanced [] ts q = IsBalanced ts
AreBalanced (f ∷ rest) ts q =
    IsBalanced q.0.before × (is_bracket q.0.name ≡ false) × IsBalanced q.0.parameters
    × IsBalanced q.0.inside × AreBalanced rest q.0.after q.1
