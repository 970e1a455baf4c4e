-- A worked text: the parts of `int f(int a,int b){return a&&b;}` with its probes.
use Rattle.std.specs.Prelude.{◌≡◌, ℕ, ◌+◌, List, [], ◌∷◌, map, Some, None, codes}
use Rattle.mc_span.specs.declared.span.Span.{Span}
use Rattle.mc_value.specs.declared.int_type.IntType.TheVariants as int_type
use Rattle.mc_lex.specs.Tokens.{Tok}
use Rattle.mc_lex.specs.declared.token.TokenKind.TheVariants.{Identifier, Keyword, Punctuator}
use Rattle.reread_pieces.specs.declared.bracket.Bracket.TheVariants as bracket
use Rattle.reread_pieces.specs.declared.piece.What.TheVariants as what
use Rattle.mc_typed.specs.Tree.{NumberParameter, NumberResult}
use Rattle.mc_typed.specs.declared.operators.LogicOperator.TheVariants as logic
use Rattle.mc_typed.specs.declared.probes.Probe.TheVariants as probe
use Rattle.mc_probe.specs.Tree as p
use Rattle.reread_law_printed.specs.parts.Parts.{parts_of}
use Rattle.reread_law_printed.specs.parts.Closed.{AreBalanced}
use Rattle.reread_law_printed.specs.parts.Laws.{Stands}

-- ---- the tokens

abbrev pub keyword : List ℕ → ℕ → Tok
keyword text start = record { kind = Keyword; text = text; start = start }

abbrev pub name : List ℕ → ℕ → Tok
name text start = record { kind = Identifier; text = text; start = start }

abbrev pub mark : List ℕ → ℕ → Tok
mark text start = record { kind = Punctuator; text = text; start = start }

-- before the name of the function, and between it and the body
abbrev pub result : List Tok
result = keyword (codes "int") 0 ∷ []

abbrev pub parameters : List Tok
parameters =
    mark (codes "(") 5 ∷ keyword (codes "int") 6 ∷ name (codes "a") 10 ∷ mark (codes ",") 11
    ∷ keyword (codes "int") 12 ∷ name (codes "b") 16 ∷ mark (codes ")") 17 ∷ []

abbrev pub tokens : List Tok
tokens =
    keyword (codes "int") 0 ∷ name (codes "f") 4 ∷ mark (codes "(") 5 ∷ keyword (codes "int") 6
    ∷ name (codes "a") 10 ∷ mark (codes ",") 11 ∷ keyword (codes "int") 12 ∷ name (codes "b") 16
    ∷ mark (codes ")") 17 ∷ mark (codes "{") 18 ∷ keyword (codes "return") 19
    ∷ name (codes "a") 26 ∷ mark (codes "&&") 27 ∷ name (codes "b") 29 ∷ mark (codes ";") 30
    ∷ mark (codes "}") 31 ∷ []

-- ---- the tree

abbrev span : ℕ → ℕ → Span
span start end = record { start = start; end = end }

abbrev read : ℕ → ℕ → p.Expression
read object start =
    p.Read (p.Local (record { object = object; start = object }) (span start (start + 1)))
    int_type.Int

abbrev value : p.Expression
value =
    p.Probe (probe.Decision 0 3) (p.Logic logic.And
    (p.Probe (probe.Condition 0 0 2) (read 0 26)) (p.Probe (probe.Condition 0 0 1) (read 1 29))
    (span 26 30))

abbrev pub function : p.Function
function = record {
  name = codes "f";
  name_span = span 4 5;
  parameters = NumberParameter int_type.Int ∷ NumberParameter int_type.Int ∷ [];
  result = NumberResult int_type.Int;
  objects = [];
  body = p.statements (p.Return (p.ReturnNumber value) (span 19 31) (Some 2) (Some 1))
      p.no_statements;
  closing = span 31 32;
  registers = 1;
  entry = Some 0;
  exit = None;
}

abbrev pub tree : p.Tree
tree = record {
  program = record { functions = function ∷ []; statics = []; structures = [] };
  bits = 6;
}

-- ---- what is said of them

abbrev pub TheParts : Type 0
TheParts =
    map (λ q. q.what) (parts_of tokens tree)
    ≡ what.Source ∷ what.Source ∷ what.Opening bracket.Parenthesis ∷ what.Source ∷ what.Source
    ∷ what.Source ∷ what.Source ∷ what.Source ∷ what.Closing ∷ what.Opening bracket.Body
    ∷ what.Registers 1 ∷ what.Entry 0 ∷ what.Statement 2 ∷ what.Value ∷ what.Decision 0 3
    ∷ what.Condition 0 0 2 ∷ what.Source ∷ what.OperandEnd ∷ what.Source ∷ what.Condition 0 0 1
    ∷ what.Source ∷ what.OperandEnd ∷ what.OperandEnd ∷ what.ValueEnd 1 ∷ what.StatementEnd
    ∷ what.Closing ∷ []

-- Its functions and rows stand among its tokens, and its brackets belong together.
abbrev pub TheyStand : Type 0
TheyStand = (h : Stands tokens tree) × AreBalanced (function ∷ []) tokens h.functions
