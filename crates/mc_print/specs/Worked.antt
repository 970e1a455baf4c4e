-- A worked text: `int f(int a,int b){return a&&b;}` with its probes.
use Rattle.std.specs.Prelude.{◌≡◌, ℕ, ◌+◌, List, [], ◌∷◌, ◌++◌, Some, None, codes}
use Rattle.std.specs.List.{concat}
use Rattle.mc_span.specs.declared.span.Span.{Span}
use Rattle.mc_value.specs.declared.int_type.IntType.TheVariants as int_type
use Rattle.mc_lex.specs.Tokens.{Tok}
use Rattle.mc_lex.specs.declared.token.TokenKind.TheVariants.{Identifier, Keyword, Punctuator}
use Rattle.mc_typed.specs.Tree.{NumberParameter, NumberResult}
use Rattle.mc_typed.specs.declared.operators.LogicOperator.TheVariants as logic
use Rattle.mc_typed.specs.declared.probes.Probe.TheVariants as probe
use Rattle.mc_probe.specs.Tree as p
use Rattle.mc_print.specs.Pens.{spaced}
use Rattle.mc_print.specs.Texts.{text_of}

-- ---- the tokens

abbrev keyword : List ℕ → ℕ → Tok
keyword text start = record { kind = Keyword; text = text; start = start }

abbrev name : List ℕ → ℕ → Tok
name text start = record { kind = Identifier; text = text; start = start }

abbrev mark : List ℕ → ℕ → Tok
mark text start = record { kind = Punctuator; text = text; start = start }

abbrev tokens : List Tok
tokens =
    keyword (codes "int") 0 ∷ name (codes "f") 4 ∷ mark (codes "(") 5 ∷ keyword (codes "int") 6
    ∷ name (codes "a") 10 ∷ mark (codes ",") 11 ∷ keyword (codes "int") 12 ∷ name (codes "b") 16
    ∷ mark (codes ")") 17 ∷ mark (codes "{") 18 ∷ keyword (codes "return") 19
    ∷ name (codes "a") 26 ∷ mark (codes "&&") 27 ∷ name (codes "b") 29 ∷ mark (codes ";") 30
    ∷ mark (codes "}") 31 ∷ []

-- ---- the tree

abbrev span : ℕ → ℕ → Span
span start end = record { start = start; end = end }

abbrev read : ℕ → ℕ → p.Expression
read object start =
    p.Read (p.Local (record { object = object; start = object }) (span start (start + 1)))
    int_type.Int

abbrev value : p.Expression
value =
    p.Probe (probe.Decision 0 3) (p.Logic logic.And
    (p.Probe (probe.Condition 0 0 2) (read 0 26)) (p.Probe (probe.Condition 0 0 1) (read 1 29))
    (span 26 30))

abbrev function : p.Function
function = record {
  name = codes "f";
  name_span = span 4 5;
  parameters = NumberParameter int_type.Int ∷ NumberParameter int_type.Int ∷ [];
  result = NumberResult int_type.Int;
  objects = [];
  body = p.statements (p.Return (p.ReturnNumber value) (span 19 31) (Some 2) (Some 1))
      p.no_statements;
  closing = span 31 32;
  registers = 1;
  entry = Some 0;
  exit = None;
}

abbrev tree : p.Tree
tree = record {
  program = record { functions = function ∷ []; statics = []; structures = [] };
  bits = 6;
}

-- ---- the text

abbrev line : List ℕ → List ℕ
line text = text ++ 10 ∷ []

abbrev lines : List (List ℕ)
lines =
    line (codes "int f ( int a , int b ) {") ∷ line (codes "unsigned mcdc_r [ 1 ] ;")
    ∷ line (codes "MCDC_H ( 0 ) ;") ∷ line (codes "{") ∷ line (codes "MCDC_H ( 2 ) ;")
    ∷ line (codes "{")
    ∷ line (codes "int mcdc_v = MCDC_D ( 0 , 3 , MCDC_C ( 0 , 0 , 2 , a ) "
    ++ codes "&& MCDC_C ( 0 , 0 , 1 , b ) ) ;")
    ∷ line (codes "MCDC_H ( 1 ) ;") ∷ line (codes "return mcdc_v ;") ∷ line (codes "}")
    ∷ line (codes "}") ∷ line (codes "}") ∷ []

abbrev pub TheText : Type 0
TheText = spaced (text_of tokens tree) ≡ concat lines
