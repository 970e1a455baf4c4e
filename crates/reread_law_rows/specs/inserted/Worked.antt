-- A worked text: the rows of `int f(int a,int b){return a&&b;}` with its probes, and their
-- brackets.
use Rattle.std.specs.Prelude.{◌≡◌, ℕ, ◌+◌, List, [], ◌∷◌, map, Some, None, codes}
use Rattle.mc_span.specs.declared.span.Span.{Span}
use Rattle.mc_value.specs.declared.int_type.IntType.TheVariants as int_type
use Rattle.mc_typed.specs.Tree.{NumberParameter, NumberResult}
use Rattle.mc_typed.specs.declared.operators.LogicOperator.TheVariants as logic
use Rattle.mc_typed.specs.declared.probes.Probe.TheVariants as probe
use Rattle.mc_probe.specs.Tree as p
use Rattle.reread_pieces.specs.declared.piece.What.{What}
use Rattle.reread_pieces.specs.declared.piece.What.TheVariants as what
use Rattle.reread_law_texts.specs.weave.Brackets.{sign}
use Rattle.reread_law_texts.specs.brackets.Signs.{Sign}
use Rattle.reread_law_rows.specs.inserted.Rows.{Row, rows_of}
use Rattle.reread_law_rows.specs.inserted.Signs.{signs_of, brackets_of}

abbrev span : ℕ → ℕ → Span
span start end = record { start = start; end = end }

abbrev read : ℕ → ℕ → p.Expression
read object start =
    p.Read (p.Local (record { object = object; start = object }) (span start (start + 1)))
    int_type.Int

abbrev value : p.Expression
value =
    p.Probe (probe.Decision 0 3) (p.Logic logic.And
    (p.Probe (probe.Condition 0 0 2) (read 0 26)) (p.Probe (probe.Condition 0 0 1) (read 1 29))
    (span 26 30))

abbrev function : p.Function
function = record {
  name = codes "f";
  name_span = span 4 5;
  parameters = NumberParameter int_type.Int ∷ NumberParameter int_type.Int ∷ [];
  result = NumberResult int_type.Int;
  objects = [];
  body = p.statements (p.Return (p.ReturnNumber value) (span 19 31) (Some 2) (Some 1))
      p.no_statements;
  closing = span 31 32;
  registers = 1;
  entry = Some 0;
  exit = None;
}

abbrev tree : p.Tree
tree = record {
  program = record { functions = function ∷ []; statics = []; structures = [] };
  bits = 6;
}

-- ---- the rows

abbrev row : What → ℕ → ℕ → Row
row w start end = record { what = w; span = span start end; end = end }

abbrev of_function : What → Row
of_function w = record { what = w; span = span 4 5; end = 32 }

abbrev pub TheRows : Type 0
TheRows =
    rows_of tree
    ≡ of_function (what.Registers 1) ∷ of_function (what.Entry 0) ∷ row (what.Statement 2) 19 31
    ∷ row what.Value 19 31 ∷ row (what.Decision 0 3) 26 30 ∷ row (what.Condition 0 0 2) 26 27
    ∷ row what.OperandEnd 26 27 ∷ row (what.Condition 0 0 1) 29 30 ∷ row what.OperandEnd 29 30
    ∷ row what.OperandEnd 26 30 ∷ row (what.ValueEnd 1) 19 31 ∷ row what.StatementEnd 19 31 ∷ []

-- ---- their brackets

-- one at a byte, where a token of its own would start here
abbrev bracket : List ℕ → ℕ → ℕ → Sign
bracket text place start = record { place = place; token = sign text start }

abbrev pub TheSigns : Type 0
TheSigns =
    signs_of (rows_of tree)
    ≡ bracket (codes "{") 19 19 ∷ bracket (codes "(") 26 26 ∷ bracket (codes "(") 26 26
    ∷ bracket (codes ")") 27 26 ∷ bracket (codes "(") 29 29 ∷ bracket (codes ")") 30 29
    ∷ bracket (codes ")") 30 29 ∷ bracket (codes "}") 31 30 ∷ []

-- how many stand round `a&&b`, `a`, and `b`, and round the place of the statement
abbrev pub TheCounts : Type 0
TheCounts =
    map (brackets_of (rows_of tree)).parentheses (span 26 30 ∷ span 26 27 ∷ span 29 30 ∷ span 19 31
    ∷ []) ≡ 1 ∷ 1 ∷ 1 ∷ 0 ∷ []
