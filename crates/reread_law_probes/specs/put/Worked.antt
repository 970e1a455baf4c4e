-- A worked table: that of `int f(int a,int b){return a&&b;}`.
use Rattle.std.specs.Prelude.{ℕ, ◌+◌, [], ◌∷◌, codes}
use Rattle.mc_span.specs.declared.span.Span.{Span}
use Rattle.mc_value.specs.declared.int_type.IntType.TheVariants as int_type
use Rattle.mc_cond.specs.Tree as conditions
use Rattle.mc_typed.specs.declared.operators.LogicOperator.TheVariants as logic
use Rattle.mc_typed.specs.Tree.{NumberParameter, NumberResult}
use Rattle.mc_typed.specs.Tree as typed
use Rattle.mc_probe.specs.Maps.{Map}
use Rattle.mc_probe.specs.Table.{instrumented}
use Rattle.reread_law_probes.specs.put.Conversions.{ConversionsStand}
use Rattle.reread_law_probes.specs.put.Laws.{IsCounted}
use Rattle.reread_law_texts.specs.apart.Distinct.{IsDistinct}
use Rattle.reread_law_probes.specs.put.Places.{places_of}

abbrev span : ℕ → ℕ → Span
span start end = record { start = start; end = end }

abbrev local : ℕ → ℕ → typed.Expression
local object start =
    typed.Read (typed.Local (record { object = object; start = object }) (span start (start + 1)))
    int_type.Int

abbrev function : typed.Function
function = record {
  name = codes "f";
  name_span = span 4 5;
  parameters = NumberParameter int_type.Int ∷ NumberParameter int_type.Int ∷ [];
  result = NumberResult int_type.Int;
  objects = [];
  body =
      typed.statements
      (typed.Return
      (typed.ReturnNumber (typed.Logic logic.And (local 0 26) (local 1 29) (span 26 30)))
      (span 19 31))
      typed.no_statements;
  closing = span 31 32;
}

abbrev program : typed.Program
program = record { functions = function ∷ []; statics = []; structures = [] }

abbrev map : Map
map = record {
  entries = span 4 5 ∷ [];
  exits = span 19 31 ∷ [];
  statements = span 19 31 ∷ [];
  labels = [];
  decisions =
      record {
        decision = record {
          root = span 26 30;
          function = 0;
          tree = conditions.And (conditions.Leaf 0) (conditions.Leaf 1);
          conditions = span 26 27 ∷ span 29 30 ∷ [];
        };
        base = 3;
      } ∷ [];
  bits = 6;
}

-- what the law on tables asks, but that the program is sound and the map is one
abbrev pub TheTable : Type 0
TheTable =
    ConversionsStand program × IsDistinct (places_of (instrumented map program))
    × IsCounted (instrumented map program)
