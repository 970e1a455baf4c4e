-- Lists of the program and what stands around a statement, as those of the definitions.
use Rattle.std.specs.Prelude.{List, map, Option, option_map, Vec}
use Rattle.std.specs.declared.alloc.Global.{Global}
use Rattle.mc_typed.specs.declared.effects.Effect.{Effect}
use Rattle.mc_typed.specs.declared.statements.Statement.{Statement}
use Rattle.mc_typed.specs.declared.statements.Declarator.{Declarator}
use Rattle.mc_typed.specs.declared.expressions.Expression.{Expression}
use Rattle.mc_typed.specs.Views.{expression_of, effect_of, declarator_of, statement_of, statements_from}
use Rattle.mc_typed.specs.Tree as typed
use Rattle.types_rules.specs.Statements as statements
use Rattle.types_scopes.specs.Types.{base_of}
use Rattle.types_scopes.specs.declared.around.Around.{Around}

abbrev pub statements_of : Vec Statement Global → typed.Statements
statements_of v = statements_from (map statement_of v.items)

abbrev pub effects_of : Vec Effect Global → List typed.Effect
effects_of v = map effect_of v.items

abbrev pub declarators_of : Vec Declarator Global → List typed.Declarator
declarators_of v = map declarator_of v.items

abbrev pub around_of : Around → statements.Around
around_of a = record {
  result = option_map base_of a.result;
  breaks = a.breaks;
  continues = a.continues;
  is_body = a.is_body;
}

-- the controlling expression of a loop, where there is one
abbrev pub test_of : Option Expression → Option typed.Expression
test_of e = option_map expression_of e
