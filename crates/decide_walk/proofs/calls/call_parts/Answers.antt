use Rattle.std.proofs.Common.{List, ◌∙◌, ap, sym, map}
use Rattle.mc_typed.specs.declared.expressions.Argument.{Argument}
use Rattle.mc_typed.specs.declared.expressions.Argument.TheFolds.{fold_out-FunctionCall}
use Rattle.mc_typed.specs.Tree as t
use Rattle.mc_typed.specs.Views.{argument_of, arguments_from, node_argument, node_call, node_expression, node_place, node_structure}
use Rattle.decide_rules.specs.Nodes.{arguments, call_parts}
use Rattle.decide_walk.proofs.calls.call_parts.Goals as goal

pub returns-clause-all : goal.returns-clause-all
returns-clause-all c = c.as_slice.ensures.value

pub returns-clause-parts : goal.returns-clause-parts
returns-clause-parts c =
    ap (λ (items : List Argument). arguments (arguments_from (map argument_of items)))
    c.as_slice.ensures.value
    ∙ sym (ap call_parts
    (fold_out-FunctionCall t.Argument t.Expression t.Place t.StructureValue t.FunctionCall node_argument node_expression node_place node_structure node_call c.args.call.now))
