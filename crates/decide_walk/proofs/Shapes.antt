-- The node of each expression.
use Rattle.std.proofs.Common.{◌≡◌, ◌∙◌, sym, ap, ℤ, Bool, false, Box}
use Rattle.std.specs.Global.{Global}
use Rattle.mc_span.specs.declared.span.Span.{Span}
use Rattle.mc_value.specs.declared.int_type.IntType.{IntType}
use Rattle.mc_value.specs.declared.operators.UnOp.{UnOp}
use Rattle.mc_typed.specs.declared.operators.Operator.{Operator}
use Rattle.mc_typed.specs.declared.operators.LogicOperator.{LogicOperator}
use Rattle.mc_typed.specs.declared.probes.Probe.{Probe}
use Rattle.mc_typed.specs.declared.expressions.Expression.{Expression}
use Rattle.mc_typed.specs.declared.expressions.Expression.TheVariants as code
use Rattle.mc_typed.specs.declared.expressions.Place.{Place}
use Rattle.mc_typed.specs.declared.expressions.FunctionCall.{FunctionCall}
use Rattle.mc_typed.specs.declared.expressions.Argument.TheOpen.{Expression-F}
use Rattle.mc_typed.specs.declared.expressions.Argument.TheFolds.{fold-roll-Expression}
use Rattle.mc_typed.specs.Tree as t
use Rattle.mc_typed.specs.Views.{call_of, expression_of, node_argument, node_call, node_expression, node_place, node_structure, place_of}
use Rattle.decide_rules.specs.declared.operators.Junction.TheVariants.{Short}
use Rattle.decide_rules.specs.Nodes as n

abbrev pub node : Expression → n.Node
node e = n.expression (expression_of e)

pub constant_node : (v : ℤ) (a : IntType) (span : Span) → node (code.Constant v a span) ≡ n.Constant span
constant_node v a span =
    ap node (sym (code.rolls-Constant v a span))
    ∙ ap n.expression (fold-roll-Expression t.Argument t.Expression t.Place t.StructureValue t.FunctionCall node_argument node_expression node_place node_structure node_call (Expression-F.Constant v a span))

pub read_node : (object : Place) (a : IntType) → node (code.Read object a) ≡ n.Expression n.Other (n.part (n.place (place_of object)) n.no_parts) (t.span_of_place (place_of object))
read_node object a =
    ap node (sym (code.rolls-Read object a))
    ∙ ap n.expression (fold-roll-Expression t.Argument t.Expression t.Place t.StructureValue t.FunctionCall node_argument node_expression node_place node_structure node_call (Expression-F.Read object a))

pub unary_node : (operator : UnOp) (a : IntType) (e : Box Expression Global) (span : Span) → node (code.Unary operator a e span) ≡ n.Expression (n.Operator false) (n.part (node e.value) n.no_parts) span
unary_node operator a e span =
    ap node (sym (code.rolls-Unary operator a e span))
    ∙ ap n.expression (fold-roll-Expression t.Argument t.Expression t.Place t.StructureValue t.FunctionCall node_argument node_expression node_place node_structure node_call (Expression-F.Unary operator a e span))

pub convert_node : (a : IntType) (written : Bool) (e : Box Expression Global) (span : Span) → node (code.Convert a written e span) ≡ n.Expression (n.Operator false) (n.part (node e.value) n.no_parts) span
convert_node a written e span =
    ap node (sym (code.rolls-Convert a written e span))
    ∙ ap n.expression (fold-roll-Expression t.Argument t.Expression t.Place t.StructureValue t.FunctionCall node_argument node_expression node_place node_structure node_call (Expression-F.Convert a written e span))

pub not_node : (e : Box Expression Global) (span : Span) → node (code.Not e span) ≡ n.Not (node e.value) span
not_node e span =
    ap node (sym (code.rolls-Not e span))
    ∙ ap n.expression (fold-roll-Expression t.Argument t.Expression t.Place t.StructureValue t.FunctionCall node_argument node_expression node_place node_structure node_call (Expression-F.Not e span))

pub binary_node : (operator : Operator) (a : IntType) (e f : Box Expression Global) (span : Span) → node (code.Binary operator a e f span) ≡ n.evaluates_both (n.full_operator operator (expression_of e.value) (expression_of f.value)) operator (node e.value) (node f.value) span
binary_node operator a e f span =
    ap node (sym (code.rolls-Binary operator a e f span))
    ∙ ap n.expression (fold-roll-Expression t.Argument t.Expression t.Place t.StructureValue t.FunctionCall node_argument node_expression node_place node_structure node_call (Expression-F.Binary operator a e f span))

pub logic_node : (operator : LogicOperator) (e f : Box Expression Global) (span : Span) → node (code.Logic operator e f span) ≡ n.Logic (Short operator) (node e.value) (node f.value) span
logic_node operator e f span =
    ap node (sym (code.rolls-Logic operator e f span))
    ∙ ap n.expression (fold-roll-Expression t.Argument t.Expression t.Place t.StructureValue t.FunctionCall node_argument node_expression node_place node_structure node_call (Expression-F.Logic operator e f span))

pub choice_node : (e f g : Box Expression Global) (a : IntType) (span : Span) → node (code.Choice e f g a span) ≡ n.Expression (n.Operator false) (n.controlling (node e.value) (n.part (node f.value) (n.part (node g.value) n.no_parts))) span
choice_node e f g a span =
    ap node (sym (code.rolls-Choice e f g a span))
    ∙ ap n.expression (fold-roll-Expression t.Argument t.Expression t.Place t.StructureValue t.FunctionCall node_argument node_expression node_place node_structure node_call (Expression-F.Choice e f g a span))

pub call_node : (k : FunctionCall) (a : IntType) → node (code.Call k a) ≡ n.Expression n.Other (n.call_parts (call_of k)) (t.span_of_call (call_of k))
call_node k a =
    ap node (sym (code.rolls-Call k a))
    ∙ ap n.expression (fold-roll-Expression t.Argument t.Expression t.Place t.StructureValue t.FunctionCall node_argument node_expression node_place node_structure node_call (Expression-F.Call k a))

pub input_node : (span : Span) → node (code.Input span) ≡ n.Expression n.Other n.no_parts span
input_node span =
    ap node (sym (code.rolls-Input span))
    ∙ ap n.expression (fold-roll-Expression t.Argument t.Expression t.Place t.StructureValue t.FunctionCall node_argument node_expression node_place node_structure node_call (Expression-F.Input span))

pub probe_node : (probe : Probe) (e : Box Expression Global) → node (code.Probe probe e) ≡ node e.value
probe_node probe e =
    ap node (sym (code.rolls-Probe probe e))
    ∙ ap n.expression (fold-roll-Expression t.Argument t.Expression t.Place t.StructureValue t.FunctionCall node_argument node_expression node_place node_structure node_call (Expression-F.Probe probe e))
