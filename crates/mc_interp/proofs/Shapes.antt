-- The nodes of a tree, seen as those of the definitions.
use Rattle.std.proofs.Common.{◌≡◌, ℕ, map, sym, ap, ◌∙◌, Box}
use Rattle.std.specs.Global.{Global}
use Rattle.mc_span.specs.declared.span.Span.{Span}
use Rattle.mc_value.specs.declared.int_type.IntType.{IntType}
use Rattle.mc_typed.specs.declared.operators.Operator.{Operator}
use Rattle.mc_typed.specs.declared.operators.LogicOperator.{LogicOperator}
use Rattle.mc_typed.specs.declared.probes.Probe as code
use Rattle.mc_typed.specs.declared.expressions.Slot.{Slot}
use Rattle.mc_typed.specs.declared.expressions.Expression.{Expression}
use Rattle.mc_typed.specs.declared.expressions.Expression.TheVariants as expression
use Rattle.mc_typed.specs.declared.expressions.Place.{Place}
use Rattle.mc_typed.specs.declared.expressions.Place.TheVariants as place
use Rattle.mc_typed.specs.declared.expressions.Structure.{Structure}
use Rattle.mc_typed.specs.declared.expressions.Argument.TheVariants as argument
use Rattle.mc_typed.specs.declared.expressions.Argument.TheOpen.{Expression-F, Place-F, Argument-F}
use Rattle.mc_typed.specs.declared.expressions.FunctionCall.{FunctionCall, out-FunctionCall}
use Rattle.mc_typed.specs.declared.expressions.Argument.TheFolds.{fold-roll-Expression, fold-roll-Place, fold-roll-Argument, fold_out-FunctionCall}
use Rattle.mc_typed.specs.Views as plain
use Rattle.mc_typed.specs.Tree as t
use Rattle.mc_probe.specs.Views as view
use Rattle.mc_probe.specs.Tree as p

-- ---- without the probes

pub plain_read : (object : Place) (a : IntType) →
    plain.expression_of (expression.Read object a) ≡ t.Read (plain.place_of object) a
plain_read object a =
    ap plain.expression_of (sym (expression.rolls-Read object a))
    ∙ fold-roll-Expression t.Argument t.Expression t.Place t.StructureValue t.FunctionCall plain.node_argument plain.node_expression plain.node_place plain.node_structure plain.node_call (Expression-F.Read object a)

pub plain_binary : (operator : Operator) (a : IntType) (e : Box Expression Global) (f : Box Expression Global) (span : Span) →
    plain.expression_of (expression.Binary operator a e f span) ≡ t.Binary operator a (plain.expression_of e.value) (plain.expression_of f.value) span
plain_binary operator a e f span =
    ap plain.expression_of (sym (expression.rolls-Binary operator a e f span))
    ∙ fold-roll-Expression t.Argument t.Expression t.Place t.StructureValue t.FunctionCall plain.node_argument plain.node_expression plain.node_place plain.node_structure plain.node_call (Expression-F.Binary operator a e f span)

pub plain_choice : (e : Box Expression Global) (f : Box Expression Global) (g : Box Expression Global) (a : IntType) (span : Span) →
    plain.expression_of (expression.Choice e f g a span) ≡ t.Choice (plain.expression_of e.value) (plain.expression_of f.value) (plain.expression_of g.value) a span
plain_choice e f g a span =
    ap plain.expression_of (sym (expression.rolls-Choice e f g a span))
    ∙ fold-roll-Expression t.Argument t.Expression t.Place t.StructureValue t.FunctionCall plain.node_argument plain.node_expression plain.node_place plain.node_structure plain.node_call (Expression-F.Choice e f g a span)

pub plain_local : (slot : Slot) (span : Span) →
    plain.place_of (place.Local slot span) ≡ t.Local slot span
plain_local slot span =
    ap plain.place_of (sym (place.rolls-Local slot span))
    ∙ fold-roll-Place t.Argument t.Expression t.Place t.StructureValue t.FunctionCall plain.node_argument plain.node_expression plain.node_place plain.node_structure plain.node_call (Place-F.Local slot span)

pub plain_parameter : (array : ℕ) (stride : ℕ) (e : Box Expression Global) (span : Span) →
    plain.place_of (place.Parameter array stride e span) ≡ t.Parameter array stride (plain.expression_of e.value) span
plain_parameter array stride e span =
    ap plain.place_of (sym (place.rolls-Parameter array stride e span))
    ∙ fold-roll-Place t.Argument t.Expression t.Place t.StructureValue t.FunctionCall plain.node_argument plain.node_expression plain.node_place plain.node_structure plain.node_call (Place-F.Parameter array stride e span)

pub plain_item : (object : Box Place Global) (n : ℕ) (stride : ℕ) (e : Box Expression Global) (span : Span) →
    plain.place_of (place.Item object n stride e span) ≡ t.Item (plain.place_of object.value) n stride (plain.expression_of e.value) span
plain_item object n stride e span =
    ap plain.place_of (sym (place.rolls-Item object n stride e span))
    ∙ fold-roll-Place t.Argument t.Expression t.Place t.StructureValue t.FunctionCall plain.node_argument plain.node_expression plain.node_place plain.node_structure plain.node_call (Place-F.Item object n stride e span)

pub plain_member : (object : Box Place Global) (i : ℕ) (offset : ℕ) (span : Span) →
    plain.place_of (place.Member object i offset span) ≡ t.Member (plain.place_of object.value) i offset span
plain_member object i offset span =
    ap plain.place_of (sym (place.rolls-Member object i offset span))
    ∙ fold-roll-Place t.Argument t.Expression t.Place t.StructureValue t.FunctionCall plain.node_argument plain.node_expression plain.node_place plain.node_structure plain.node_call (Place-F.Member object i offset span)

pub plain_structure_argument : (source : Structure) (copy : Slot) →
    plain.argument_of (argument.Structure source copy) ≡ t.StructureArgument (plain.structure_of source) copy
plain_structure_argument source copy =
    ap plain.argument_of (sym (argument.rolls-Structure source copy))
    ∙ fold-roll-Argument t.Argument t.Expression t.Place t.StructureValue t.FunctionCall plain.node_argument plain.node_expression plain.node_place plain.node_structure plain.node_call (Argument-F.Structure source copy)

pub plain_again_argument : (array : ℕ) (span : Span) →
    plain.argument_of (argument.Again array span) ≡ t.AgainArgument array span
plain_again_argument array span =
    ap plain.argument_of (sym (argument.rolls-Again array span))
    ∙ fold-roll-Argument t.Argument t.Expression t.Place t.StructureValue t.FunctionCall plain.node_argument plain.node_expression plain.node_place plain.node_structure plain.node_call (Argument-F.Again array span)

pub plain_made : (k : FunctionCall) → plain.call_of k ≡ t.call (out-FunctionCall k).function
    (plain.arguments_from (map plain.argument_of (out-FunctionCall k).arguments.items)) (out-FunctionCall k).result (out-FunctionCall k).span
plain_made k =
    fold_out-FunctionCall t.Argument t.Expression t.Place t.StructureValue t.FunctionCall plain.node_argument plain.node_expression plain.node_place plain.node_structure plain.node_call k

-- ---- with the probes

pub view_not : (e : Box Expression Global) (span : Span) →
    view.expression_of (expression.Not e span) ≡ p.Not (view.expression_of e.value) span
view_not e span =
    ap view.expression_of (sym (expression.rolls-Not e span))
    ∙ fold-roll-Expression p.Argument p.Expression p.Place p.StructureValue p.FunctionCall view.node_argument view.node_expression view.node_place view.node_structure view.node_call (Expression-F.Not e span)

pub view_binary : (operator : Operator) (a : IntType) (e : Box Expression Global) (f : Box Expression Global) (span : Span) →
    view.expression_of (expression.Binary operator a e f span) ≡ p.Binary operator a (view.expression_of e.value) (view.expression_of f.value) span
view_binary operator a e f span =
    ap view.expression_of (sym (expression.rolls-Binary operator a e f span))
    ∙ fold-roll-Expression p.Argument p.Expression p.Place p.StructureValue p.FunctionCall view.node_argument view.node_expression view.node_place view.node_structure view.node_call (Expression-F.Binary operator a e f span)

pub view_logic : (operator : LogicOperator) (e : Box Expression Global) (f : Box Expression Global) (span : Span) →
    view.expression_of (expression.Logic operator e f span) ≡ p.Logic operator (view.expression_of e.value) (view.expression_of f.value) span
view_logic operator e f span =
    ap view.expression_of (sym (expression.rolls-Logic operator e f span))
    ∙ fold-roll-Expression p.Argument p.Expression p.Place p.StructureValue p.FunctionCall view.node_argument view.node_expression view.node_place view.node_structure view.node_call (Expression-F.Logic operator e f span)

pub view_choice : (e : Box Expression Global) (f : Box Expression Global) (g : Box Expression Global) (a : IntType) (span : Span) →
    view.expression_of (expression.Choice e f g a span) ≡ p.Choice (view.expression_of e.value) (view.expression_of f.value) (view.expression_of g.value) a span
view_choice e f g a span =
    ap view.expression_of (sym (expression.rolls-Choice e f g a span))
    ∙ fold-roll-Expression p.Argument p.Expression p.Place p.StructureValue p.FunctionCall view.node_argument view.node_expression view.node_place view.node_structure view.node_call (Expression-F.Choice e f g a span)

pub view_probe : (q : code.Probe) (e : Box Expression Global) →
    view.expression_of (expression.Probe q e) ≡ p.Probe q (view.expression_of e.value)
view_probe q e =
    ap view.expression_of (sym (expression.rolls-Probe q e))
    ∙ fold-roll-Expression p.Argument p.Expression p.Place p.StructureValue p.FunctionCall view.node_argument view.node_expression view.node_place view.node_structure view.node_call (Expression-F.Probe q e)

pub view_parameter : (array : ℕ) (stride : ℕ) (e : Box Expression Global) (span : Span) →
    view.place_of (place.Parameter array stride e span) ≡ p.Parameter array stride (view.expression_of e.value) span
view_parameter array stride e span =
    ap view.place_of (sym (place.rolls-Parameter array stride e span))
    ∙ fold-roll-Place p.Argument p.Expression p.Place p.StructureValue p.FunctionCall view.node_argument view.node_expression view.node_place view.node_structure view.node_call (Place-F.Parameter array stride e span)

pub view_item : (object : Box Place Global) (n : ℕ) (stride : ℕ) (e : Box Expression Global) (span : Span) →
    view.place_of (place.Item object n stride e span) ≡ p.Item (view.place_of object.value) n stride (view.expression_of e.value) span
view_item object n stride e span =
    ap view.place_of (sym (place.rolls-Item object n stride e span))
    ∙ fold-roll-Place p.Argument p.Expression p.Place p.StructureValue p.FunctionCall view.node_argument view.node_expression view.node_place view.node_structure view.node_call (Place-F.Item object n stride e span)

pub view_again_argument : (array : ℕ) (span : Span) →
    view.argument_of (argument.Again array span) ≡ p.AgainArgument array span
view_again_argument array span =
    ap view.argument_of (sym (argument.rolls-Again array span))
    ∙ fold-roll-Argument p.Argument p.Expression p.Place p.StructureValue p.FunctionCall view.node_argument view.node_expression view.node_place view.node_structure view.node_call (Argument-F.Again array span)

pub view_made : (k : FunctionCall) → view.call_of k ≡ p.call (out-FunctionCall k).function
    (view.arguments_from (map view.argument_of (out-FunctionCall k).arguments.items)) (out-FunctionCall k).result (out-FunctionCall k).span
view_made k =
    fold_out-FunctionCall p.Argument p.Expression p.Place p.StructureValue p.FunctionCall view.node_argument view.node_expression view.node_place view.node_structure view.node_call k
