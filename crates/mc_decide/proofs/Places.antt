-- The nodes of places, structures and arguments.
use Rattle.std.proofs.Common.{◌≡◌, ◌∙◌, sym, ap, ℕ, Box}
use Rattle.std.specs.Global.{Global}
use Rattle.mc_span.specs.declared.span.Span.{Span}
use Rattle.mc_typed.specs.declared.expressions.Slot.{Slot}
use Rattle.mc_typed.specs.declared.expressions.Expression.{Expression}
use Rattle.mc_typed.specs.declared.expressions.Place.{Place}
use Rattle.mc_typed.specs.declared.expressions.Place.TheVariants as code_place
use Rattle.mc_typed.specs.declared.expressions.Structure.{Structure}
use Rattle.mc_typed.specs.declared.expressions.Structure.TheVariants as code_structure
use Rattle.mc_typed.specs.declared.expressions.FunctionCall.{FunctionCall}
use Rattle.mc_typed.specs.declared.expressions.Argument.{Argument}
use Rattle.mc_typed.specs.declared.expressions.Argument.TheVariants as code_argument
use Rattle.mc_typed.specs.declared.expressions.Argument.TheOpen.{Place-F, Structure-F, Argument-F}
use Rattle.mc_typed.specs.declared.expressions.Argument.TheFolds.{fold-roll-Place, fold-roll-Structure, fold-roll-Argument}
use Rattle.mc_typed.specs.Tree as t
use Rattle.mc_typed.specs.Views.{argument_of, call_of, node_argument, node_call, node_expression, node_place, node_structure, place_of, structure_of}
use Rattle.decide_rules.specs.Nodes as n
use Rattle.decide_walk.proofs.Shapes.{node}

abbrev pub place : Place → n.Node
place p = n.place (place_of p)

abbrev pub structure : Structure → n.Node
structure s = n.structure (structure_of s)

abbrev pub argument : Argument → n.Node
argument a = n.argument (argument_of a)

pub parameter_place : (array stride : ℕ) (index : Box Expression Global) (span : Span) → place (code_place.Parameter array stride index span) ≡ n.Expression n.Other (n.part (node index.value) n.no_parts) span
parameter_place array stride index span =
    ap place (sym (code_place.rolls-Parameter array stride index span))
    ∙ ap n.place (fold-roll-Place t.Argument t.Expression t.Place t.StructureValue t.FunctionCall node_argument node_expression node_place node_structure node_call (Place-F.Parameter array stride index span))

pub item_place : (array : Box Place Global) (length stride : ℕ) (index : Box Expression Global) (span : Span) → place (code_place.Item array length stride index span) ≡ n.Expression n.Other (n.part (place array.value) (n.part (node index.value) n.no_parts)) span
item_place array length stride index span =
    ap place (sym (code_place.rolls-Item array length stride index span))
    ∙ ap n.place (fold-roll-Place t.Argument t.Expression t.Place t.StructureValue t.FunctionCall node_argument node_expression node_place node_structure node_call (Place-F.Item array length stride index span))

pub member_place : (whole : Box Place Global) (member offset : ℕ) (span : Span) → place (code_place.Member whole member offset span) ≡ n.Expression n.Other (n.part (place whole.value) n.no_parts) span
member_place whole member offset span =
    ap place (sym (code_place.rolls-Member whole member offset span))
    ∙ ap n.place (fold-roll-Place t.Argument t.Expression t.Place t.StructureValue t.FunctionCall node_argument node_expression node_place node_structure node_call (Place-F.Member whole member offset span))

pub stored_structure : (object : Place) → structure (code_structure.Stored object) ≡ place object
stored_structure object =
    ap structure (sym (code_structure.rolls-Stored object))
    ∙ ap n.structure (fold-roll-Structure t.Argument t.Expression t.Place t.StructureValue t.FunctionCall node_argument node_expression node_place node_structure node_call (Structure-F.Stored object))

pub returned_structure : (k : FunctionCall) → structure (code_structure.Returned k) ≡ n.Expression n.Other (n.call_parts (call_of k)) (t.span_of_call (call_of k))
returned_structure k =
    ap structure (sym (code_structure.rolls-Returned k))
    ∙ ap n.structure (fold-roll-Structure t.Argument t.Expression t.Place t.StructureValue t.FunctionCall node_argument node_expression node_place node_structure node_call (Structure-F.Returned k))

pub number_argument : (e : Expression) → argument (code_argument.Number e) ≡ node e
number_argument e =
    ap argument (sym (code_argument.rolls-Number e))
    ∙ ap n.argument (fold-roll-Argument t.Argument t.Expression t.Place t.StructureValue t.FunctionCall node_argument node_expression node_place node_structure node_call (Argument-F.Number e))

pub structure_argument : (whole : Structure) (copy : Slot) → argument (code_argument.Structure whole copy) ≡ structure whole
structure_argument whole copy =
    ap argument (sym (code_argument.rolls-Structure whole copy))
    ∙ ap n.argument (fold-roll-Argument t.Argument t.Expression t.Place t.StructureValue t.FunctionCall node_argument node_expression node_place node_structure node_call (Argument-F.Structure whole copy))

pub array_argument : (object : Place) (length : ℕ) → argument (code_argument.Array object length) ≡ place object
array_argument object length =
    ap argument (sym (code_argument.rolls-Array object length))
    ∙ ap n.argument (fold-roll-Argument t.Argument t.Expression t.Place t.StructureValue t.FunctionCall node_argument node_expression node_place node_structure node_call (Argument-F.Array object length))

pub again_argument : (array : ℕ) (span : Span) → argument (code_argument.Again array span) ≡ n.Expression n.Other n.no_parts span
again_argument array span =
    ap argument (sym (code_argument.rolls-Again array span))
    ∙ ap n.argument (fold-roll-Argument t.Argument t.Expression t.Place t.StructureValue t.FunctionCall node_argument node_expression node_place node_structure node_call (Argument-F.Again array span))
