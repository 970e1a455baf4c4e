-- What is written of each expression and of each of its parts.
use Rattle.std.proofs.Common.{◌≡◌, ◌∙◌, sym, ap, ℕ, ℤ, Bool, [], ◌∷◌, Box, codes}
use Rattle.std.specs.Global.{Global}
use Rattle.mc_span.specs.declared.span.Span.{Span}
use Rattle.mc_value.specs.declared.int_type.IntType.{IntType}
use Rattle.mc_value.specs.declared.operators.UnOp.{UnOp}
use Rattle.mc_typed.specs.declared.operators.Operator.{Operator}
use Rattle.mc_typed.specs.declared.operators.LogicOperator.{LogicOperator}
use Rattle.mc_typed.specs.declared.probes.Probe.{Probe}
use Rattle.mc_typed.specs.declared.expressions.Slot.{Slot}
use Rattle.mc_typed.specs.declared.expressions.Expression.{Expression}
use Rattle.mc_typed.specs.declared.expressions.Expression.TheVariants as code
use Rattle.mc_typed.specs.declared.expressions.Place.{Place}
use Rattle.mc_typed.specs.declared.expressions.Place.TheVariants as place
use Rattle.mc_typed.specs.declared.expressions.Structure.{Structure}
use Rattle.mc_typed.specs.declared.expressions.Structure.TheVariants as structure
use Rattle.mc_typed.specs.declared.expressions.FunctionCall.{FunctionCall}
use Rattle.mc_typed.specs.declared.expressions.Argument.{Argument}
use Rattle.mc_typed.specs.declared.expressions.Argument.TheVariants as argument
use Rattle.mc_typed.specs.declared.expressions.Argument.TheOpen.{Expression-F, Place-F, Structure-F, Argument-F}
use Rattle.mc_typed.specs.declared.expressions.Argument.TheFolds.{fold-roll-Expression, fold-roll-Place, fold-roll-Structure, fold-roll-Argument}
use Rattle.mc_probe.specs.Views.{argument_of, call_of, expression_of, node_argument, node_call, node_expression, node_place, node_structure, place_of, structure_of}
use Rattle.mc_probe.specs.Tree as p
use Rattle.mc_print.specs.Pens.{Pen, ◌▸◌, nothing}
use Rattle.mc_print.specs.Insertions.{at, opening}
use Rattle.mc_print.specs.Texts.{extent, write, write_place, write_structure, write_argument, write_call}

abbrev pub call_written : FunctionCall → Pen → Pen
call_written k = write_call (call_of k)

abbrev pub opened : Probe → Expression → Pen → Pen
opened probe e = at (extent (expression_of e)).start (opening probe)

abbrev pub closed : Expression → Pen → Pen
closed e = at (extent (expression_of e)).end (codes ")" ∷ [])

abbrev pub place_written : Place → Pen → Pen
place_written t = write_place (place_of t)

abbrev pub expression_written : Expression → Pen → Pen
expression_written t = write (expression_of t)

abbrev pub structure_written : Structure → Pen → Pen
structure_written t = write_structure (structure_of t)

abbrev pub argument_written : Argument → Pen → Pen
argument_written t = write_argument (argument_of t)

pub place_local : (tree : Place) (slot : Slot) (span : Span) → tree ≡ place.Local slot span → place_written tree ≡ (nothing)
place_local tree slot span is =
    ap place_written is ∙ (ap place_written (sym (place.rolls-Local slot span))
    ∙ ap write_place (fold-roll-Place p.Argument p.Expression p.Place p.StructureValue p.FunctionCall node_argument node_expression node_place node_structure node_call (Place-F.Local slot span)))

pub place_static : (tree : Place) (slot : Slot) (span : Span) → tree ≡ place.Static slot span → place_written tree ≡ (nothing)
place_static tree slot span is =
    ap place_written is ∙ (ap place_written (sym (place.rolls-Static slot span))
    ∙ ap write_place (fold-roll-Place p.Argument p.Expression p.Place p.StructureValue p.FunctionCall node_argument node_expression node_place node_structure node_call (Place-F.Static slot span)))

pub place_parameter : (tree : Place) (e : Expression) (array : ℕ) (stride : ℕ) (x : Box Expression Global) (span : Span) → tree ≡ place.Parameter array stride x span → e ≡ x.value → place_written tree ≡ (expression_written e)
place_parameter tree e array stride x span is is_e =
    (ap place_written is ∙ (ap place_written (sym (place.rolls-Parameter array stride x span))
    ∙ ap write_place (fold-roll-Place p.Argument p.Expression p.Place p.StructureValue p.FunctionCall node_argument node_expression node_place node_structure node_call (Place-F.Parameter array stride x span))))
    ∙ ap (λ (z : Expression). expression_written z) (sym is_e)

pub place_item : (tree : Place) (q : Place) (e : Expression) (x : Box Place Global) (n : ℕ) (stride : ℕ) (y : Box Expression Global) (span : Span) → tree ≡ place.Item x n stride y span → q ≡ x.value → e ≡ y.value → place_written tree ≡ (place_written q ▸ expression_written e)
place_item tree q e x n stride y span is is_q is_e =
    (ap place_written is ∙ (ap place_written (sym (place.rolls-Item x n stride y span))
    ∙ ap write_place (fold-roll-Place p.Argument p.Expression p.Place p.StructureValue p.FunctionCall node_argument node_expression node_place node_structure node_call (Place-F.Item x n stride y span))))
    ∙ (ap (λ (z : Place). place_written z ▸ expression_written y.value) (sym is_q)
    ∙ ap (λ (z : Expression). place_written q ▸ expression_written z) (sym is_e))

pub place_member : (tree : Place) (q : Place) (x : Box Place Global) (i : ℕ) (offset : ℕ) (span : Span) → tree ≡ place.Member x i offset span → q ≡ x.value → place_written tree ≡ (place_written q)
place_member tree q x i offset span is is_q =
    (ap place_written is ∙ (ap place_written (sym (place.rolls-Member x i offset span))
    ∙ ap write_place (fold-roll-Place p.Argument p.Expression p.Place p.StructureValue p.FunctionCall node_argument node_expression node_place node_structure node_call (Place-F.Member x i offset span))))
    ∙ ap (λ (z : Place). place_written z) (sym is_q)

pub expression_constant : (tree : Expression) (v : ℤ) (a : IntType) (span : Span) → tree ≡ code.Constant v a span → expression_written tree ≡ (nothing)
expression_constant tree v a span is =
    ap expression_written is ∙ (ap expression_written (sym (code.rolls-Constant v a span))
    ∙ ap write (fold-roll-Expression p.Argument p.Expression p.Place p.StructureValue p.FunctionCall node_argument node_expression node_place node_structure node_call (Expression-F.Constant v a span)))

pub expression_read : (tree : Expression) (object : Place) (a : IntType) → tree ≡ code.Read object a → expression_written tree ≡ (place_written object)
expression_read tree object a is =
    ap expression_written is ∙ (ap expression_written (sym (code.rolls-Read object a))
    ∙ ap write (fold-roll-Expression p.Argument p.Expression p.Place p.StructureValue p.FunctionCall node_argument node_expression node_place node_structure node_call (Expression-F.Read object a)))

pub expression_unary : (tree : Expression) (e : Expression) (operator : UnOp) (a : IntType) (x : Box Expression Global) (span : Span) → tree ≡ code.Unary operator a x span → e ≡ x.value → expression_written tree ≡ (expression_written e)
expression_unary tree e operator a x span is is_e =
    (ap expression_written is ∙ (ap expression_written (sym (code.rolls-Unary operator a x span))
    ∙ ap write (fold-roll-Expression p.Argument p.Expression p.Place p.StructureValue p.FunctionCall node_argument node_expression node_place node_structure node_call (Expression-F.Unary operator a x span))))
    ∙ ap (λ (z : Expression). expression_written z) (sym is_e)

pub expression_convert : (tree : Expression) (e : Expression) (a : IntType) (explicit : Bool) (x : Box Expression Global) (span : Span) → tree ≡ code.Convert a explicit x span → e ≡ x.value → expression_written tree ≡ (expression_written e)
expression_convert tree e a explicit x span is is_e =
    (ap expression_written is ∙ (ap expression_written (sym (code.rolls-Convert a explicit x span))
    ∙ ap write (fold-roll-Expression p.Argument p.Expression p.Place p.StructureValue p.FunctionCall node_argument node_expression node_place node_structure node_call (Expression-F.Convert a explicit x span))))
    ∙ ap (λ (z : Expression). expression_written z) (sym is_e)

pub expression_not : (tree : Expression) (e : Expression) (x : Box Expression Global) (span : Span) → tree ≡ code.Not x span → e ≡ x.value → expression_written tree ≡ (expression_written e)
expression_not tree e x span is is_e =
    (ap expression_written is ∙ (ap expression_written (sym (code.rolls-Not x span))
    ∙ ap write (fold-roll-Expression p.Argument p.Expression p.Place p.StructureValue p.FunctionCall node_argument node_expression node_place node_structure node_call (Expression-F.Not x span))))
    ∙ ap (λ (z : Expression). expression_written z) (sym is_e)

pub expression_binary : (tree : Expression) (e : Expression) (f : Expression) (operator : Operator) (a : IntType) (x : Box Expression Global) (y : Box Expression Global) (span : Span) → tree ≡ code.Binary operator a x y span → e ≡ x.value → f ≡ y.value → expression_written tree ≡ (expression_written e ▸ expression_written f)
expression_binary tree e f operator a x y span is is_e is_f =
    (ap expression_written is ∙ (ap expression_written (sym (code.rolls-Binary operator a x y span))
    ∙ ap write (fold-roll-Expression p.Argument p.Expression p.Place p.StructureValue p.FunctionCall node_argument node_expression node_place node_structure node_call (Expression-F.Binary operator a x y span))))
    ∙ (ap (λ (z : Expression). expression_written z ▸ expression_written y.value) (sym is_e)
    ∙ ap (λ (z : Expression). expression_written e ▸ expression_written z) (sym is_f))

pub expression_logic : (tree : Expression) (e : Expression) (f : Expression) (operator : LogicOperator) (x : Box Expression Global) (y : Box Expression Global) (span : Span) → tree ≡ code.Logic operator x y span → e ≡ x.value → f ≡ y.value → expression_written tree ≡ (expression_written e ▸ expression_written f)
expression_logic tree e f operator x y span is is_e is_f =
    (ap expression_written is ∙ (ap expression_written (sym (code.rolls-Logic operator x y span))
    ∙ ap write (fold-roll-Expression p.Argument p.Expression p.Place p.StructureValue p.FunctionCall node_argument node_expression node_place node_structure node_call (Expression-F.Logic operator x y span))))
    ∙ (ap (λ (z : Expression). expression_written z ▸ expression_written y.value) (sym is_e)
    ∙ ap (λ (z : Expression). expression_written e ▸ expression_written z) (sym is_f))

pub expression_choice : (tree : Expression) (e : Expression) (f : Expression) (g : Expression) (x : Box Expression Global) (y : Box Expression Global) (z0 : Box Expression Global) (a : IntType) (span : Span) → tree ≡ code.Choice x y z0 a span → e ≡ x.value → f ≡ y.value → g ≡ z0.value → expression_written tree ≡ (expression_written e ▸ expression_written f ▸ expression_written g)
expression_choice tree e f g x y z0 a span is is_e is_f is_g =
    (ap expression_written is ∙ (ap expression_written (sym (code.rolls-Choice x y z0 a span))
    ∙ ap write (fold-roll-Expression p.Argument p.Expression p.Place p.StructureValue p.FunctionCall node_argument node_expression node_place node_structure node_call (Expression-F.Choice x y z0 a span))))
    ∙ (ap (λ (z : Expression). expression_written z ▸ expression_written y.value ▸ expression_written z0.value) (sym is_e)
    ∙ (ap (λ (z : Expression). expression_written e ▸ expression_written z ▸ expression_written z0.value) (sym is_f)
    ∙ ap (λ (z : Expression). expression_written e ▸ expression_written f ▸ expression_written z) (sym is_g)))

pub expression_call : (tree : Expression) (k : FunctionCall) (a : IntType) → tree ≡ code.Call k a → expression_written tree ≡ (call_written k)
expression_call tree k a is =
    ap expression_written is ∙ (ap expression_written (sym (code.rolls-Call k a))
    ∙ ap write (fold-roll-Expression p.Argument p.Expression p.Place p.StructureValue p.FunctionCall node_argument node_expression node_place node_structure node_call (Expression-F.Call k a)))

pub expression_input : (tree : Expression) (span : Span) → tree ≡ code.Input span → expression_written tree ≡ (nothing)
expression_input tree span is =
    ap expression_written is ∙ (ap expression_written (sym (code.rolls-Input span))
    ∙ ap write (fold-roll-Expression p.Argument p.Expression p.Place p.StructureValue p.FunctionCall node_argument node_expression node_place node_structure node_call (Expression-F.Input span)))

pub expression_probe : (tree : Expression) (e : Expression) (probe : Probe) (x : Box Expression Global) → tree ≡ code.Probe probe x → e ≡ x.value → expression_written tree ≡ (opened probe e ▸ expression_written e ▸ closed e)
expression_probe tree e probe x is is_e =
    (ap expression_written is ∙ (ap expression_written (sym (code.rolls-Probe probe x))
    ∙ ap write (fold-roll-Expression p.Argument p.Expression p.Place p.StructureValue p.FunctionCall node_argument node_expression node_place node_structure node_call (Expression-F.Probe probe x))))
    ∙ ap (λ (z : Expression). opened probe z ▸ expression_written z ▸ closed z) (sym is_e)

pub structure_stored : (tree : Structure) (object : Place) → tree ≡ structure.Stored object → structure_written tree ≡ (place_written object)
structure_stored tree object is =
    ap structure_written is ∙ (ap structure_written (sym (structure.rolls-Stored object))
    ∙ ap write_structure (fold-roll-Structure p.Argument p.Expression p.Place p.StructureValue p.FunctionCall node_argument node_expression node_place node_structure node_call (Structure-F.Stored object)))

pub structure_returned : (tree : Structure) (k : FunctionCall) → tree ≡ structure.Returned k → structure_written tree ≡ (call_written k)
structure_returned tree k is =
    ap structure_written is ∙ (ap structure_written (sym (structure.rolls-Returned k))
    ∙ ap write_structure (fold-roll-Structure p.Argument p.Expression p.Place p.StructureValue p.FunctionCall node_argument node_expression node_place node_structure node_call (Structure-F.Returned k)))

pub argument_number : (tree : Argument) (e : Expression) → tree ≡ argument.Number e → argument_written tree ≡ (expression_written e)
argument_number tree e is =
    ap argument_written is ∙ (ap argument_written (sym (argument.rolls-Number e))
    ∙ ap write_argument (fold-roll-Argument p.Argument p.Expression p.Place p.StructureValue p.FunctionCall node_argument node_expression node_place node_structure node_call (Argument-F.Number e)))

pub argument_structure : (tree : Argument) (s : Structure) (slot : Slot) → tree ≡ argument.Structure s slot → argument_written tree ≡ (structure_written s)
argument_structure tree s slot is =
    ap argument_written is ∙ (ap argument_written (sym (argument.rolls-Structure s slot))
    ∙ ap write_argument (fold-roll-Argument p.Argument p.Expression p.Place p.StructureValue p.FunctionCall node_argument node_expression node_place node_structure node_call (Argument-F.Structure s slot)))

pub argument_array : (tree : Argument) (object : Place) (n : ℕ) → tree ≡ argument.Array object n → argument_written tree ≡ (place_written object)
argument_array tree object n is =
    ap argument_written is ∙ (ap argument_written (sym (argument.rolls-Array object n))
    ∙ ap write_argument (fold-roll-Argument p.Argument p.Expression p.Place p.StructureValue p.FunctionCall node_argument node_expression node_place node_structure node_call (Argument-F.Array object n)))

pub argument_again : (tree : Argument) (array : ℕ) (span : Span) → tree ≡ argument.Again array span → argument_written tree ≡ (nothing)
argument_again tree array span is =
    ap argument_written is ∙ (ap argument_written (sym (argument.rolls-Again array span))
    ∙ ap write_argument (fold-roll-Argument p.Argument p.Expression p.Place p.StructureValue p.FunctionCall node_argument node_expression node_place node_structure node_call (Argument-F.Again array span)))
