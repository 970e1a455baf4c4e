-- A tree without its probes is the program under them: by induction over the program's own trees.
use Rattle.std.proofs.Common.{◌≡◌, List, [], ◌∷◌, map, refl, sym, ap, subst, ◌∙◌}
use Rattle.mc_typed.specs.declared.expressions.Expression.{Expression, map-Expression, roll-Expression}
use Rattle.mc_typed.specs.declared.expressions.Place.{Place, map-Place, roll-Place}
use Rattle.mc_typed.specs.declared.expressions.Structure.{Structure, map-Structure, roll-Structure}
use Rattle.mc_typed.specs.declared.expressions.FunctionCall.{FunctionCall, map-FunctionCall, roll-FunctionCall}
use Rattle.mc_typed.specs.declared.expressions.Argument.{Argument, map-Argument, roll-Argument}
use Rattle.mc_typed.specs.declared.expressions.Argument.TheOpen.{Expression-F, Place-F, Structure-F, FunctionCall-F, Argument-F}
use Rattle.mc_typed.specs.declared.expressions.Argument.TheFolds.{ind-Expression, ind-Place, ind-Structure, ind-FunctionCall, fold-roll-Expression, fold-roll-Place, fold-roll-Structure, fold-roll-FunctionCall, fold-roll-Argument}
use Rattle.mc_typed.specs.Views as plain
use Rattle.mc_typed.specs.Tree as t
use Rattle.mc_probe.specs.Views as probed
use Rattle.mc_probe.specs.Tree as p
use Rattle.mc_probe.specs.Erase.{erase_expression, erase_place, erase_structure, erase_call, erase_argument, erase_arguments}

abbrev Argument-erases : Argument → Type 0
Argument-erases a = erase_argument (probed.argument_of a) ≡ plain.argument_of a

abbrev Expression-erases : Expression → Type 0
Expression-erases a = erase_expression (probed.expression_of a) ≡ plain.expression_of a

abbrev Place-erases : Place → Type 0
Place-erases a = erase_place (probed.place_of a) ≡ plain.place_of a

abbrev Structure-erases : Structure → Type 0
Structure-erases a = erase_structure (probed.structure_of a) ≡ plain.structure_of a

abbrev Call-erases : FunctionCall → Type 0
Call-erases a = erase_call (probed.call_of a) ≡ plain.call_of a

abbrev A : Type 0
A = (a : Argument) × Argument-erases a

abbrev E : Type 0
E = (a : Expression) × Expression-erases a

abbrev P : Type 0
P = (a : Place) × Place-erases a

abbrev S : Type 0
S = (a : Structure) × Structure-erases a

abbrev C : Type 0
C = (a : FunctionCall) × Call-erases a

rolled : (z : Expression-F Argument Expression Place Structure FunctionCall) →
    erase_expression (probed.node_expression (map-Expression Argument Expression Place Structure FunctionCall p.Argument p.Expression p.Place p.StructureValue p.FunctionCall probed.argument_of probed.expression_of probed.place_of probed.structure_of probed.call_of z))
    ≡ plain.node_expression (map-Expression Argument Expression Place Structure FunctionCall t.Argument t.Expression t.Place t.StructureValue t.FunctionCall plain.argument_of plain.expression_of plain.place_of plain.structure_of plain.call_of z) →
    Expression-erases (roll-Expression z)
rolled z h =
    ap erase_expression (fold-roll-Expression p.Argument p.Expression p.Place p.StructureValue p.FunctionCall probed.node_argument probed.node_expression probed.node_place probed.node_structure probed.node_call z)
    ∙ h
    ∙ sym (fold-roll-Expression t.Argument t.Expression t.Place t.StructureValue t.FunctionCall plain.node_argument plain.node_expression plain.node_place plain.node_structure plain.node_call z)

abbrev firsts : Expression-F A E P S C → Expression-F Argument Expression Place Structure FunctionCall
firsts = map-Expression A E P S C Argument Expression Place Structure FunctionCall (λ e. e.0) (λ e. e.0) (λ e. e.0) (λ e. e.0) (λ e. e.0)

expression_step : (y : Expression-F A E P S C) → Expression-erases (roll-Expression (firsts y))
expression_step (Expression-F.Constant v a span) = rolled (firsts (Expression-F.Constant v a span)) refl
expression_step (Expression-F.Read place a) = rolled (firsts (Expression-F.Read place a)) (ap (λ q. t.Read q a) place.1)
expression_step (Expression-F.Unary o a e span) = rolled (firsts (Expression-F.Unary o a e span)) (ap (λ q. t.Unary o a q span) e.value.1)
expression_step (Expression-F.Convert a w e span) = rolled (firsts (Expression-F.Convert a w e span)) (ap (λ q. t.Convert a w q span) e.value.1)
expression_step (Expression-F.Not e span) = rolled (firsts (Expression-F.Not e span)) (ap (λ q. t.Not q span) e.value.1)
expression_step (Expression-F.Binary o a e f span) = rolled (firsts (Expression-F.Binary o a e f span)) (λ i. t.Binary o a (e.value.1 i) (f.value.1 i) span)
expression_step (Expression-F.Logic o e f span) = rolled (firsts (Expression-F.Logic o e f span)) (λ i. t.Logic o (e.value.1 i) (f.value.1 i) span)
expression_step (Expression-F.Choice e f g a span) = rolled (firsts (Expression-F.Choice e f g a span)) (λ i. t.Choice (e.value.1 i) (f.value.1 i) (g.value.1 i) a span)
expression_step (Expression-F.Call k a) = rolled (firsts (Expression-F.Call k a)) (ap (λ q. t.Call q a) k.1)
expression_step (Expression-F.Input span) = rolled (firsts (Expression-F.Input span)) refl
expression_step (Expression-F.Probe q e) = rolled (firsts (Expression-F.Probe q e)) e.value.1

place_rolled : (z : Place-F Argument Expression Place Structure FunctionCall) →
    erase_place (probed.node_place (map-Place Argument Expression Place Structure FunctionCall p.Argument p.Expression p.Place p.StructureValue p.FunctionCall probed.argument_of probed.expression_of probed.place_of probed.structure_of probed.call_of z))
    ≡ plain.node_place (map-Place Argument Expression Place Structure FunctionCall t.Argument t.Expression t.Place t.StructureValue t.FunctionCall plain.argument_of plain.expression_of plain.place_of plain.structure_of plain.call_of z) →
    Place-erases (roll-Place z)
place_rolled z h =
    ap erase_place (fold-roll-Place p.Argument p.Expression p.Place p.StructureValue p.FunctionCall probed.node_argument probed.node_expression probed.node_place probed.node_structure probed.node_call z)
    ∙ h
    ∙ sym (fold-roll-Place t.Argument t.Expression t.Place t.StructureValue t.FunctionCall plain.node_argument plain.node_expression plain.node_place plain.node_structure plain.node_call z)

abbrev place_firsts : Place-F A E P S C → Place-F Argument Expression Place Structure FunctionCall
place_firsts = map-Place A E P S C Argument Expression Place Structure FunctionCall (λ e. e.0) (λ e. e.0) (λ e. e.0) (λ e. e.0) (λ e. e.0)

place_step : (y : Place-F A E P S C) → Place-erases (roll-Place (place_firsts y))
place_step (Place-F.Local slot span) = place_rolled (place_firsts (Place-F.Local slot span)) refl
place_step (Place-F.Static slot span) = place_rolled (place_firsts (Place-F.Static slot span)) refl
place_step (Place-F.Parameter array stride index span) = place_rolled (place_firsts (Place-F.Parameter array stride index span)) (ap (λ q. t.Parameter array stride q span) index.value.1)
place_step (Place-F.Item array n stride index span) = place_rolled (place_firsts (Place-F.Item array n stride index span)) (λ i. t.Item (array.value.1 i) n stride (index.value.1 i) span)
place_step (Place-F.Member structure member offset span) = place_rolled (place_firsts (Place-F.Member structure member offset span)) (ap (λ q. t.Member q member offset span) structure.value.1)

structure_rolled : (z : Structure-F Argument Expression Place Structure FunctionCall) →
    erase_structure (probed.node_structure (map-Structure Argument Expression Place Structure FunctionCall p.Argument p.Expression p.Place p.StructureValue p.FunctionCall probed.argument_of probed.expression_of probed.place_of probed.structure_of probed.call_of z))
    ≡ plain.node_structure (map-Structure Argument Expression Place Structure FunctionCall t.Argument t.Expression t.Place t.StructureValue t.FunctionCall plain.argument_of plain.expression_of plain.place_of plain.structure_of plain.call_of z) →
    Structure-erases (roll-Structure z)
structure_rolled z h =
    ap erase_structure (fold-roll-Structure p.Argument p.Expression p.Place p.StructureValue p.FunctionCall probed.node_argument probed.node_expression probed.node_place probed.node_structure probed.node_call z)
    ∙ h
    ∙ sym (fold-roll-Structure t.Argument t.Expression t.Place t.StructureValue t.FunctionCall plain.node_argument plain.node_expression plain.node_place plain.node_structure plain.node_call z)

abbrev structure_firsts : Structure-F A E P S C → Structure-F Argument Expression Place Structure FunctionCall
structure_firsts = map-Structure A E P S C Argument Expression Place Structure FunctionCall (λ e. e.0) (λ e. e.0) (λ e. e.0) (λ e. e.0) (λ e. e.0)

structure_step : (y : Structure-F A E P S C) → Structure-erases (roll-Structure (structure_firsts y))
structure_step (Structure-F.Stored place) = structure_rolled (structure_firsts (Structure-F.Stored place)) (ap t.Stored place.1)
structure_step (Structure-F.Returned k) = structure_rolled (structure_firsts (Structure-F.Returned k)) (ap t.Returned k.1)

call_rolled : (z : FunctionCall-F Argument Expression Place Structure FunctionCall) →
    erase_call (probed.node_call (map-FunctionCall Argument Expression Place Structure FunctionCall p.Argument p.Expression p.Place p.StructureValue p.FunctionCall probed.argument_of probed.expression_of probed.place_of probed.structure_of probed.call_of z))
    ≡ plain.node_call (map-FunctionCall Argument Expression Place Structure FunctionCall t.Argument t.Expression t.Place t.StructureValue t.FunctionCall plain.argument_of plain.expression_of plain.place_of plain.structure_of plain.call_of z) →
    Call-erases (roll-FunctionCall z)
call_rolled z h =
    ap erase_call (fold-roll-FunctionCall p.Argument p.Expression p.Place p.StructureValue p.FunctionCall probed.node_argument probed.node_expression probed.node_place probed.node_structure probed.node_call z)
    ∙ h
    ∙ sym (fold-roll-FunctionCall t.Argument t.Expression t.Place t.StructureValue t.FunctionCall plain.node_argument plain.node_expression plain.node_place plain.node_structure plain.node_call z)

abbrev call_firsts : FunctionCall-F A E P S C → FunctionCall-F Argument Expression Place Structure FunctionCall
call_firsts = map-FunctionCall A E P S C Argument Expression Place Structure FunctionCall (λ e. e.0) (λ e. e.0) (λ e. e.0) (λ e. e.0) (λ e. e.0)

arguments_erase : (xs : List A) → erase_arguments (probed.arguments_from (map probed.argument_of (map (λ e. e.0) xs))) ≡ plain.arguments_from (map plain.argument_of (map (λ e. e.0) xs))
arguments_erase [] = refl
arguments_erase (x ∷ xs) = λ i. t.arguments (x.1 i) (arguments_erase xs i)

call_step : (y : FunctionCall-F A E P S C) → Call-erases (roll-FunctionCall (call_firsts y))
call_step y = call_rolled (call_firsts y) (ap (λ q. t.call y.function q y.result y.span) (arguments_erase y.arguments.items))

argument_rolled : (z : Argument-F Argument Expression Place Structure FunctionCall) →
    erase_argument (probed.node_argument (map-Argument Argument Expression Place Structure FunctionCall p.Argument p.Expression p.Place p.StructureValue p.FunctionCall probed.argument_of probed.expression_of probed.place_of probed.structure_of probed.call_of z))
    ≡ plain.node_argument (map-Argument Argument Expression Place Structure FunctionCall t.Argument t.Expression t.Place t.StructureValue t.FunctionCall plain.argument_of plain.expression_of plain.place_of plain.structure_of plain.call_of z) →
    Argument-erases (roll-Argument z)
argument_rolled z h =
    ap erase_argument (fold-roll-Argument p.Argument p.Expression p.Place p.StructureValue p.FunctionCall probed.node_argument probed.node_expression probed.node_place probed.node_structure probed.node_call z)
    ∙ h
    ∙ sym (fold-roll-Argument t.Argument t.Expression t.Place t.StructureValue t.FunctionCall plain.node_argument plain.node_expression plain.node_place plain.node_structure plain.node_call z)

abbrev argument_firsts : Argument-F A E P S C → Argument-F Argument Expression Place Structure FunctionCall
argument_firsts = map-Argument A E P S C Argument Expression Place Structure FunctionCall (λ e. e.0) (λ e. e.0) (λ e. e.0) (λ e. e.0) (λ e. e.0)

argument_step : (y : Argument-F A E P S C) → Argument-erases (roll-Argument (argument_firsts y))
argument_step (Argument-F.Number value) = argument_rolled (argument_firsts (Argument-F.Number value)) (ap t.NumberArgument value.1)
argument_step (Argument-F.Structure value copy) = argument_rolled (argument_firsts (Argument-F.Structure value copy)) (ap (λ q. t.StructureArgument q copy) value.1)
argument_step (Argument-F.Array place n) = argument_rolled (argument_firsts (Argument-F.Array place n)) (ap (λ q. t.ArrayArgument q n) place.1)
argument_step (Argument-F.Again array span) = argument_rolled (argument_firsts (Argument-F.Again array span)) refl

pub expression_erases : (e : Expression) → Expression-erases e
expression_erases = ind-Expression Argument-erases Expression-erases Place-erases Structure-erases Call-erases
    (λ x y is. subst (λ z. Argument-erases (roll-Argument z)) is (argument_step y))
    (λ x y is. subst (λ z. Expression-erases (roll-Expression z)) is (expression_step y))
    (λ x y is. subst (λ z. Place-erases (roll-Place z)) is (place_step y))
    (λ x y is. subst (λ z. Structure-erases (roll-Structure z)) is (structure_step y))
    (λ x y is. subst (λ z. Call-erases (roll-FunctionCall z)) is (call_step y))

pub place_erases : (e : Place) → Place-erases e
place_erases = ind-Place Argument-erases Expression-erases Place-erases Structure-erases Call-erases
    (λ x y is. subst (λ z. Argument-erases (roll-Argument z)) is (argument_step y))
    (λ x y is. subst (λ z. Expression-erases (roll-Expression z)) is (expression_step y))
    (λ x y is. subst (λ z. Place-erases (roll-Place z)) is (place_step y))
    (λ x y is. subst (λ z. Structure-erases (roll-Structure z)) is (structure_step y))
    (λ x y is. subst (λ z. Call-erases (roll-FunctionCall z)) is (call_step y))

pub structure_erases : (e : Structure) → Structure-erases e
structure_erases = ind-Structure Argument-erases Expression-erases Place-erases Structure-erases Call-erases
    (λ x y is. subst (λ z. Argument-erases (roll-Argument z)) is (argument_step y))
    (λ x y is. subst (λ z. Expression-erases (roll-Expression z)) is (expression_step y))
    (λ x y is. subst (λ z. Place-erases (roll-Place z)) is (place_step y))
    (λ x y is. subst (λ z. Structure-erases (roll-Structure z)) is (structure_step y))
    (λ x y is. subst (λ z. Call-erases (roll-FunctionCall z)) is (call_step y))

pub call_erases : (e : FunctionCall) → Call-erases e
call_erases = ind-FunctionCall Argument-erases Expression-erases Place-erases Structure-erases Call-erases
    (λ x y is. subst (λ z. Argument-erases (roll-Argument z)) is (argument_step y))
    (λ x y is. subst (λ z. Expression-erases (roll-Expression z)) is (expression_step y))
    (λ x y is. subst (λ z. Place-erases (roll-Place z)) is (place_step y))
    (λ x y is. subst (λ z. Structure-erases (roll-Structure z)) is (structure_step y))
    (λ x y is. subst (λ z. Call-erases (roll-FunctionCall z)) is (call_step y))
