-- The same of effects, initializers, statements and whole programs.
use Rattle.std.proofs.Common.{◌≡◌, List, [], ◌∷◌, map, option_map, Option, Some, None, refl, sym, ap, subst, ◌∙◌}
use Rattle.mc_typed.specs.declared.effects.Effect.{Effect, map-Effect, roll-Effect}
use Rattle.mc_typed.specs.declared.effects.Effect.TheOpen.{Effect-F}
use Rattle.mc_typed.specs.declared.effects.Effect.TheFolds.{ind-Effect, fold-roll-Effect}
use Rattle.mc_typed.specs.declared.initializers.Initializer.{Initializer, map-Initializer, roll-Initializer}
use Rattle.mc_typed.specs.declared.initializers.Initializer.TheOpen.{Initializer-F}
use Rattle.mc_typed.specs.declared.initializers.Initializer.TheFolds.{ind-Initializer, fold-roll-Initializer}
use Rattle.mc_typed.specs.declared.statements.Statement.{Statement, map-Statement, roll-Statement}
use Rattle.mc_typed.specs.declared.statements.Statement.TheOpen.{Statement-F}
use Rattle.mc_typed.specs.declared.statements.Statement.TheFolds.{ind-Statement, fold-roll-Statement}
use Rattle.mc_typed.specs.declared.expressions.Expression.{Expression}
use Rattle.mc_typed.specs.declared.statements.Declarator.{Declarator}
use Rattle.mc_typed.specs.declared.statements.ForStart.{ForStart}
use Rattle.mc_typed.specs.declared.statements.ForStart.TheVariants as for_start
use Rattle.mc_typed.specs.declared.statements.ReturnValue.{ReturnValue}
use Rattle.mc_typed.specs.declared.statements.ReturnValue.TheVariants as return_value
use Rattle.mc_typed.specs.declared.functions.Function.{Function}
use Rattle.mc_typed.specs.Views as plain
use Rattle.mc_typed.specs.Tree as t
use Rattle.mc_probe.specs.Views as probed
use Rattle.mc_probe.specs.Tree as p
use Rattle.mc_probe.specs.Erase.{erase_expression, erase_effect, erase_initializer, erase_initializers, erase_declarator, erase_start, erase_return, erase_statement, erase_statements, erase_function}
use Rattle.mc_probe.specs.Laws.{TreesEraseToPrograms}
use Rattle.mc_probe.proofs.Erased.{expression_erases, place_erases, structure_erases, call_erases}

abbrev Effect-erases : Effect → Type 0
Effect-erases a = erase_effect (probed.effect_of a) ≡ plain.effect_of a

abbrev XEffect : Type 0
XEffect = (a : Effect) × Effect-erases a

effect_rolled : (z : Effect-F Effect) →
    erase_effect (probed.node_effect (map-Effect Effect p.Effect probed.effect_of z)) ≡ plain.node_effect (map-Effect Effect t.Effect plain.effect_of z) →
    Effect-erases (roll-Effect z)
effect_rolled z h =
    ap erase_effect (fold-roll-Effect p.Effect probed.node_effect z) ∙ h ∙ sym (fold-roll-Effect t.Effect plain.node_effect z)

abbrev effect_firsts : Effect-F XEffect → Effect-F Effect
effect_firsts = map-Effect XEffect Effect (λ e. e.0)

effect_step : (y : Effect-F XEffect) → Effect-erases (roll-Effect (effect_firsts y))
effect_step (Effect-F.Assign target a value span) = effect_rolled (effect_firsts (Effect-F.Assign target a value span)) (λ i. t.Assign (place_erases target i) a (expression_erases value i) span)
effect_step (Effect-F.Update target a operator common value span) = effect_rolled (effect_firsts (Effect-F.Update target a operator common value span)) (λ i. t.Update (place_erases target i) a operator common (expression_erases value i) span)
effect_step (Effect-F.Copy target value n span) = effect_rolled (effect_firsts (Effect-F.Copy target value n span)) (λ i. t.Copy (place_erases target i) (structure_erases value i) n span)
effect_step (Effect-F.Number value whole) = effect_rolled (effect_firsts (Effect-F.Number value whole)) (ap (λ q. t.NumberEffect q whole) (expression_erases value))
effect_step (Effect-F.Structure value whole) = effect_rolled (effect_firsts (Effect-F.Structure value whole)) (ap (λ q. t.StructureEffect q whole) (structure_erases value))
effect_step (Effect-F.Call k) = effect_rolled (effect_firsts (Effect-F.Call k)) (ap t.CallEffect (call_erases k))
effect_step (Effect-F.Output value span) = effect_rolled (effect_firsts (Effect-F.Output value span)) (ap (λ q. t.Output q span) (expression_erases value))
effect_step (Effect-F.Choice test chosen other span) = effect_rolled (effect_firsts (Effect-F.Choice test chosen other span)) (λ i. t.ChoiceEffect (expression_erases test i) (chosen.value.1 i) (other.value.1 i) span)
effect_step (Effect-F.Discard operand span) = effect_rolled (effect_firsts (Effect-F.Discard operand span)) (ap (λ q. t.Discard q span) operand.value.1)

pub effect_erases : (e : Effect) → Effect-erases e
effect_erases = ind-Effect Effect-erases (λ x y is. subst (λ z. Effect-erases (roll-Effect z)) is (effect_step y))

effects_erase : (xs : List Effect) → map erase_effect (map probed.effect_of xs) ≡ map plain.effect_of xs
effects_erase [] = refl
effects_erase (x ∷ xs) = λ i. effect_erases x i ∷ effects_erase xs i

abbrev Initializer-erases : Initializer → Type 0
Initializer-erases a = erase_initializer (probed.initializer_of a) ≡ plain.initializer_of a

abbrev XInitializer : Type 0
XInitializer = (a : Initializer) × Initializer-erases a

initializer_rolled : (z : Initializer-F Initializer) →
    erase_initializer (probed.node_initializer (map-Initializer Initializer p.Initializer probed.initializer_of z)) ≡ plain.node_initializer (map-Initializer Initializer t.Initializer plain.initializer_of z) →
    Initializer-erases (roll-Initializer z)
initializer_rolled z h =
    ap erase_initializer (fold-roll-Initializer p.Initializer probed.node_initializer z) ∙ h ∙ sym (fold-roll-Initializer t.Initializer plain.node_initializer z)

abbrev initializer_firsts : Initializer-F XInitializer → Initializer-F Initializer
initializer_firsts = map-Initializer XInitializer Initializer (λ e. e.0)

initializers_erase : (xs : List XInitializer) → erase_initializers (probed.initializers_from (map probed.initializer_of (map (λ e. e.0) xs))) ≡ plain.initializers_from (map plain.initializer_of (map (λ e. e.0) xs))
initializers_erase [] = refl
initializers_erase (x ∷ xs) = λ i. t.initializers (x.1 i) (initializers_erase xs i)

initializer_step : (y : Initializer-F XInitializer) → Initializer-erases (roll-Initializer (initializer_firsts y))
initializer_step (Initializer-F.Number value) = initializer_rolled (initializer_firsts (Initializer-F.Number value)) (ap t.NumberInitializer (expression_erases value))
initializer_step (Initializer-F.Structure value n) = initializer_rolled (initializer_firsts (Initializer-F.Structure value n)) (ap (λ q. t.StructureInitializer q n) (structure_erases value))
initializer_step (Initializer-F.List items n) = initializer_rolled (initializer_firsts (Initializer-F.List items n)) (ap (λ q. t.ListInitializer q n) (initializers_erase items.items))
initializer_step (Initializer-F.Zero value n) = initializer_rolled (initializer_firsts (Initializer-F.Zero value n)) (ap (λ q. t.ZeroInitializer q n) (expression_erases value))

pub initializer_erases : (e : Initializer) → Initializer-erases e
initializer_erases = ind-Initializer Initializer-erases (λ x y is. subst (λ z. Initializer-erases (roll-Initializer z)) is (initializer_step y))

initial_erases : (x : Option Initializer) → option_map erase_initializer (option_map probed.initializer_of x) ≡ option_map plain.initializer_of x
initial_erases None = refl
initial_erases (Some x) = ap Some (initializer_erases x)

test_erases : (x : Option Expression) → option_map erase_expression (option_map probed.expression_of x) ≡ option_map plain.expression_of x
test_erases None = refl
test_erases (Some x) = ap Some (expression_erases x)

declarators_erase : (xs : List Declarator) → map erase_declarator (map probed.declarator_of xs) ≡ map plain.declarator_of xs
declarators_erase [] = refl
declarators_erase (x ∷ xs) = λ i. record { slot = x.slot; cells = x.cells; value = initial_erases x.value i } ∷ declarators_erase xs i

start_erases : (x : ForStart) → erase_start (probed.start_of x) ≡ plain.start_of x
start_erases (for_start.Effects effects) = ap t.StartEffects (effects_erase effects.items)
start_erases (for_start.Declaration declarators) = ap t.StartDeclaration (declarators_erase declarators.items)

return_erases : (x : ReturnValue) → erase_return (probed.return_value_of x) ≡ plain.return_value_of x
return_erases return_value.Nothing = refl
return_erases (return_value.Number value) = ap t.ReturnNumber (expression_erases value)
return_erases (return_value.Structure value n) = ap (λ q. t.ReturnStructure q n) (structure_erases value)

abbrev Statement-erases : Statement → Type 0
Statement-erases a = erase_statement (probed.statement_of a) ≡ plain.statement_of a

abbrev XStatement : Type 0
XStatement = (a : Statement) × Statement-erases a

statement_rolled : (z : Statement-F Statement) →
    erase_statement (probed.node_statement (map-Statement Statement p.Statement probed.statement_of z)) ≡ plain.node_statement (map-Statement Statement t.Statement plain.statement_of z) →
    Statement-erases (roll-Statement z)
statement_rolled z h =
    ap erase_statement (fold-roll-Statement p.Statement probed.node_statement z) ∙ h ∙ sym (fold-roll-Statement t.Statement plain.node_statement z)

abbrev statement_firsts : Statement-F XStatement → Statement-F Statement
statement_firsts = map-Statement XStatement Statement (λ e. e.0)

items_erase : (xs : List XStatement) → erase_statements (probed.statements_from (map probed.statement_of (map (λ e. e.0) xs))) ≡ plain.statements_from (map plain.statement_of (map (λ e. e.0) xs))
items_erase [] = refl
items_erase (x ∷ xs) = λ i. t.statements (x.1 i) (items_erase xs i)

statement_step : (y : Statement-F XStatement) → Statement-erases (roll-Statement (statement_firsts y))
statement_step (Statement-F.Compound items span) = statement_rolled (statement_firsts (Statement-F.Compound items span)) (ap (λ q. t.Compound q span) (items_erase items.items))
statement_step (Statement-F.Label value span mark) = statement_rolled (statement_firsts (Statement-F.Label value span mark)) (refl)
statement_step (Statement-F.Declaration declarators span bit) = statement_rolled (statement_firsts (Statement-F.Declaration declarators span bit)) (ap (λ q. t.Declaration q span) (declarators_erase declarators.items))
statement_step (Statement-F.Null span bit) = statement_rolled (statement_firsts (Statement-F.Null span bit)) (refl)
statement_step (Statement-F.Effect effect span bit) = statement_rolled (statement_firsts (Statement-F.Effect effect span bit)) (ap (λ q. t.EffectStatement q span) (effect_erases effect))
statement_step (Statement-F.If test chosen keyword span bit) = statement_rolled (statement_firsts (Statement-F.If test chosen keyword span bit)) (λ i. t.If (expression_erases test i) (chosen.value.1 i) keyword span)
statement_step (Statement-F.IfElse test chosen other keyword span bit) = statement_rolled (statement_firsts (Statement-F.IfElse test chosen other keyword span bit)) (λ i. t.IfElse (expression_erases test i) (chosen.value.1 i) (other.value.1 i) keyword span)
statement_step (Statement-F.Switch value items keyword span bit absent) = statement_rolled (statement_firsts (Statement-F.Switch value items keyword span bit absent)) (λ i. t.Switch (expression_erases value i) (items_erase items.items i) keyword span)
statement_step (Statement-F.For start test step body keyword span bit) = statement_rolled (statement_firsts (Statement-F.For start test step body keyword span bit)) (λ i. t.For (start_erases start i) (test_erases test i) (effects_erase step.items i) (body.value.1 i) keyword span)
statement_step (Statement-F.DoWhile body test keyword span bit) = statement_rolled (statement_firsts (Statement-F.DoWhile body test keyword span bit)) (λ i. t.DoWhile (body.value.1 i) (expression_erases test i) keyword span)
statement_step (Statement-F.Break span bit) = statement_rolled (statement_firsts (Statement-F.Break span bit)) (refl)
statement_step (Statement-F.Continue span bit) = statement_rolled (statement_firsts (Statement-F.Continue span bit)) (refl)
statement_step (Statement-F.Return value span bit exit) = statement_rolled (statement_firsts (Statement-F.Return value span bit exit)) (ap (λ q. t.Return q span) (return_erases value))

pub statement_erases : (e : Statement) → Statement-erases e
statement_erases = ind-Statement Statement-erases (λ x y is. subst (λ z. Statement-erases (roll-Statement z)) is (statement_step y))

body_erases : (xs : List Statement) → erase_statements (probed.statements_from (map probed.statement_of xs)) ≡ plain.statements_from (map plain.statement_of xs)
body_erases [] = refl
body_erases (x ∷ xs) = λ i. t.statements (statement_erases x i) (body_erases xs i)

pub function_erases : (f : Function) → erase_function (probed.function_of f) ≡ plain.function_of f
function_erases f = ap (λ (body : t.Statements). record (plain.function_of f) { body = body }) (body_erases f.body.items)

functions_erase : (fs : List Function) → map erase_function (map probed.function_of fs) ≡ map plain.function_of fs
functions_erase [] = refl
functions_erase (f ∷ fs) = λ i. function_erases f i ∷ functions_erase fs i

pub programs_erase : TreesEraseToPrograms
programs_erase parts = ap (λ (fs : List t.Function). record (plain.program_of parts) { functions = fs }) (functions_erase parts.functions)
