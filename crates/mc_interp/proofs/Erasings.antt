-- The parts of statements without their probes are the program's own parts.
use Rattle.std.proofs.Common.{◌≡◌, List, [], ◌∷◌, Option, Some, None, map, option_map, refl, ap}
use Rattle.mc_typed.specs.declared.effects.Effect.{Effect}
use Rattle.mc_typed.specs.declared.initializers.Initializer.{Initializer}
use Rattle.mc_typed.specs.declared.statements.Declarator.{Declarator}
use Rattle.mc_typed.specs.declared.statements.ForStart.{ForStart}
use Rattle.mc_typed.specs.declared.statements.ForStart.TheVariants as for_start
use Rattle.mc_typed.specs.declared.statements.ReturnValue.{ReturnValue}
use Rattle.mc_typed.specs.declared.statements.ReturnValue.TheVariants as return_value
use Rattle.mc_typed.specs.Views as plain
use Rattle.mc_typed.specs.Tree as t
use Rattle.mc_probe.specs.Views as view
use Rattle.mc_probe.specs.Erase.{erase_declarator, erase_effect, erase_initializer, erase_return, erase_start}
use Rattle.mc_probe.proofs.Erased.{expression_erases, structure_erases}
use Rattle.mc_probe.proofs.ErasedPrograms.{effect_erases, initializer_erases}

effects_erase : (xs : List Effect) → map erase_effect (map view.effect_of xs) ≡ map plain.effect_of xs
effects_erase [] = refl
effects_erase (x ∷ xs) = λ i. effect_erases x i ∷ effects_erase xs i

initial_erases : (x : Option Initializer) → option_map erase_initializer (option_map view.initializer_of x) ≡ option_map plain.initializer_of x
initial_erases None = refl
initial_erases (Some x) = ap Some (initializer_erases x)

pub declarators_erase : (xs : List Declarator) → map erase_declarator (map view.declarator_of xs) ≡ map plain.declarator_of xs
declarators_erase [] = refl
declarators_erase (x ∷ xs) = λ i. record { slot = x.slot; cells = x.cells; value = initial_erases x.value i } ∷ declarators_erase xs i

pub start_erases : (x : ForStart) → erase_start (view.start_of x) ≡ plain.start_of x
start_erases (for_start.Effects effects) = ap t.StartEffects (effects_erase effects.items)
start_erases (for_start.Declaration declarators) = ap t.StartDeclaration (declarators_erase declarators.items)

pub return_erases : (x : ReturnValue) → erase_return (view.return_value_of x) ≡ plain.return_value_of x
return_erases return_value.Nothing = refl
return_erases (return_value.Number value) = ap t.ReturnNumber (expression_erases value)
return_erases (return_value.Structure value n) = ap (λ q. t.ReturnStructure q n) (structure_erases value)
