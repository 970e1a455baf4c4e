-- Calls with so many arguments.
use Rattle.std.proofs.Common.{◌≡◌, List, [], ◌∷◌, map, length, None, refl, arith, option_and_then}
use Rattle.mc_tree.specs.Tree as tree
use Rattle.mc_tree.specs.Views.{expressions_from}
use Rattle.mc_span.specs.declared.span.Span.{Span}
use Rattle.mc_typed.specs.declared.expressions.Argument.{Argument}
use Rattle.mc_typed.specs.Tree as t
use Rattle.mc_typed.specs.Views.{argument_of, arguments_from}
use Rattle.types_rules.specs.Calls.{output_of, argument_count}
use Rattle.types_expressions.specs.steps.Callees.{only_argument, output_with}

pub output_of_only : (span : Span) (given : t.Arguments)
    → output_of span given ≡ option_and_then (output_with span) (only_argument given)
output_of_only span t.no_arguments = refl
output_of_only span (t.arguments (t.NumberArgument e) t.no_arguments) = refl
output_of_only span (t.arguments (t.NumberArgument e) (t.arguments b rest)) = refl
output_of_only span (t.arguments (t.StructureArgument w slot) t.no_arguments) = refl
output_of_only span (t.arguments (t.StructureArgument w slot) (t.arguments b rest)) = refl
output_of_only span (t.arguments (t.ArrayArgument place n) t.no_arguments) = refl
output_of_only span (t.arguments (t.ArrayArgument place n) (t.arguments b rest)) = refl
output_of_only span (t.arguments (t.AgainArgument array at) t.no_arguments) = refl
output_of_only span (t.arguments (t.AgainArgument array at) (t.arguments b rest)) = refl

-- no other number of arguments is one
pub only_none : (all : List Argument) → (length all ≡ 1 → ⊥)
    → None ≡ only_argument (arguments_from (map argument_of all))
only_none [] other = refl
only_none (a ∷ []) other = absurd (other refl)
only_none (a ∷ b ∷ all) other = refl

pub counted : (all : List tree.Expression) → argument_count (expressions_from all) ≡ length all
counted [] = refl
counted (e ∷ all) = let h : argument_count (expressions_from all) ≡ length all = counted all in omega arith
