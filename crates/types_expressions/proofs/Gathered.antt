-- Arguments that are gathered one after another are those that are judged from the last one.
use Rattle.std.proofs.Common.{◌≡◌, ◌∙◌, ℕ, List, [], ◌∷◌, ◌++◌, Option, Some, None, refl, ap, append_assoc}
use Rattle.mc_typed.specs.Tree.{Argument, Arguments, arguments}
use Rattle.mc_typed.specs.Tree.{no_arguments}
use Rattle.mc_typed.specs.Views.{arguments_from}
use Rattle.types_faults.specs.declared.fault.Fault.{Fault}
use Rattle.types_rules.specs.Profile.{sum_of}
use Rattle.types_rules.specs.Values.{lift2}
use Rattle.types_rules.specs.Types.{ParameterKind}
use Rattle.types_rules.specs.Values.{Found}
use Rattle.types_rules.specs.Calls.{Given, judged_given, argument_judged, arguments_judged}
use Rattle.types_faults.specs.Kept.{least}
use Rattle.types_rules.proofs.Sums.{sums}
use Rattle.types_scopes.specs.steps.Squeezed.{squeezed}
use Rattle.types_expressions.specs.steps.Gathered.{squeezed_given, before, gathered, with_last, extended}
use Rattle.types_scopes.proofs.Squeezed.{least_front, least_back}
use Rattle.types_expressions.proofs.Nodes.{argument_node}

before_last : (given : List Argument) (a : Argument) (rest : Arguments)
    → before (with_last given a) rest ≡ before given (arguments a rest)
before_last [] a rest = refl
before_last (b ∷ given) a rest = ap (arguments b) (before_last given a rest)

lift_last : (x : Option (List Argument)) (a : Option Argument) (y : Option Arguments)
    → lift2 before (lift2 with_last x a) y ≡ lift2 before x (lift2 arguments a y)
lift_last None a y = refl
lift_last (Some x) None y = refl
lift_last (Some x) (Some a) None = refl
lift_last (Some x) (Some a) (Some y) = ap (λ (r : Arguments). Some r) (before_last x a y)

pub gathered_step : (x : Given (List Argument)) (one : Given Argument) (y : Given Arguments)
    → squeezed_given (gathered (squeezed_given (extended x one)) y) ≡ squeezed_given (gathered x (arguments_judged one y))
gathered_step x one y =
    ap (λ (fs : List Fault). judged_given fs (lift2 before (lift2 with_last x.value one.value) y.value) (sum_of (sum_of x.copied one.copied) y.copied) y.scope)
    (least_front (x.faults ++ one.faults) y.faults ∙ ap least (append_assoc x.faults one.faults y.faults))
    ∙ ap (λ (v : Option Arguments). judged_given (least (x.faults ++ (one.faults ++ y.faults))) v (sum_of (sum_of x.copied one.copied) y.copied) y.scope)
    (lift_last x.value one.value y.value)
    ∙ ap (λ (n : ℕ). judged_given (least (x.faults ++ (one.faults ++ y.faults))) (lift2 before x.value (lift2 arguments one.value y.value)) n y.scope)
    (sums x.copied one.copied y.copied)

squeezed_inside : (x : Given (List Argument)) (a : Given Argument) (y : Given Arguments)
    → squeezed_given (gathered x (arguments_judged (squeezed_given a) y)) ≡ squeezed_given (gathered x (arguments_judged a y))
squeezed_inside x a y =
    ap (λ (fs : List Fault). judged_given fs (lift2 before x.value (lift2 arguments a.value y.value)) (sum_of x.copied (sum_of a.copied y.copied)) y.scope)
    (least_back x.faults (least a.faults ++ y.faults) (a.faults ++ y.faults) (least_front a.faults y.faults))

-- one more argument, of an expression
pub gathered_argument : (at : ℕ) (p : Option ParameterKind) (f : Found) (x g : Given (List Argument))
    (one : Given Argument) (y : Given Arguments)
    → one ≡ squeezed_given (argument_judged at p (squeezed f)) → g ≡ squeezed_given (extended x one)
    → squeezed_given (gathered g y) ≡ squeezed_given (gathered x (arguments_judged (argument_judged at p f) y))
gathered_argument at p f x g one y is_one is_g =
    ap (λ (h : Given (List Argument)). squeezed_given (gathered h y)) is_g
    ∙ gathered_step x one y
    ∙ ap (λ (a : Given Argument). squeezed_given (gathered x (arguments_judged a y))) (is_one ∙ argument_node at p f)
    ∙ squeezed_inside x (argument_judged at p f) y

-- ---- all arguments

pub before_none : (given : List Argument) → before given no_arguments ≡ arguments_from given
before_none [] = refl
before_none (a ∷ given) = ap (arguments a) (before_none given)
