-- Arguments that are gathered one after another.
use Rattle.std.specs.Prelude.{List, [], ◌∷◌, ◌++◌}
use Rattle.mc_typed.specs.Tree.{Argument, Arguments, arguments}
use Rattle.types_rules.specs.Profile.{sum_of}
use Rattle.types_rules.specs.Values.{lift2}
use Rattle.types_rules.specs.Calls.{Given, judged_given}
use Rattle.types_faults.specs.Kept.{least}

abbrev pub squeezed_given : {A : Type 0} → Given A → Given A
squeezed_given x = record x { faults = least x.faults }

abbrev pub before : List Argument → Arguments → Arguments
before [] rest = rest
before (a ∷ given) rest = arguments a (before given rest)

-- what is found of some arguments, and of those after them
abbrev pub gathered : Given (List Argument) → Given Arguments → Given Arguments
gathered x y =
    judged_given (x.faults ++ y.faults) (lift2 before x.value y.value) (sum_of x.copied y.copied) y.scope

abbrev pub with_last : List Argument → Argument → List Argument
with_last given a = given ++ (a ∷ [])

-- what is found of some arguments, and of one more
abbrev pub extended : Given (List Argument) → Given Argument → Given (List Argument)
extended x y =
    judged_given (x.faults ++ y.faults) (lift2 with_last x.value y.value) (sum_of x.copied y.copied)
    y.scope
