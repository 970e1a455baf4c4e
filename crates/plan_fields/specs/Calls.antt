-- What a test can call, and with what.
use Rattle.std.specs.Prelude.{Bool, true, false, not, ◌&&◌, List, [], ◌∷◌, Option, Some, ℤ}
use Rattle.mc_value.specs.declared.int_type.IntType.{IntType}
use Rattle.mc_value.specs.IntTypes.{in_range}
use Rattle.mc_typed.specs.Tree.{Function, ParameterType, ResultType}
use Rattle.mc_typed.specs.Tree as typed

-- the types of the parameters that are integers; a record has an argument for each of them
abbrev pub integer_types : List ParameterType → List IntType
integer_types [] = []
integer_types (typed.NumberParameter a ∷ ps) = a ∷ integer_types ps
integer_types (typed.StructureParameter u ∷ ps) = integer_types ps
integer_types (typed.ArrayParameter u ∷ ps) = integer_types ps

-- as many values as types, each in the range of its type
abbrev pub are_values : List ℤ → List IntType → Bool
are_values [] [] = true
are_values [] (a ∷ types) = false
are_values (v ∷ vs) [] = false
are_values (v ∷ vs) (a ∷ types) = in_range a v && are_values vs types

-- no value may be expected of a void function
abbrev pub may_expect : Option ℤ → ResultType → Bool
may_expect (Some v) typed.NoResult = false
may_expect _ _ = true

abbrev pub takes_integers : List ParameterType → Bool
takes_integers [] = true
takes_integers (typed.NumberParameter a ∷ ps) = takes_integers ps
takes_integers (typed.StructureParameter u ∷ ps) = false
takes_integers (typed.ArrayParameter u ∷ ps) = false

abbrev pub gives_structure : ResultType → Bool
gives_structure typed.NoResult = false
gives_structure (typed.NumberResult a) = false
gives_structure (typed.StructureResult u) = true

-- a test can call a function that has integers alone for parameters and gives no structure
abbrev pub is_callable : Function → Bool
is_callable f = takes_integers f.parameters && not (gives_structure f.result)
