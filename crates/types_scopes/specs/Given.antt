-- What is found of arguments.
use Rattle.std.specs.Prelude.{List, map, option_map, Vec}
use Rattle.std.specs.declared.alloc.Global.{Global}
use Rattle.mc_typed.specs.declared.expressions.Argument.{Argument}
use Rattle.mc_typed.specs.Tree as typed
use Rattle.mc_typed.specs.Views.{argument_of, arguments_from}
use Rattle.types_rules.specs.Scopes.{Scope}
use Rattle.types_rules.specs.Calls as calls
use Rattle.types_scopes.specs.declared.found.Given.{Given}
use Rattle.types_faults.specs.Kept.{listed}

-- arguments, in their order
abbrev pub items_of : Vec Argument Global → List typed.Argument
items_of given = map argument_of given.items

abbrev pub arguments_of : Vec Argument Global → typed.Arguments
arguments_of given = arguments_from (map argument_of given.items)

-- with the scope after them
abbrev pub given_of : {A B : Type 0} → (A → B) → Given A → Scope → calls.Given B
given_of f x s =
    record { faults = listed x.fault; value = option_map f x.value; copied = x.copied; scope = s }
