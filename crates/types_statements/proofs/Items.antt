-- Items of a list.
use Rattle.std.proofs.Common.{◌≡◌, List, [], ◌∷◌, ◌++◌, map, option_map, refl, ap}
use Rattle.mc_typed.specs.declared.initializers.Initializer.{Initializer}
use Rattle.mc_typed.specs.Views.{initializer_of, initializers_from}
use Rattle.mc_typed.specs.Tree as t
use Rattle.types_rules.specs.Initializers.{only_item}
use Rattle.types_statements.specs.Items.{then_item}
use Rattle.types_statements.specs.Lists.{only_of}

pub last_item : (items : List Initializer) (one : Initializer)
    → initializers_from (map initializer_of (items ++ one ∷ []))
    ≡ then_item (initializers_from (map initializer_of items)) (initializer_of one)
last_item [] one = refl
last_item (first ∷ rest) one = ap (t.initializers (initializer_of first)) (last_item rest one)

pub only_initializer : (all : List Initializer)
    → option_map initializer_of (only_of all) ≡ only_item (initializers_from (map initializer_of all))
only_initializer [] = refl
only_initializer (i ∷ []) = refl
only_initializer (i ∷ j ∷ all) = refl
