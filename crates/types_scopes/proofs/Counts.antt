-- How many items a list has.
use Rattle.std.proofs.Common.{◌≡◌, refl, arith, List, [], ◌∷◌, map, length}
use Rattle.mc_tree.specs.declared.declarations.initializer.Initializer.{Initializer}
use Rattle.mc_tree.specs.Units as units
use Rattle.types_rules.specs.Initializers.{item_count}

pub count_listed : (items : List Initializer)
    → item_count (units.initializers_from (map units.initializer_of items)) ≡ length items
count_listed [] = refl
count_listed (one ∷ rest) = omega (arith, count_listed rest)
