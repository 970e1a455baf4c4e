-- What is found so far, with what is still to come, is what is found of the whole list.
use Rattle.std.proofs.Common.{◌≡◌, drop, length, map}
use Rattle.mc_tree.specs.Units.{initializer_of, initializers_from}
use Rattle.types_rules.specs.Initializers.{Parts, judge_items}
use Rattle.types_scopes.specs.Views.{scope_of}
use Rattle.types_scopes.specs.Found.{judged_of}
use Rattle.types_statements.specs.Initializers.{parts_from}
use Rattle.types_statements.specs.Items.{items_joined, items_of}
use Rattle.types_scopes.specs.steps.Squeezed.{squeezed_part}
use Rattle.mc_types.specs.Single.{AreParts}
use Rattle.mc_types.proofs.initializers.+initializers.Given as goal

abbrev pub invariant-items-loop-place : goal.invariant-items-loop-place
invariant-items-loop-place l =
    (p : Parts) → AreParts (length l.trees) l.parts p
    → squeezed_part (items_joined (judged_of items_of l.list (scope_of l.scope)) (judge_items l.is_static (parts_from l.place p) (initializers_from (map initializer_of (drop l.place l.trees))) (scope_of l.scope)))
    ≡ squeezed_part (judge_items l.is_static p (initializers_from (map initializer_of l.trees)) (scope_of l.fn.scope))
