use Rattle.std.proofs.Common.{◌≡◌, drop}
use Rattle.mc_tree.specs.Units as units
use Rattle.types_rules.specs.Declarations.{both_lists}
use Rattle.types_rules.specs.Typing.{judge_unit}
use Rattle.types_scopes.specs.Views.{scope_of}
use Rattle.types_scopes.specs.Found.{judged_of}
use Rattle.types_scopes.specs.steps.Squeezed.{squeezed_part}
use Rattle.types_declarations.specs.Declarations.{functions_of}
use Rattle.mc_types.proofs.units.items.Given as goal

abbrev pub invariant-loop-tree : goal.invariant-loop-tree
invariant-loop-tree l =
    squeezed_part (both_lists (judged_of functions_of l.list (scope_of l.scope)) (judge_unit (units.items_of (drop l.tree-index l.trees)) (scope_of l.scope)))
    ≡ squeezed_part (judge_unit (units.items_of l.trees) (scope_of l.fn.scope))
