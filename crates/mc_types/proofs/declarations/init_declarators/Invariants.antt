-- What is found so far, with what is still to come, is what is found of the whole list.
use Rattle.std.proofs.Common.{◌≡◌, drop, map, option_map}
use Rattle.mc_tree.specs.Units.{init_declarator_of}
use Rattle.types_rules.specs.Declarations.{both_lists, judge_init_declarators}
use Rattle.types_scopes.specs.Types.{type_of}
use Rattle.types_scopes.specs.Views.{scope_of}
use Rattle.types_scopes.specs.Found.{judged_of}
use Rattle.types_scopes.specs.Statements.{declarators_of}
use Rattle.types_scopes.specs.steps.Squeezed.{squeezed_part}
use Rattle.types_declarations.specs.Declarations.{storage_from}
use Rattle.mc_types.proofs.declarations.init_declarators.Given as goal

abbrev pub invariant-loop-tree : goal.invariant-loop-tree
invariant-loop-tree l =
    squeezed_part (both_lists (judged_of declarators_of l.list (scope_of l.scope)) (judge_init_declarators (storage_from l.storage) (option_map type_of l.base) (map init_declarator_of (drop l.tree-index l.trees)) (scope_of l.scope)))
    ≡ squeezed_part (judge_init_declarators (storage_from l.storage) (option_map type_of l.base) (map init_declarator_of l.trees) (scope_of l.fn.scope))
