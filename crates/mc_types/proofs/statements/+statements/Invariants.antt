-- What is found so far, with what is still to come, is what is found of the whole block.
use Rattle.std.proofs.Common.{◌≡◌, drop, map}
use Rattle.mc_tree.specs.Units.{block_from, block_item_of}
use Rattle.types_rules.specs.Statements.{followed_judged}
use Rattle.types_rules.specs.Bodies.{judge_block}
use Rattle.types_scopes.specs.Views.{scope_of}
use Rattle.types_scopes.specs.Found.{judged_of}
use Rattle.types_scopes.specs.Statements.{around_of, statements_of}
use Rattle.types_scopes.specs.steps.Squeezed.{squeezed_part}
use Rattle.mc_types.proofs.statements.+statements.Given as goal

abbrev pub invariant-block-loop-tree : goal.invariant-block-loop-tree
invariant-block-loop-tree l =
    squeezed_part (followed_judged (judged_of statements_of l.list (scope_of l.scope)) (judge_block (around_of l.around) (block_from (map block_item_of (drop l.tree-index l.trees))) (scope_of l.scope)))
    ≡ squeezed_part (judge_block (around_of l.around) (block_from (map block_item_of l.trees)) (scope_of l.fn.scope))
