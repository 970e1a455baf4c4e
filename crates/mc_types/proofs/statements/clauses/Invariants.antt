-- What is found so far, with what is still to come, is what is found of the whole list.
use Rattle.std.proofs.Common.{◌≡◌, drop, map}
use Rattle.mc_tree.specs.Views.{expression_of, expressions_from}
use Rattle.types_rules.specs.Declarations.{both_lists}
use Rattle.types_rules.specs.Bodies.{judge_clauses}
use Rattle.types_scopes.specs.Views.{scope_of}
use Rattle.types_scopes.specs.Found.{judged_of}
use Rattle.types_scopes.specs.Statements.{effects_of}
use Rattle.types_scopes.specs.steps.Squeezed.{squeezed_part}
use Rattle.mc_types.proofs.statements.clauses.Given as goal

abbrev pub invariant-loop-tree : goal.invariant-loop-tree
invariant-loop-tree l =
    squeezed_part (both_lists (judged_of effects_of l.list (scope_of l.scope)) (judge_clauses (expressions_from (map expression_of (drop l.tree-index l.trees))) (scope_of l.scope)))
    ≡ squeezed_part (judge_clauses (expressions_from (map expression_of l.trees)) (scope_of l.fn.scope))
