-- What is found so far, with what is still to come, is what is found of the whole list.
use Rattle.std.proofs.Common.{◌≡◌, pos, Some, drop, map, option_map}
use Rattle.mc_tree.specs.Views.{array_length_of, declarator_of, declarators_from, enumerator_of, enumerators_from, expression_of, expressions_from, lengths_from, member_of, members_from, parameter_of, parameters_from, specifier_of, specifiers_from}
use Rattle.types_rules.specs.Declarators.{after_faults, joined}
use Rattle.types_rules.specs.Declarations.{both_lists}
use Rattle.types_rules.specs.Judgement.{after, judge_arguments, judge_declarators, judge_enumerators, judge_lengths, judge_members, judge_parameter_list, judge_specifiers, specifiers_judged}
use Rattle.types_scopes.specs.Types.{kind_of, type_of}
use Rattle.types_scopes.specs.Listed.{listed_of}
use Rattle.types_scopes.specs.Views.{scope_of}
use Rattle.types_scopes.specs.Found.{judged_of}
use Rattle.types_scopes.specs.Given.{given_of, items_of}
use Rattle.types_declarations.specs.Declarations.{lengths_in, listed_parameters, squeezed_listed}
use Rattle.types_faults.specs.Kept.{listed}
use Rattle.types_scopes.specs.steps.Squeezed.{squeezed_part}
use Rattle.types_expressions.specs.steps.Gathered.{gathered, squeezed_given}
use Rattle.mc_types.proofs.expressions.+judge.Given as goal

abbrev pub invariant-arguments-loop-tree : goal.invariant-arguments-loop-tree
invariant-arguments-loop-tree l =
    squeezed_given (gathered (given_of items_of l.given (scope_of l.scope)) (judge_arguments (expressions_from (map expression_of (drop l.tree-index l.trees))) (map kind_of l.left) (scope_of l.scope)))
    ≡ squeezed_given (judge_arguments (expressions_from (map expression_of l.trees)) (map kind_of l.fn.parameters) (scope_of l.fn.scope))

abbrev pub invariant-specifiers-loop-tree : goal.invariant-specifiers-loop-tree
invariant-specifiers-loop-tree l =
    squeezed_part (specifiers_judged (judged_of type_of l.found (scope_of l.scope)) (judge_specifiers l.alone (specifiers_from (map specifier_of (drop l.tree-index l.trees))) (scope_of l.scope)))
    ≡ squeezed_part (judge_specifiers l.alone (specifiers_from (map specifier_of l.trees)) (scope_of l.fn.scope))

abbrev pub invariant-members-loop-tree : goal.invariant-members-loop-tree
invariant-members-loop-tree l =
    squeezed_listed (after_faults (listed l.fault) (judge_members (members_from (map member_of (drop l.tree-index l.trees))) (map listed_of l.parts) (scope_of l.scope)))
    ≡ squeezed_listed (judge_members (members_from (map member_of l.trees)) (map listed_of l.fn.parts) (scope_of l.fn.scope))

abbrev pub invariant-declarators-loop-tree : goal.invariant-declarators-loop-tree
invariant-declarators-loop-tree l =
    squeezed_listed (after_faults (listed l.fault) (judge_declarators (option_map type_of l.base) (declarators_from (map declarator_of (drop l.tree-index l.trees))) (map listed_of l.parts) (scope_of l.scope)))
    ≡ squeezed_listed (judge_declarators (option_map type_of l.base) (declarators_from (map declarator_of l.trees)) (map listed_of l.fn.parts) (scope_of l.fn.scope))

abbrev pub invariant-enumerators-loop-tree : goal.invariant-enumerators-loop-tree
invariant-enumerators-loop-tree l =
    squeezed_part (after (listed l.fault) (judge_enumerators (enumerators_from (map enumerator_of (drop l.tree-index l.trees))) l.value (scope_of l.scope)))
    ≡ squeezed_part (judge_enumerators (enumerators_from (map enumerator_of l.trees)) (Some (pos 0)) (scope_of l.fn.scope))

abbrev pub invariant-lengths-loop-tree : goal.invariant-lengths-loop-tree
invariant-lengths-loop-tree l =
    squeezed_part (both_lists (judged_of lengths_in l.list (scope_of l.scope)) (judge_lengths (lengths_from (map array_length_of (drop l.tree-index l.trees))) (scope_of l.scope)))
    ≡ squeezed_part (judge_lengths (lengths_from (map array_length_of l.trees)) (scope_of l.fn.scope))

abbrev pub invariant-parameters-loop-tree : goal.invariant-parameters-loop-tree
invariant-parameters-loop-tree l =
    squeezed_listed (joined (listed_parameters l.list (scope_of l.scope)) (judge_parameter_list (parameters_from (map parameter_of (drop l.tree-index l.trees))) (scope_of l.scope)))
    ≡ squeezed_listed (judge_parameter_list (parameters_from (map parameter_of l.trees)) (scope_of l.fn.scope))
