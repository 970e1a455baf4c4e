-- The walk so far, and then over what is still to come, is the walk over all.
use Rattle.std.proofs.Common.{◌≡◌, drop, map}
use Rattle.mc_tree.specs.Views.{array_length_of, declarator_of, declarators_from, enumerator_of, enumerators_from, expression_of, expressions_from, lengths_from, member_of, members_from, parameter_of, parameters_from, specifier_of, specifiers_from}
use Rattle.reread_probes.specs.Expressions as s
use Rattle.reread_probes.specs.steps.Views.{walk_of}
use Rattle.reread_probes.proofs.expressions.+walk.Given as goal

abbrev pub invariant-expressions-loop-tree : goal.invariant-expressions-loop-tree
invariant-expressions-loop-tree l = s.walk_expressions (expressions_from (map expression_of (drop l.tree-index l.trees))) (walk_of l.walk) ≡ s.walk_expressions (expressions_from (map expression_of l.trees)) (walk_of l.fn.walk)

abbrev pub invariant-specifiers-loop-tree : goal.invariant-specifiers-loop-tree
invariant-specifiers-loop-tree l = s.walk_specifiers (specifiers_from (map specifier_of (drop l.tree-index l.trees))) (walk_of l.walk) ≡ s.walk_specifiers (specifiers_from (map specifier_of l.trees)) (walk_of l.fn.walk)

abbrev pub invariant-members-loop-tree : goal.invariant-members-loop-tree
invariant-members-loop-tree l = s.walk_members (members_from (map member_of (drop l.tree-index l.trees))) (walk_of l.walk) ≡ s.walk_members (members_from (map member_of l.trees)) (walk_of l.fn.walk)

abbrev pub invariant-enumerators-loop-tree : goal.invariant-enumerators-loop-tree
invariant-enumerators-loop-tree l = s.walk_enumerators (enumerators_from (map enumerator_of (drop l.tree-index l.trees))) (walk_of l.walk) ≡ s.walk_enumerators (enumerators_from (map enumerator_of l.trees)) (walk_of l.fn.walk)

abbrev pub invariant-declarators-loop-tree : goal.invariant-declarators-loop-tree
invariant-declarators-loop-tree l = s.walk_declarators (declarators_from (map declarator_of (drop l.tree-index l.trees))) (walk_of l.walk) ≡ s.walk_declarators (declarators_from (map declarator_of l.trees)) (walk_of l.fn.walk)

abbrev pub invariant-lengths-loop-tree : goal.invariant-lengths-loop-tree
invariant-lengths-loop-tree l = s.walk_lengths (lengths_from (map array_length_of (drop l.tree-index l.trees))) (walk_of l.walk) ≡ s.walk_lengths (lengths_from (map array_length_of l.trees)) (walk_of l.fn.walk)

abbrev pub invariant-parameters-loop-tree : goal.invariant-parameters-loop-tree
invariant-parameters-loop-tree l = s.walk_parameter_list (parameters_from (map parameter_of (drop l.tree-index l.trees))) (walk_of l.walk) ≡ s.walk_parameter_list (parameters_from (map parameter_of l.trees)) (walk_of l.fn.walk)
