-- What is seen so far, with what is still to come, is as tall as the whole list.
use Rattle.std.proofs.Common.{◌≡◌, max, drop, map}
use Rattle.mc_tree.specs.Views.{expression_of, expressions_from, specifier_of, specifiers_from, member_of, members_from, enumerator_of, enumerators_from, declarator_of, declarators_from, array_length_of, lengths_from, parameter_of, parameters_from}
use Rattle.mc_tree.specs.Height as h
use Rattle.mc_tree.proofs.heights.syntax.+height.Given as goal

abbrev pub invariant-declarators-loop-tree : goal.invariant-declarators-loop-tree
invariant-declarators-loop-tree l = max l.tallest (h.height_declarators (declarators_from (map declarator_of (drop l.tree-index l.trees)))) ≡ h.height_declarators (declarators_from (map declarator_of l.trees))

abbrev pub invariant-enumerators-loop-tree : goal.invariant-enumerators-loop-tree
invariant-enumerators-loop-tree l = max l.tallest (h.height_enumerators (enumerators_from (map enumerator_of (drop l.tree-index l.trees)))) ≡ h.height_enumerators (enumerators_from (map enumerator_of l.trees))

abbrev pub invariant-expressions-loop-tree : goal.invariant-expressions-loop-tree
invariant-expressions-loop-tree l = max l.tallest (h.tallest (expressions_from (map expression_of (drop l.tree-index l.trees)))) ≡ h.tallest (expressions_from (map expression_of l.trees))

abbrev pub invariant-members-loop-tree : goal.invariant-members-loop-tree
invariant-members-loop-tree l = max l.tallest (h.height_members (members_from (map member_of (drop l.tree-index l.trees)))) ≡ h.height_members (members_from (map member_of l.trees))

abbrev pub invariant-parameters-loop-tree : goal.invariant-parameters-loop-tree
invariant-parameters-loop-tree l = max l.tallest (h.height_parameter_list (parameters_from (map parameter_of (drop l.tree-index l.trees)))) ≡ h.height_parameter_list (parameters_from (map parameter_of l.trees))

abbrev pub invariant-lengths-loop-tree : goal.invariant-lengths-loop-tree
invariant-lengths-loop-tree l = max l.tallest (h.height_lengths (lengths_from (map array_length_of (drop l.tree-index l.trees)))) ≡ h.height_lengths (lengths_from (map array_length_of l.trees))

abbrev pub invariant-specifiers-loop-tree : goal.invariant-specifiers-loop-tree
invariant-specifiers-loop-tree l = max l.tallest (h.height_specifiers (specifiers_from (map specifier_of (drop l.tree-index l.trees)))) ≡ h.height_specifiers (specifiers_from (map specifier_of l.trees))
