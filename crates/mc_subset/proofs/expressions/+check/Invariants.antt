-- What was gone through has no node outside: the first of what is still to come is the first of all.
use Rattle.std.proofs.Common.{◌≡◌, drop, map}
use Rattle.mc_tree.specs.Views.{array_length_of, declarator_of, declarators_from, enumerator_of, enumerators_from, expression_of, expressions_from, lengths_from, member_of, members_from, parameter_of, parameters_from, specifier_of, specifiers_from}
use Rattle.mc_subset.specs.Nodes as n
use Rattle.mc_subset.specs.Forms.{first_outside}
use Rattle.mc_subset.proofs.expressions.+check.Given as goal

abbrev pub invariant-declarators-loop-tree : goal.invariant-declarators-loop-tree
invariant-declarators-loop-tree l = first_outside (n.nodes_of_declarators l.region l.external (declarators_from (map declarator_of (drop l.tree-index l.trees)))) ≡ first_outside (n.nodes_of_declarators l.region l.external (declarators_from (map declarator_of l.trees)))

abbrev pub invariant-enumerators-loop-tree : goal.invariant-enumerators-loop-tree
invariant-enumerators-loop-tree l = first_outside (n.nodes_of_enumerators l.region (enumerators_from (map enumerator_of (drop l.tree-index l.trees)))) ≡ first_outside (n.nodes_of_enumerators l.region (enumerators_from (map enumerator_of l.trees)))

abbrev pub invariant-expressions-loop-tree : goal.invariant-expressions-loop-tree
invariant-expressions-loop-tree l = first_outside (n.nodes_of_expressions l.region l.role (expressions_from (map expression_of (drop l.tree-index l.trees)))) ≡ first_outside (n.nodes_of_expressions l.region l.role (expressions_from (map expression_of l.trees)))

abbrev pub invariant-lengths-loop-tree : goal.invariant-lengths-loop-tree
invariant-lengths-loop-tree l = first_outside (n.nodes_of_lengths l.region (lengths_from (map array_length_of (drop l.tree-index l.trees)))) ≡ first_outside (n.nodes_of_lengths l.region (lengths_from (map array_length_of l.trees)))

abbrev pub invariant-members-loop-tree : goal.invariant-members-loop-tree
invariant-members-loop-tree l = first_outside (n.nodes_of_members l.region (members_from (map member_of (drop l.tree-index l.trees)))) ≡ first_outside (n.nodes_of_members l.region (members_from (map member_of l.trees)))

abbrev pub invariant-parameters-loop-tree : goal.invariant-parameters-loop-tree
invariant-parameters-loop-tree l = first_outside (n.nodes_of_parameter_list (parameters_from (map parameter_of (drop l.tree-index l.trees)))) ≡ first_outside (n.nodes_of_parameter_list (parameters_from (map parameter_of l.trees)))

abbrev pub invariant-specifiers-loop-tree : goal.invariant-specifiers-loop-tree
invariant-specifiers-loop-tree l = first_outside (n.nodes_of_specifiers l.region (specifiers_from (map specifier_of (drop l.tree-index l.trees)))) ≡ first_outside (n.nodes_of_specifiers l.region (specifiers_from (map specifier_of l.trees)))
