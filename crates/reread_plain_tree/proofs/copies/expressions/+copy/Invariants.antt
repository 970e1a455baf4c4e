-- What is copied, with what is still to come, is the whole.
use Rattle.std.proofs.Common.{◌≡◌, ◌++◌, drop, map}
use Rattle.mc_tree.specs.Tree as t
use Rattle.mc_tree.specs.Views.{expression_of, specifier_of, member_of, enumerator_of, declarator_of, array_length_of, parameter_of}
use Rattle.reread_plain_tree.specs.Unprobed.{unprobed, unprobed_specifier, unprobed_member, unprobed_enumerator, unprobed_declarator, unprobed_lengths, unprobed_parameter}
use Rattle.reread_plain_tree.proofs.copies.expressions.+copy.Given as goal

abbrev pub invariant-expressions-loop-tree : goal.invariant-expressions-loop-tree
invariant-expressions-loop-tree l = map expression_of l.copies.items ++ map (λ a. unprobed (expression_of a)) (drop l.tree-index l.trees) ≡ map (λ a. unprobed (expression_of a)) l.trees

abbrev pub invariant-specifiers-loop-tree : goal.invariant-specifiers-loop-tree
invariant-specifiers-loop-tree l = map specifier_of l.copies.items ++ map (λ a. unprobed_specifier (specifier_of a)) (drop l.tree-index l.trees) ≡ map (λ a. unprobed_specifier (specifier_of a)) l.trees

abbrev pub invariant-members-loop-tree : goal.invariant-members-loop-tree
invariant-members-loop-tree l = map member_of l.copies.items ++ map (λ a. unprobed_member (member_of a)) (drop l.tree-index l.trees) ≡ map (λ a. unprobed_member (member_of a)) l.trees

abbrev pub invariant-enumerators-loop-tree : goal.invariant-enumerators-loop-tree
invariant-enumerators-loop-tree l = map enumerator_of l.copies.items ++ map (λ a. unprobed_enumerator (enumerator_of a)) (drop l.tree-index l.trees) ≡ map (λ a. unprobed_enumerator (enumerator_of a)) l.trees

abbrev pub invariant-declarators-loop-tree : goal.invariant-declarators-loop-tree
invariant-declarators-loop-tree l = map declarator_of l.copies.items ++ map (λ a. unprobed_declarator (declarator_of a)) (drop l.tree-index l.trees) ≡ map (λ a. unprobed_declarator (declarator_of a)) l.trees

abbrev pub invariant-lengths-loop-tree : goal.invariant-lengths-loop-tree
invariant-lengths-loop-tree l = map (λ a. array_length_of a t.no_lengths) l.copies.items ++ map (λ a. unprobed_lengths (array_length_of a t.no_lengths)) (drop l.tree-index l.trees) ≡ map (λ a. unprobed_lengths (array_length_of a t.no_lengths)) l.trees

abbrev pub invariant-parameters-loop-tree : goal.invariant-parameters-loop-tree
invariant-parameters-loop-tree l = map parameter_of l.copies.items ++ map (λ a. unprobed_parameter (parameter_of a)) (drop l.tree-index l.trees) ≡ map (λ a. unprobed_parameter (parameter_of a)) l.trees
