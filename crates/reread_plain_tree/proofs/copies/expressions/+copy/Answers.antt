use Rattle.std.proofs.Common.{arith, ◌≡◌, map}
use Rattle.std.proofs.lemmas.Grind.{common_steps}
use Rattle.mc_tree.specs.Tree as tree
use Rattle.mc_tree.specs.Views.{expression_of, specifier_of, member_of, enumerator_of, declarator_of, array_length_of, parameter_of}
use Rattle.reread_plain_tree.specs.Unprobed.{unprobed, unprobed_specifier, unprobed_member, unprobed_enumerator, unprobed_declarator, unprobed_lengths, unprobed_parameter}
use Rattle.reread_plain_tree.proofs.Lists.{expressions_copied, specifiers_copied, members_copied, enumerators_copied, declarators_copied, parameters_copied}
use Rattle.reread_plain_tree.proofs.Blocks.{lengths_copied}
use Rattle.reread_plain_tree.proofs.copies.expressions.+copy.Goals as goal

pub expressions-returns : goal.expressions-returns
expressions-returns t c =
    let all : map expression_of c.loop-tree.copies.items ≡ map (λ a. unprobed (expression_of a)) c.args.trees.now = grind (arith, common_steps) in
    expressions_copied c.args.trees.now c.loop-tree.copies.items all

pub specifiers-returns : goal.specifiers-returns
specifiers-returns t c =
    let all : map specifier_of c.loop-tree.copies.items ≡ map (λ a. unprobed_specifier (specifier_of a)) c.args.trees.now = grind (arith, common_steps) in
    specifiers_copied c.args.trees.now c.loop-tree.copies.items all

pub members-returns : goal.members-returns
members-returns t c =
    let all : map member_of c.loop-tree.copies.items ≡ map (λ a. unprobed_member (member_of a)) c.args.trees.now = grind (arith, common_steps) in
    members_copied c.args.trees.now c.loop-tree.copies.items all

pub enumerators-returns : goal.enumerators-returns
enumerators-returns t c =
    let all : map enumerator_of c.loop-tree.copies.items ≡ map (λ a. unprobed_enumerator (enumerator_of a)) c.args.trees.now = grind (arith, common_steps) in
    enumerators_copied c.args.trees.now c.loop-tree.copies.items all

pub declarators-returns : goal.declarators-returns
declarators-returns t c =
    let all : map declarator_of c.loop-tree.copies.items ≡ map (λ a. unprobed_declarator (declarator_of a)) c.args.trees.now = grind (arith, common_steps) in
    declarators_copied c.args.trees.now c.loop-tree.copies.items all

pub lengths-returns : goal.lengths-returns
lengths-returns t c =
    let all : map (λ a. array_length_of a tree.no_lengths) c.loop-tree.copies.items ≡ map (λ a. unprobed_lengths (array_length_of a tree.no_lengths)) c.args.trees.now = grind (arith, common_steps) in
    lengths_copied c.args.trees.now c.loop-tree.copies.items all

pub parameters-returns : goal.parameters-returns
parameters-returns t c =
    let all : map parameter_of c.loop-tree.copies.items ≡ map (λ a. unprobed_parameter (parameter_of a)) c.args.trees.now = grind (arith, common_steps) in
    parameters_copied c.args.trees.now c.loop-tree.copies.items all
