-- Lists of copies are the lists of the tree without brackets.
use Rattle.std.proofs.Common.{◌≡◌, List, [], ◌∷◌, map, refl, ap, ◌∙◌}
use Rattle.mc_tree.specs.declared.expressions.expression.Expression.{Expression}
use Rattle.mc_tree.specs.declared.declarations.specifier.Specifier.{Specifier}
use Rattle.mc_tree.specs.declared.declarations.member.Member.{Member}
use Rattle.mc_tree.specs.declared.declarations.enumerator.Enumerator.{Enumerator}
use Rattle.mc_tree.specs.declared.declarations.declarator.Declarator.{Declarator}
use Rattle.mc_tree.specs.declared.declarations.parameter.Parameter.{Parameter}
use Rattle.mc_tree.specs.declared.declarations.initializer.Initializer.{Initializer}
use Rattle.mc_tree.specs.Tree as t
use Rattle.mc_tree.specs.Views.{expression_of, expressions_from, specifier_of, specifiers_from, member_of, members_from, enumerator_of, enumerators_from, declarator_of, declarators_from, parameter_of, parameters_from}
use Rattle.mc_tree.specs.Units.{initializer_of, initializers_from}
use Rattle.reread_plain_tree.specs.Unprobed as u

each_of_expressions : (xs : List Expression) → expressions_from (map (λ x. u.unprobed (expression_of x)) xs) ≡ u.unprobed_expressions (expressions_from (map expression_of xs))
each_of_expressions [] = refl
each_of_expressions (x ∷ xs) = ap (t.expressions (u.unprobed (expression_of x))) (each_of_expressions xs)

pub expressions_copied : (xs ys : List Expression) → map expression_of ys ≡ map (λ x. u.unprobed (expression_of x)) xs
    → expressions_from (map expression_of ys) ≡ u.unprobed_expressions (expressions_from (map expression_of xs))
expressions_copied xs ys e = ap expressions_from e ∙ each_of_expressions xs

each_of_specifiers : (xs : List Specifier) → specifiers_from (map (λ x. u.unprobed_specifier (specifier_of x)) xs) ≡ u.unprobed_specifiers (specifiers_from (map specifier_of xs))
each_of_specifiers [] = refl
each_of_specifiers (x ∷ xs) = ap (t.specifiers (u.unprobed_specifier (specifier_of x))) (each_of_specifiers xs)

pub specifiers_copied : (xs ys : List Specifier) → map specifier_of ys ≡ map (λ x. u.unprobed_specifier (specifier_of x)) xs
    → specifiers_from (map specifier_of ys) ≡ u.unprobed_specifiers (specifiers_from (map specifier_of xs))
specifiers_copied xs ys e = ap specifiers_from e ∙ each_of_specifiers xs

each_of_members : (xs : List Member) → members_from (map (λ x. u.unprobed_member (member_of x)) xs) ≡ u.unprobed_members (members_from (map member_of xs))
each_of_members [] = refl
each_of_members (x ∷ xs) = ap (t.members (u.unprobed_member (member_of x))) (each_of_members xs)

pub members_copied : (xs ys : List Member) → map member_of ys ≡ map (λ x. u.unprobed_member (member_of x)) xs
    → members_from (map member_of ys) ≡ u.unprobed_members (members_from (map member_of xs))
members_copied xs ys e = ap members_from e ∙ each_of_members xs

each_of_enumerators : (xs : List Enumerator) → enumerators_from (map (λ x. u.unprobed_enumerator (enumerator_of x)) xs) ≡ u.unprobed_enumerators (enumerators_from (map enumerator_of xs))
each_of_enumerators [] = refl
each_of_enumerators (x ∷ xs) = ap (t.enumerators (u.unprobed_enumerator (enumerator_of x))) (each_of_enumerators xs)

pub enumerators_copied : (xs ys : List Enumerator) → map enumerator_of ys ≡ map (λ x. u.unprobed_enumerator (enumerator_of x)) xs
    → enumerators_from (map enumerator_of ys) ≡ u.unprobed_enumerators (enumerators_from (map enumerator_of xs))
enumerators_copied xs ys e = ap enumerators_from e ∙ each_of_enumerators xs

each_of_declarators : (xs : List Declarator) → declarators_from (map (λ x. u.unprobed_declarator (declarator_of x)) xs) ≡ u.unprobed_declarators (declarators_from (map declarator_of xs))
each_of_declarators [] = refl
each_of_declarators (x ∷ xs) = ap (t.declarators (u.unprobed_declarator (declarator_of x))) (each_of_declarators xs)

pub declarators_copied : (xs ys : List Declarator) → map declarator_of ys ≡ map (λ x. u.unprobed_declarator (declarator_of x)) xs
    → declarators_from (map declarator_of ys) ≡ u.unprobed_declarators (declarators_from (map declarator_of xs))
declarators_copied xs ys e = ap declarators_from e ∙ each_of_declarators xs

each_of_parameters : (xs : List Parameter) → parameters_from (map (λ x. u.unprobed_parameter (parameter_of x)) xs) ≡ u.unprobed_parameter_list (parameters_from (map parameter_of xs))
each_of_parameters [] = refl
each_of_parameters (x ∷ xs) = ap (t.parameters (u.unprobed_parameter (parameter_of x))) (each_of_parameters xs)

pub parameters_copied : (xs ys : List Parameter) → map parameter_of ys ≡ map (λ x. u.unprobed_parameter (parameter_of x)) xs
    → parameters_from (map parameter_of ys) ≡ u.unprobed_parameter_list (parameters_from (map parameter_of xs))
parameters_copied xs ys e = ap parameters_from e ∙ each_of_parameters xs

each_of_initializers : (xs : List Initializer) → initializers_from (map (λ x. u.unprobed_initializer (initializer_of x)) xs) ≡ u.unprobed_initializers (initializers_from (map initializer_of xs))
each_of_initializers [] = refl
each_of_initializers (x ∷ xs) = ap (t.initializers (u.unprobed_initializer (initializer_of x))) (each_of_initializers xs)

pub initializers_copied : (xs ys : List Initializer) → map initializer_of ys ≡ map (λ x. u.unprobed_initializer (initializer_of x)) xs
    → initializers_from (map initializer_of ys) ≡ u.unprobed_initializers (initializers_from (map initializer_of xs))
initializers_copied xs ys e = ap initializers_from e ∙ each_of_initializers xs
