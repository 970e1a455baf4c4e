-- The lists of a tree as lists of its parts, and back.
use Rattle.std.proofs.Common.{◌≡◌, List, [], ◌∷◌, refl, ap}
use Rattle.mc_tree.specs.Tree.{Expression, Expressions, Specifier, Specifiers, StructMember, Members, Enumerator, Enumerators, Declarator, Declarators, ArrayLengths, Parameter, ParameterList, Initializer, Initializers, BlockItems}
use Rattle.mc_tree.specs.Tree as t
use Rattle.mc_tree.specs.Views.{expressions_from, specifiers_from, members_from, enumerators_from, declarators_from, lengths_from, parameters_from}
use Rattle.mc_tree.specs.Units.{initializers_from, block_from}

abbrev pub expressions_in : Expressions → List Expression
expressions_in t.no_expressions = []
expressions_in (t.expressions a rest) = a ∷ expressions_in rest

pub expressions_back : (all : Expressions) → expressions_from (expressions_in all) ≡ all
expressions_back t.no_expressions = refl
expressions_back (t.expressions a rest) = ap (t.expressions a) (expressions_back rest)

abbrev pub specifiers_in : Specifiers → List Specifier
specifiers_in t.no_specifiers = []
specifiers_in (t.specifiers one rest) = one ∷ specifiers_in rest

pub specifiers_back : (all : Specifiers) → specifiers_from (specifiers_in all) ≡ all
specifiers_back t.no_specifiers = refl
specifiers_back (t.specifiers one rest) = ap (t.specifiers one) (specifiers_back rest)

abbrev pub members_in : Members → List StructMember
members_in t.no_members = []
members_in (t.members one rest) = one ∷ members_in rest

pub members_back : (all : Members) → members_from (members_in all) ≡ all
members_back t.no_members = refl
members_back (t.members one rest) = ap (t.members one) (members_back rest)

abbrev pub enumerators_in : Enumerators → List Enumerator
enumerators_in t.no_enumerators = []
enumerators_in (t.enumerators one rest) = one ∷ enumerators_in rest

pub enumerators_back : (all : Enumerators) → enumerators_from (enumerators_in all) ≡ all
enumerators_back t.no_enumerators = refl
enumerators_back (t.enumerators one rest) = ap (t.enumerators one) (enumerators_back rest)

abbrev pub declarators_in : Declarators → List Declarator
declarators_in t.no_declarators = []
declarators_in (t.declarators one rest) = one ∷ declarators_in rest

pub declarators_back : (all : Declarators) → declarators_from (declarators_in all) ≡ all
declarators_back t.no_declarators = refl
declarators_back (t.declarators one rest) = ap (t.declarators one) (declarators_back rest)

-- a pair of brackets is the function that puts it before those after it
abbrev pub lengths_in : ArrayLengths → List (ArrayLengths → ArrayLengths)
lengths_in t.no_lengths = []
lengths_in (t.absent_length rest) = t.absent_length ∷ lengths_in rest
lengths_in (t.given_length a rest) = t.given_length a ∷ lengths_in rest

pub lengths_back : (all : ArrayLengths) → lengths_from (lengths_in all) ≡ all
lengths_back t.no_lengths = refl
lengths_back (t.absent_length rest) = ap t.absent_length (lengths_back rest)
lengths_back (t.given_length a rest) = ap (t.given_length a) (lengths_back rest)

abbrev pub parameters_in : ParameterList → List Parameter
parameters_in t.no_parameters = []
parameters_in (t.parameters one rest) = one ∷ parameters_in rest

pub parameters_back : (all : ParameterList) → parameters_from (parameters_in all) ≡ all
parameters_back t.no_parameters = refl
parameters_back (t.parameters one rest) = ap (t.parameters one) (parameters_back rest)

abbrev pub initializers_in : Initializers → List Initializer
initializers_in t.no_initializers = []
initializers_in (t.initializers one rest) = one ∷ initializers_in rest

pub initializers_back : (all : Initializers) → initializers_from (initializers_in all) ≡ all
initializers_back t.no_initializers = refl
initializers_back (t.initializers one rest) = ap (t.initializers one) (initializers_back rest)

abbrev pub block_in : BlockItems → List (BlockItems → BlockItems)
block_in t.no_block_items = []
block_in (t.local d rest) = t.local d ∷ block_in rest
block_in (t.statement s rest) = t.statement s ∷ block_in rest

pub block_back : (all : BlockItems) → block_from (block_in all) ≡ all
block_back t.no_block_items = refl
block_back (t.local d rest) = ap (t.local d) (block_back rest)
block_back (t.statement s rest) = ap (t.statement s) (block_back rest)
