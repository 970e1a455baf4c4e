-- What a tree of the program stands for, by folds: one node at a time, with what each part stands
-- for in its place.
use Rattle.std.specs.Prelude.{List, [], ◌∷◌, Option, option_map}
use Rattle.mc_tree.specs.declared.identifier.Identifier.{Identifier}
use Rattle.mc_tree.specs.declared.expressions.expression.Expression.{Expression}
use Rattle.mc_tree.specs.declared.declarations.specifier.Specifier.{Specifier}
use Rattle.mc_tree.specs.declared.declarations.member.Member.{Member}
use Rattle.mc_tree.specs.declared.declarations.enumerator.Enumerator.{Enumerator}
use Rattle.mc_tree.specs.declared.declarations.declarator.Declarator.{Declarator}
use Rattle.mc_tree.specs.declared.declarations.parameter.Parameter.{Parameter}
use Rattle.mc_tree.specs.declared.declarations.array_length.ArrayLength.{ArrayLength}
use Rattle.mc_tree.specs.declared.declarations.array_length.ArrayLength.TheOpen.{Expression-F, Specifier-F, Member-F, Enumerator-F, Declarator-F, Parameter-F, ArrayLength-F}
use Rattle.mc_tree.specs.declared.declarations.array_length.ArrayLength.TheFolds.{fold-Expression, fold-Specifier, fold-Member, fold-Enumerator, fold-Declarator, fold-Parameter, fold-ArrayLength}
use Rattle.mc_tree.specs.Tree as tree

abbrev pub name_of : Identifier → tree.Name
name_of name = record { text = name.text.now; span = name.span }

abbrev pub tag_of : Option Identifier → Option tree.Name
tag_of tag = option_map name_of tag

-- the lists of the tree, from lists of its parts
abbrev pub expressions_from : List tree.Expression → tree.Expressions
expressions_from [] = tree.no_expressions
expressions_from (a ∷ rest) = tree.expressions a (expressions_from rest)

abbrev pub specifiers_from : List tree.Specifier → tree.Specifiers
specifiers_from [] = tree.no_specifiers
specifiers_from (s ∷ rest) = tree.specifiers s (specifiers_from rest)

abbrev pub members_from : List tree.StructMember → tree.Members
members_from [] = tree.no_members
members_from (m ∷ rest) = tree.members m (members_from rest)

abbrev pub enumerators_from : List tree.Enumerator → tree.Enumerators
enumerators_from [] = tree.no_enumerators
enumerators_from (e ∷ rest) = tree.enumerators e (enumerators_from rest)

abbrev pub declarators_from : List tree.Declarator → tree.Declarators
declarators_from [] = tree.no_declarators
declarators_from (d ∷ rest) = tree.declarators d (declarators_from rest)

-- a pair of brackets stands for the function that puts it before those after it
abbrev pub lengths_from : List (tree.ArrayLengths → tree.ArrayLengths) → tree.ArrayLengths
lengths_from [] = tree.no_lengths
lengths_from (s ∷ rest) = s (lengths_from rest)

abbrev pub parameters_from : List tree.Parameter → tree.ParameterList
parameters_from [] = tree.no_parameters
parameters_from (p ∷ rest) = tree.parameters p (parameters_from rest)

-- one node of each kind
abbrev pub node_expression : Expression-F (tree.ArrayLengths
    → tree.ArrayLengths) tree.Declarator tree.Enumerator tree.Specifier tree.Expression
    tree.StructMember tree.Parameter
    → tree.Expression
node_expression (Expression-F.Name name) = tree.Named (name_of name)
node_expression (Expression-F.Constant value decimal unsigned longs span) =
    tree.Constant value decimal unsigned longs span
node_expression (Expression-F.Character value span) = tree.Character value span
node_expression (Expression-F.Parenthesized inner span) = tree.Parenthesized inner.value span
node_expression (Expression-F.Call name arguments span) =
    tree.Call (name_of name) (expressions_from arguments.items) span
node_expression (Expression-F.Index array index span) = tree.Index array.value index.value span
node_expression (Expression-F.Member object name span) = tree.Member object.value (name_of name)
    span
node_expression (Expression-F.PostfixStep operator operand span) =
    tree.PostfixStep operator operand.value span
node_expression (Expression-F.PrefixStep operator operand span) =
    tree.PrefixStep operator operand.value span
node_expression (Expression-F.Unary operator operand span) = tree.Unary operator operand.value span
node_expression (Expression-F.Cast specifiers stars type_span operand span) =
    tree.Cast (tree.type_name (specifiers_from specifiers.items) stars type_span) operand.value span
node_expression (Expression-F.Binary operator left right span) =
    tree.Binary operator left.value right.value span
node_expression (Expression-F.Conditional test chosen other span) =
    tree.Conditional test.value chosen.value other.value span
node_expression (Expression-F.Assignment operator target value span) =
    tree.Assignment operator target.value value.value span
node_expression (Expression-F.Comma operands span) = tree.Comma (expressions_from operands.items)
    span

abbrev pub node_specifier : Specifier-F (tree.ArrayLengths → tree.ArrayLengths) tree.Declarator
    tree.Enumerator
    tree.Specifier tree.Expression tree.StructMember tree.Parameter → tree.Specifier
node_specifier (Specifier-F.Word word span) = tree.Word word span
node_specifier (Specifier-F.TypedefName name) = tree.TypedefName (name_of name)
node_specifier (Specifier-F.StructureTag tag span) = tree.StructureTag (name_of tag) span
node_specifier (Specifier-F.Structure tag members span) =
    tree.Structure (tag_of tag) (members_from members.items) span
node_specifier (Specifier-F.EnumerationTag tag span) = tree.EnumerationTag (name_of tag) span
node_specifier (Specifier-F.Enumeration tag enumerators span) =
    tree.Enumeration (tag_of tag) (enumerators_from enumerators.items) span

abbrev pub node_member : Member-F (tree.ArrayLengths → tree.ArrayLengths) tree.Declarator
    tree.Enumerator
    tree.Specifier tree.Expression tree.StructMember tree.Parameter → tree.StructMember
node_member m = tree.member (specifiers_from m.specifiers.items)
    (declarators_from m.declarators.items)
    m.span

abbrev pub node_enumerator : Enumerator-F (tree.ArrayLengths
    → tree.ArrayLengths) tree.Declarator tree.Enumerator tree.Specifier tree.Expression
    tree.StructMember tree.Parameter
    → tree.Enumerator
node_enumerator (Enumerator-F.Bare name) = tree.enumerator (name_of name)
node_enumerator (Enumerator-F.Valued name value) = tree.valued_enumerator (name_of name) value.value

abbrev pub node_declarator : Declarator-F (tree.ArrayLengths
    → tree.ArrayLengths) tree.Declarator tree.Enumerator tree.Specifier tree.Expression
    tree.StructMember tree.Parameter
    → tree.Declarator
node_declarator (Declarator-F.Object stars name lengths span) =
    tree.object stars (name_of name) (lengths_from lengths.items) span
node_declarator (Declarator-F.EmptyFunction stars name list_span span) =
    tree.function stars (name_of name) (tree.Empty list_span) span
node_declarator (Declarator-F.VoidFunction stars name list_span span) =
    tree.function stars (name_of name) (tree.Void list_span) span
node_declarator (Declarator-F.Function stars name parameters list_span span) =
    tree.function stars (name_of name) (tree.Listed (parameters_from parameters.items) list_span)
    span

abbrev pub node_length : ArrayLength-F (tree.ArrayLengths → tree.ArrayLengths) tree.Declarator
    tree.Enumerator
    tree.Specifier tree.Expression tree.StructMember tree.Parameter → tree.ArrayLengths
    → tree.ArrayLengths
node_length ArrayLength-F.Absent = tree.absent_length
node_length (ArrayLength-F.Given value) = tree.given_length value.value

abbrev pub node_parameter : Parameter-F (tree.ArrayLengths → tree.ArrayLengths) tree.Declarator
    tree.Enumerator
    tree.Specifier tree.Expression tree.StructMember tree.Parameter → tree.Parameter
node_parameter p = tree.parameter (specifiers_from p.specifiers.items) p.stars (tag_of p.name)
    (lengths_from p.lengths.items) p.span

-- whole trees
abbrev pub expression_of : Expression → tree.Expression
expression_of = fold-Expression (tree.ArrayLengths → tree.ArrayLengths) tree.Declarator
    tree.Enumerator
    tree.Specifier tree.Expression tree.StructMember tree.Parameter node_length node_declarator
    node_enumerator
    node_specifier node_expression node_member node_parameter

abbrev pub specifier_of : Specifier → tree.Specifier
specifier_of = fold-Specifier (tree.ArrayLengths → tree.ArrayLengths) tree.Declarator
    tree.Enumerator
    tree.Specifier tree.Expression tree.StructMember tree.Parameter node_length node_declarator
    node_enumerator
    node_specifier node_expression node_member node_parameter

abbrev pub member_of : Member → tree.StructMember
member_of = fold-Member (tree.ArrayLengths → tree.ArrayLengths) tree.Declarator tree.Enumerator
    tree.Specifier
    tree.Expression tree.StructMember tree.Parameter node_length node_declarator node_enumerator
    node_specifier node_expression node_member node_parameter

abbrev pub enumerator_of : Enumerator → tree.Enumerator
enumerator_of = fold-Enumerator (tree.ArrayLengths → tree.ArrayLengths) tree.Declarator
    tree.Enumerator
    tree.Specifier tree.Expression tree.StructMember tree.Parameter node_length node_declarator
    node_enumerator
    node_specifier node_expression node_member node_parameter

abbrev pub declarator_of : Declarator → tree.Declarator
declarator_of = fold-Declarator (tree.ArrayLengths → tree.ArrayLengths) tree.Declarator
    tree.Enumerator
    tree.Specifier tree.Expression tree.StructMember tree.Parameter node_length node_declarator
    node_enumerator
    node_specifier node_expression node_member node_parameter

abbrev pub array_length_of : ArrayLength → tree.ArrayLengths → tree.ArrayLengths
array_length_of = fold-ArrayLength (tree.ArrayLengths → tree.ArrayLengths) tree.Declarator
    tree.Enumerator
    tree.Specifier tree.Expression tree.StructMember tree.Parameter node_length node_declarator
    node_enumerator
    node_specifier node_expression node_member node_parameter

abbrev pub parameter_of : Parameter → tree.Parameter
parameter_of = fold-Parameter (tree.ArrayLengths → tree.ArrayLengths) tree.Declarator
    tree.Enumerator
    tree.Specifier tree.Expression tree.StructMember tree.Parameter node_length node_declarator
    node_enumerator
    node_specifier node_expression node_member node_parameter
