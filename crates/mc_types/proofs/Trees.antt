-- What each tree of the program stands for: an equation for each form of expressions, specifiers and
-- declarators.
use Rattle.std.proofs.Common.{◌≡◌, ℕ, ℤ, Bool, Option, Vec, Box, Global, map, sym, ap, ◌∙◌}
use Rattle.mc_span.specs.declared.span.Span.{Span}
use Rattle.mc_tree.specs.declared.identifier.Identifier.{Identifier}
use Rattle.mc_tree.specs.declared.declarations.array_length.ArrayLength.{ArrayLength}
use Rattle.mc_tree.specs.declared.declarations.array_length.ArrayLength.TheVariants as bracket
use Rattle.mc_tree.specs.declared.declarations.declarator.Declarator.TheVariants as declarator
use Rattle.mc_tree.specs.declared.declarations.enumerator.Enumerator.{Enumerator}
use Rattle.mc_tree.specs.declared.declarations.enumerator.Enumerator.TheVariants as enumerator
use Rattle.mc_tree.specs.declared.declarations.member.Member.{Member}
use Rattle.mc_tree.specs.declared.declarations.parameter.Parameter.{Parameter}
use Rattle.mc_tree.specs.declared.declarations.specifier.Specifier.{Specifier}
use Rattle.mc_tree.specs.declared.declarations.specifier.Specifier.TheVariants as specifier
use Rattle.mc_tree.specs.declared.declarations.specifier_word.SpecifierWord.{SpecifierWord}
use Rattle.mc_tree.specs.declared.expressions.assignment_operator.AssignmentOperator.{AssignmentOperator}
use Rattle.mc_tree.specs.declared.expressions.binary_operator.BinaryOperator.{BinaryOperator}
use Rattle.mc_tree.specs.declared.expressions.step_operator.StepOperator.{StepOperator}
use Rattle.mc_tree.specs.declared.expressions.unary_operator.UnaryOperator.{UnaryOperator}
use Rattle.mc_tree.specs.declared.expressions.expression.Expression.{Expression}
use Rattle.mc_tree.specs.declared.expressions.expression.Expression.TheVariants as code
use Rattle.mc_tree.specs.declared.declarations.array_length.ArrayLength.TheOpen.{ArrayLength-F, Declarator-F, Enumerator-F, Expression-F, Specifier-F}
use Rattle.mc_tree.specs.declared.declarations.array_length.ArrayLength.TheFolds.{fold-roll-ArrayLength, fold-roll-Declarator, fold-roll-Enumerator, fold-roll-Expression, fold-roll-Specifier, fold_out-Member, fold_out-Parameter}
use Rattle.mc_tree.specs.Views.{name_of, tag_of, array_length_of, declarator_of, declarators_from, enumerator_of, enumerators_from, expression_of, expressions_from, lengths_from, member_of, members_from, parameter_of, parameters_from, specifier_of, specifiers_from, node_length, node_declarator, node_enumerator, node_specifier, node_expression, node_member, node_parameter}
use Rattle.mc_tree.specs.Tree as t

pub expression_of-Name : (n : Identifier) → expression_of (code.Name n) ≡ t.Named (name_of n)
expression_of-Name n = ap expression_of (sym (code.rolls-Name n)) ∙ fold-roll-Expression (t.ArrayLengths → t.ArrayLengths) t.Declarator t.Enumerator t.Specifier t.Expression t.StructMember t.Parameter node_length node_declarator node_enumerator node_specifier node_expression node_member node_parameter (Expression-F.Name n)

pub expression_of-Constant : (v : ℕ) (decimal : Bool) (unsigned : Bool) (longs : ℕ) (span : Span) → expression_of (code.Constant v decimal unsigned longs span) ≡ t.Constant v decimal unsigned longs span
expression_of-Constant v decimal unsigned longs span = ap expression_of (sym (code.rolls-Constant v decimal unsigned longs span)) ∙ fold-roll-Expression (t.ArrayLengths → t.ArrayLengths) t.Declarator t.Enumerator t.Specifier t.Expression t.StructMember t.Parameter node_length node_declarator node_enumerator node_specifier node_expression node_member node_parameter (Expression-F.Constant v decimal unsigned longs span)

pub expression_of-Character : (v : ℤ) (span : Span) → expression_of (code.Character v span) ≡ t.Character v span
expression_of-Character v span = ap expression_of (sym (code.rolls-Character v span)) ∙ fold-roll-Expression (t.ArrayLengths → t.ArrayLengths) t.Declarator t.Enumerator t.Specifier t.Expression t.StructMember t.Parameter node_length node_declarator node_enumerator node_specifier node_expression node_member node_parameter (Expression-F.Character v span)

pub expression_of-Parenthesized : (a : Box Expression Global) (span : Span) → expression_of (code.Parenthesized a span) ≡ t.Parenthesized (expression_of a.value) span
expression_of-Parenthesized a span = ap expression_of (sym (code.rolls-Parenthesized a span)) ∙ fold-roll-Expression (t.ArrayLengths → t.ArrayLengths) t.Declarator t.Enumerator t.Specifier t.Expression t.StructMember t.Parameter node_length node_declarator node_enumerator node_specifier node_expression node_member node_parameter (Expression-F.Parenthesized a span)

pub expression_of-Call : (n : Identifier) (all : Vec Expression Global) (span : Span) → expression_of (code.Call n all span) ≡ t.Call (name_of n) (expressions_from (map expression_of all.items)) span
expression_of-Call n all span = ap expression_of (sym (code.rolls-Call n all span)) ∙ fold-roll-Expression (t.ArrayLengths → t.ArrayLengths) t.Declarator t.Enumerator t.Specifier t.Expression t.StructMember t.Parameter node_length node_declarator node_enumerator node_specifier node_expression node_member node_parameter (Expression-F.Call n all span)

pub expression_of-Index : (a : Box Expression Global) (b : Box Expression Global) (span : Span) → expression_of (code.Index a b span) ≡ t.Index (expression_of a.value) (expression_of b.value) span
expression_of-Index a b span = ap expression_of (sym (code.rolls-Index a b span)) ∙ fold-roll-Expression (t.ArrayLengths → t.ArrayLengths) t.Declarator t.Enumerator t.Specifier t.Expression t.StructMember t.Parameter node_length node_declarator node_enumerator node_specifier node_expression node_member node_parameter (Expression-F.Index a b span)

pub expression_of-Member : (a : Box Expression Global) (n : Identifier) (span : Span) → expression_of (code.Member a n span) ≡ t.Member (expression_of a.value) (name_of n) span
expression_of-Member a n span = ap expression_of (sym (code.rolls-Member a n span)) ∙ fold-roll-Expression (t.ArrayLengths → t.ArrayLengths) t.Declarator t.Enumerator t.Specifier t.Expression t.StructMember t.Parameter node_length node_declarator node_enumerator node_specifier node_expression node_member node_parameter (Expression-F.Member a n span)

pub expression_of-PostfixStep : (o : StepOperator) (a : Box Expression Global) (span : Span) → expression_of (code.PostfixStep o a span) ≡ t.PostfixStep o (expression_of a.value) span
expression_of-PostfixStep o a span = ap expression_of (sym (code.rolls-PostfixStep o a span)) ∙ fold-roll-Expression (t.ArrayLengths → t.ArrayLengths) t.Declarator t.Enumerator t.Specifier t.Expression t.StructMember t.Parameter node_length node_declarator node_enumerator node_specifier node_expression node_member node_parameter (Expression-F.PostfixStep o a span)

pub expression_of-PrefixStep : (o : StepOperator) (a : Box Expression Global) (span : Span) → expression_of (code.PrefixStep o a span) ≡ t.PrefixStep o (expression_of a.value) span
expression_of-PrefixStep o a span = ap expression_of (sym (code.rolls-PrefixStep o a span)) ∙ fold-roll-Expression (t.ArrayLengths → t.ArrayLengths) t.Declarator t.Enumerator t.Specifier t.Expression t.StructMember t.Parameter node_length node_declarator node_enumerator node_specifier node_expression node_member node_parameter (Expression-F.PrefixStep o a span)

pub expression_of-Unary : (o : UnaryOperator) (a : Box Expression Global) (span : Span) → expression_of (code.Unary o a span) ≡ t.Unary o (expression_of a.value) span
expression_of-Unary o a span = ap expression_of (sym (code.rolls-Unary o a span)) ∙ fold-roll-Expression (t.ArrayLengths → t.ArrayLengths) t.Declarator t.Enumerator t.Specifier t.Expression t.StructMember t.Parameter node_length node_declarator node_enumerator node_specifier node_expression node_member node_parameter (Expression-F.Unary o a span)

pub expression_of-Cast : (all : Vec Specifier Global) (stars : ℕ) (type_span : Span) (a : Box Expression Global) (span : Span) → expression_of (code.Cast all stars type_span a span) ≡ t.Cast (t.type_name (specifiers_from (map specifier_of all.items)) stars type_span) (expression_of a.value) span
expression_of-Cast all stars type_span a span = ap expression_of (sym (code.rolls-Cast all stars type_span a span)) ∙ fold-roll-Expression (t.ArrayLengths → t.ArrayLengths) t.Declarator t.Enumerator t.Specifier t.Expression t.StructMember t.Parameter node_length node_declarator node_enumerator node_specifier node_expression node_member node_parameter (Expression-F.Cast all stars type_span a span)

pub expression_of-Binary : (o : BinaryOperator) (a : Box Expression Global) (b : Box Expression Global) (span : Span) → expression_of (code.Binary o a b span) ≡ t.Binary o (expression_of a.value) (expression_of b.value) span
expression_of-Binary o a b span = ap expression_of (sym (code.rolls-Binary o a b span)) ∙ fold-roll-Expression (t.ArrayLengths → t.ArrayLengths) t.Declarator t.Enumerator t.Specifier t.Expression t.StructMember t.Parameter node_length node_declarator node_enumerator node_specifier node_expression node_member node_parameter (Expression-F.Binary o a b span)

pub expression_of-Conditional : (a : Box Expression Global) (b : Box Expression Global) (c : Box Expression Global) (span : Span) → expression_of (code.Conditional a b c span) ≡ t.Conditional (expression_of a.value) (expression_of b.value) (expression_of c.value) span
expression_of-Conditional a b c span = ap expression_of (sym (code.rolls-Conditional a b c span)) ∙ fold-roll-Expression (t.ArrayLengths → t.ArrayLengths) t.Declarator t.Enumerator t.Specifier t.Expression t.StructMember t.Parameter node_length node_declarator node_enumerator node_specifier node_expression node_member node_parameter (Expression-F.Conditional a b c span)

pub expression_of-Assignment : (o : AssignmentOperator) (a : Box Expression Global) (b : Box Expression Global) (span : Span) → expression_of (code.Assignment o a b span) ≡ t.Assignment o (expression_of a.value) (expression_of b.value) span
expression_of-Assignment o a b span = ap expression_of (sym (code.rolls-Assignment o a b span)) ∙ fold-roll-Expression (t.ArrayLengths → t.ArrayLengths) t.Declarator t.Enumerator t.Specifier t.Expression t.StructMember t.Parameter node_length node_declarator node_enumerator node_specifier node_expression node_member node_parameter (Expression-F.Assignment o a b span)

pub expression_of-Comma : (all : Vec Expression Global) (span : Span) → expression_of (code.Comma all span) ≡ t.Comma (expressions_from (map expression_of all.items)) span
expression_of-Comma all span = ap expression_of (sym (code.rolls-Comma all span)) ∙ fold-roll-Expression (t.ArrayLengths → t.ArrayLengths) t.Declarator t.Enumerator t.Specifier t.Expression t.StructMember t.Parameter node_length node_declarator node_enumerator node_specifier node_expression node_member node_parameter (Expression-F.Comma all span)

pub specifier_of-Word : (w : SpecifierWord) (span : Span) → specifier_of (specifier.Word w span) ≡ t.Word w span
specifier_of-Word w span = ap specifier_of (sym (specifier.rolls-Word w span)) ∙ fold-roll-Specifier (t.ArrayLengths → t.ArrayLengths) t.Declarator t.Enumerator t.Specifier t.Expression t.StructMember t.Parameter node_length node_declarator node_enumerator node_specifier node_expression node_member node_parameter (Specifier-F.Word w span)

pub specifier_of-TypedefName : (n : Identifier) → specifier_of (specifier.TypedefName n) ≡ t.TypedefName (name_of n)
specifier_of-TypedefName n = ap specifier_of (sym (specifier.rolls-TypedefName n)) ∙ fold-roll-Specifier (t.ArrayLengths → t.ArrayLengths) t.Declarator t.Enumerator t.Specifier t.Expression t.StructMember t.Parameter node_length node_declarator node_enumerator node_specifier node_expression node_member node_parameter (Specifier-F.TypedefName n)

pub specifier_of-StructureTag : (n : Identifier) (span : Span) → specifier_of (specifier.StructureTag n span) ≡ t.StructureTag (name_of n) span
specifier_of-StructureTag n span = ap specifier_of (sym (specifier.rolls-StructureTag n span)) ∙ fold-roll-Specifier (t.ArrayLengths → t.ArrayLengths) t.Declarator t.Enumerator t.Specifier t.Expression t.StructMember t.Parameter node_length node_declarator node_enumerator node_specifier node_expression node_member node_parameter (Specifier-F.StructureTag n span)

pub specifier_of-Structure : (tag : Option Identifier) (all : Vec Member Global) (span : Span) → specifier_of (specifier.Structure tag all span) ≡ t.Structure (tag_of tag) (members_from (map member_of all.items)) span
specifier_of-Structure tag all span = ap specifier_of (sym (specifier.rolls-Structure tag all span)) ∙ fold-roll-Specifier (t.ArrayLengths → t.ArrayLengths) t.Declarator t.Enumerator t.Specifier t.Expression t.StructMember t.Parameter node_length node_declarator node_enumerator node_specifier node_expression node_member node_parameter (Specifier-F.Structure tag all span)

pub specifier_of-EnumerationTag : (n : Identifier) (span : Span) → specifier_of (specifier.EnumerationTag n span) ≡ t.EnumerationTag (name_of n) span
specifier_of-EnumerationTag n span = ap specifier_of (sym (specifier.rolls-EnumerationTag n span)) ∙ fold-roll-Specifier (t.ArrayLengths → t.ArrayLengths) t.Declarator t.Enumerator t.Specifier t.Expression t.StructMember t.Parameter node_length node_declarator node_enumerator node_specifier node_expression node_member node_parameter (Specifier-F.EnumerationTag n span)

pub specifier_of-Enumeration : (tag : Option Identifier) (all : Vec Enumerator Global) (span : Span) → specifier_of (specifier.Enumeration tag all span) ≡ t.Enumeration (tag_of tag) (enumerators_from (map enumerator_of all.items)) span
specifier_of-Enumeration tag all span = ap specifier_of (sym (specifier.rolls-Enumeration tag all span)) ∙ fold-roll-Specifier (t.ArrayLengths → t.ArrayLengths) t.Declarator t.Enumerator t.Specifier t.Expression t.StructMember t.Parameter node_length node_declarator node_enumerator node_specifier node_expression node_member node_parameter (Specifier-F.Enumeration tag all span)

pub enumerator_of-Bare : (n : Identifier) → enumerator_of (enumerator.Bare n) ≡ t.enumerator (name_of n)
enumerator_of-Bare n = ap enumerator_of (sym (enumerator.rolls-Bare n)) ∙ fold-roll-Enumerator (t.ArrayLengths → t.ArrayLengths) t.Declarator t.Enumerator t.Specifier t.Expression t.StructMember t.Parameter node_length node_declarator node_enumerator node_specifier node_expression node_member node_parameter (Enumerator-F.Bare n)

pub enumerator_of-Valued : (n : Identifier) (a : Box Expression Global) → enumerator_of (enumerator.Valued n a) ≡ t.valued_enumerator (name_of n) (expression_of a.value)
enumerator_of-Valued n a = ap enumerator_of (sym (enumerator.rolls-Valued n a)) ∙ fold-roll-Enumerator (t.ArrayLengths → t.ArrayLengths) t.Declarator t.Enumerator t.Specifier t.Expression t.StructMember t.Parameter node_length node_declarator node_enumerator node_specifier node_expression node_member node_parameter (Enumerator-F.Valued n a)

pub declarator_of-Object : (stars : ℕ) (n : Identifier) (all : Vec ArrayLength Global) (span : Span) → declarator_of (declarator.Object stars n all span) ≡ t.object stars (name_of n) (lengths_from (map array_length_of all.items)) span
declarator_of-Object stars n all span = ap declarator_of (sym (declarator.rolls-Object stars n all span)) ∙ fold-roll-Declarator (t.ArrayLengths → t.ArrayLengths) t.Declarator t.Enumerator t.Specifier t.Expression t.StructMember t.Parameter node_length node_declarator node_enumerator node_specifier node_expression node_member node_parameter (Declarator-F.Object stars n all span)

pub declarator_of-EmptyFunction : (stars : ℕ) (n : Identifier) (list_span : Span) (span : Span) → declarator_of (declarator.EmptyFunction stars n list_span span) ≡ t.function stars (name_of n) (t.Empty list_span) span
declarator_of-EmptyFunction stars n list_span span = ap declarator_of (sym (declarator.rolls-EmptyFunction stars n list_span span)) ∙ fold-roll-Declarator (t.ArrayLengths → t.ArrayLengths) t.Declarator t.Enumerator t.Specifier t.Expression t.StructMember t.Parameter node_length node_declarator node_enumerator node_specifier node_expression node_member node_parameter (Declarator-F.EmptyFunction stars n list_span span)

pub declarator_of-VoidFunction : (stars : ℕ) (n : Identifier) (list_span : Span) (span : Span) → declarator_of (declarator.VoidFunction stars n list_span span) ≡ t.function stars (name_of n) (t.Void list_span) span
declarator_of-VoidFunction stars n list_span span = ap declarator_of (sym (declarator.rolls-VoidFunction stars n list_span span)) ∙ fold-roll-Declarator (t.ArrayLengths → t.ArrayLengths) t.Declarator t.Enumerator t.Specifier t.Expression t.StructMember t.Parameter node_length node_declarator node_enumerator node_specifier node_expression node_member node_parameter (Declarator-F.VoidFunction stars n list_span span)

pub declarator_of-Function : (stars : ℕ) (n : Identifier) (all : Vec Parameter Global) (list_span : Span) (span : Span) → declarator_of (declarator.Function stars n all list_span span) ≡ t.function stars (name_of n) (t.Listed (parameters_from (map parameter_of all.items)) list_span) span
declarator_of-Function stars n all list_span span = ap declarator_of (sym (declarator.rolls-Function stars n all list_span span)) ∙ fold-roll-Declarator (t.ArrayLengths → t.ArrayLengths) t.Declarator t.Enumerator t.Specifier t.Expression t.StructMember t.Parameter node_length node_declarator node_enumerator node_specifier node_expression node_member node_parameter (Declarator-F.Function stars n all list_span span)

pub array_length_of-Absent : array_length_of bracket.Absent ≡ t.absent_length
array_length_of-Absent = ap array_length_of (sym bracket.rolls-Absent) ∙ fold-roll-ArrayLength (t.ArrayLengths → t.ArrayLengths) t.Declarator t.Enumerator t.Specifier t.Expression t.StructMember t.Parameter node_length node_declarator node_enumerator node_specifier node_expression node_member node_parameter ArrayLength-F.Absent

pub array_length_of-Given : (a : Box Expression Global) → array_length_of (bracket.Given a) ≡ t.given_length (expression_of a.value)
array_length_of-Given a = ap array_length_of (sym (bracket.rolls-Given a)) ∙ fold-roll-ArrayLength (t.ArrayLengths → t.ArrayLengths) t.Declarator t.Enumerator t.Specifier t.Expression t.StructMember t.Parameter node_length node_declarator node_enumerator node_specifier node_expression node_member node_parameter (ArrayLength-F.Given a)

pub member_of-parts : (m : Member) → member_of m ≡ t.member (specifiers_from (map specifier_of m.specifiers.items)) (declarators_from (map declarator_of m.declarators.items)) m.span
member_of-parts m = fold_out-Member (t.ArrayLengths → t.ArrayLengths) t.Declarator t.Enumerator t.Specifier t.Expression t.StructMember t.Parameter node_length node_declarator node_enumerator node_specifier node_expression node_member node_parameter m

pub parameter_of-parts : (p : Parameter) → parameter_of p ≡ t.parameter (specifiers_from (map specifier_of p.specifiers.items)) p.stars (tag_of p.name) (lengths_from (map array_length_of p.lengths.items)) p.span
parameter_of-parts p = fold_out-Parameter (t.ArrayLengths → t.ArrayLengths) t.Declarator t.Enumerator t.Specifier t.Expression t.StructMember t.Parameter node_length node_declarator node_enumerator node_specifier node_expression node_member node_parameter p
