-- Where trees with brackets stand, and which words a list of specifiers with brackets in it has.
use Rattle.std.proofs.Common.{◌≡◌, ℕ, zero, suc, ◌+◌, Bool, true, false, not, ◌&&◌, nat_eq, nat_le, refl, ap, ◌∙◌}
use Rattle.mc_span.specs.declared.span.Span.{Span}
use Rattle.mc_tree.specs.Tree.{Expression, Expressions, Specifier, Specifiers, Declarator, Parameters, Statement, span_of, span_of_specifier, span_of_parameters, span_of_statement, name_of}
use Rattle.mc_tree.specs.Tree as t
use Rattle.mc_grammar.specs.Places.{to, end_of_expressions, end_of_specifiers}
use Rattle.mc_grammar.specs.Counts.{Counts, counts, with_specifier, has_one_type, for_function, for_local, for_type}
use Rattle.mc_grammar.specs.Items.{is_item_of}
use Rattle.reread_law_texts.specs.weave.Brackets.{Brackets}
use Rattle.reread_law_texts.specs.weave.Trees.{around_by, braced_by, bracketed, bracketed_expressions, bracketed_specifier, bracketed_specifiers, bracketed_declarator, bracketed_parameters, bracketed_statement}

-- ---- where they stand

pub around_stands : (m : ℕ) (span : Span) (a : Expression) → span_of a ≡ span → span_of (around_by m span a) ≡ span
around_stands zero span a e = e
around_stands (suc m) span a e = refl

pub stands : (w : Brackets) (a : Expression) → span_of (bracketed w a) ≡ span_of a
stands w (t.Named name) = around_stands (w.parentheses name.span) name.span _ refl
stands w (t.Constant value decimal unsigned longs span) = around_stands (w.parentheses span) span _ refl
stands w (t.Character value span) = around_stands (w.parentheses span) span _ refl
stands w (t.Parenthesized inner span) = around_stands (w.parentheses span) span _ refl
stands w (t.Call name arguments span) = around_stands (w.parentheses span) span _ refl
stands w (t.Index a b span) = around_stands (w.parentheses span) span _ refl
stands w (t.Member a name span) = around_stands (w.parentheses span) span _ refl
stands w (t.PostfixStep operator a span) = around_stands (w.parentheses span) span _ refl
stands w (t.PrefixStep operator a span) = around_stands (w.parentheses span) span _ refl
stands w (t.Unary operator a span) = around_stands (w.parentheses span) span _ refl
stands w (t.Cast type a span) = around_stands (w.parentheses span) span _ refl
stands w (t.Binary operator a b span) = around_stands (w.parentheses span) span _ refl
stands w (t.Conditional a b c span) = around_stands (w.parentheses span) span _ refl
stands w (t.Assignment operator a b span) = around_stands (w.parentheses span) span _ refl
stands w (t.Comma operands span) = around_stands (w.parentheses span) span _ refl

pub braced_stands : (b : Bool) (span : Span) (s : Statement) → span_of_statement s ≡ span → span_of_statement (braced_by b span s) ≡ span
braced_stands false span s e = e
braced_stands true span s e = refl

pub statement_stands : (w : Brackets) (s : Statement) → span_of_statement (bracketed_statement w s) ≡ span_of_statement s
statement_stands w (t.Compound b span) = refl
statement_stands w (t.Null span) = braced_stands (w.braces span) span _ refl
statement_stands w (t.ExpressionStatement a span) = braced_stands (w.braces span) span _ refl
statement_stands w (t.If a s span) = braced_stands (w.braces span) span _ refl
statement_stands w (t.IfElse a s u span) = braced_stands (w.braces span) span _ refl
statement_stands w (t.Switch a s span) = braced_stands (w.braces span) span _ refl
statement_stands w (t.While a s span) = braced_stands (w.braces span) span _ refl
statement_stands w (t.DoWhile s a span) = braced_stands (w.braces span) span _ refl
statement_stands w (t.For start a b s span) = braced_stands (w.braces span) span _ refl
statement_stands w (t.Case a label s span) = refl
statement_stands w (t.Default label s span) = refl
statement_stands w (t.Label name s span) = refl
statement_stands w (t.Goto name span) = braced_stands (w.braces span) span _ refl
statement_stands w (t.Break span) = braced_stands (w.braces span) span _ refl
statement_stands w (t.Continue span) = braced_stands (w.braces span) span _ refl
statement_stands w (t.Return a span) = braced_stands (w.braces span) span _ refl

specifier_stands : (w : Brackets) (s : Specifier) → span_of_specifier (bracketed_specifier w s) ≡ span_of_specifier s
specifier_stands w (t.Word word span) = refl
specifier_stands w (t.TypedefName name) = refl
specifier_stands w (t.StructureTag name span) = refl
specifier_stands w (t.Structure tag all span) = refl
specifier_stands w (t.EnumerationTag name span) = refl
specifier_stands w (t.Enumeration tag all span) = refl

parameters_stand : (w : Brackets) (ps : Parameters) → span_of_parameters (bracketed_parameters w ps) ≡ span_of_parameters ps
parameters_stand w (t.Empty span) = refl
parameters_stand w (t.Void span) = refl
parameters_stand w (t.Listed all span) = refl

-- the last of some expressions, and of some specifiers
last_stands : (w : Brackets) (place : Span) (all : Expressions) → end_of_expressions place (bracketed_expressions w all) ≡ end_of_expressions place all
last_stands w place t.no_expressions = refl
last_stands w place (t.expressions a rest) = ap (λ place. end_of_expressions place (bracketed_expressions w rest)) (stands w a) ∙ last_stands w (span_of a) rest

pub words_stand : (w : Brackets) (place : Span) (all : Specifiers) → end_of_specifiers place (bracketed_specifiers w all) ≡ end_of_specifiers place all
words_stand w place t.no_specifiers = refl
words_stand w place (t.specifiers s rest) = ap (λ place. end_of_specifiers place (bracketed_specifiers w rest)) (specifier_stands w s) ∙ words_stand w (span_of_specifier s) rest

-- ---- places from one part to another

pub from_to : (w : Brackets) (a b : Expression) → to (span_of (bracketed w a)) (span_of (bracketed w b)) ≡ to (span_of a) (span_of b)
from_to w a b = ap (λ place. to place (span_of (bracketed w b))) (stands w a) ∙ ap (to (span_of a)) (stands w b)

pub from_last : (w : Brackets) (a : Expression) (all : Expressions)
    → to (span_of (bracketed w a)) (end_of_expressions (span_of (bracketed w a)) (bracketed_expressions w all)) ≡ to (span_of a) (end_of_expressions (span_of a) all)
from_last w a all = ap (λ place. to place (end_of_expressions place (bracketed_expressions w all))) (stands w a) ∙ ap (to (span_of a)) (last_stands w (span_of a) all)

pub to_end : (w : Brackets) (place : Span) (a : Expression) → to place (span_of (bracketed w a)) ≡ to place (span_of a)
to_end w place a = ap (to place) (stands w a)

pub from_start : (w : Brackets) (a : Expression) (place : Span) → to (span_of (bracketed w a)) place ≡ to (span_of a) place
from_start w a place = ap (λ first. to first place) (stands w a)

pub to_statement : (w : Brackets) (place : Span) (s : Statement) → to place (span_of_statement (bracketed_statement w s)) ≡ to place (span_of_statement s)
to_statement w place s = ap (to place) (statement_stands w s)

pub to_parameters : (w : Brackets) (place : Span) (ps : Parameters) → to place (span_of_parameters (bracketed_parameters w ps)) ≡ to place (span_of_parameters ps)
to_parameters w place ps = ap (to place) (parameters_stand w ps)

pub same_name : (w : Brackets) (d : Declarator) → name_of (bracketed_declarator w d) ≡ name_of d
same_name w (t.object stars name all span) = refl
same_name w (t.function stars name all span) = refl

-- ---- the words of specifiers

one_kept : (w : Brackets) (s : Specifier) (c : Counts) → with_specifier (bracketed_specifier w s) c ≡ with_specifier s c
one_kept w (t.Word word span) c = refl
one_kept w (t.TypedefName name) c = refl
one_kept w (t.StructureTag name span) c = refl
one_kept w (t.Structure tag all span) c = refl
one_kept w (t.EnumerationTag name span) c = refl
one_kept w (t.Enumeration tag all span) c = refl

counts_kept : (w : Brackets) (all : Specifiers) → counts (bracketed_specifiers w all) ≡ counts all
counts_kept w t.no_specifiers = refl
counts_kept w (t.specifiers s rest) = one_kept w s (counts (bracketed_specifiers w rest)) ∙ ap (with_specifier s) (counts_kept w rest)

type_test : Counts → Bool
type_test c = has_one_type c && nat_eq (c.typedef + c.static + c.extern) 0

local_test : Counts → Bool
local_test c = has_one_type c && nat_le (c.typedef + c.static + c.extern) 1 && nat_eq (c.typedef + c.extern) 0

function_test : Counts → Bool
function_test c = has_one_type c && nat_le (c.typedef + c.static + c.extern) 1 && nat_eq c.typedef 0

item_test : Bool → Counts → Bool
item_test true c = (has_one_type c && nat_le (c.typedef + c.static + c.extern) 1) && nat_eq c.typedef 1
item_test false c = (has_one_type c && nat_le (c.typedef + c.static + c.extern) 1) && not (nat_eq c.typedef 1)

pub for_type_kept : (w : Brackets) (all : Specifiers) → for_type (bracketed_specifiers w all) ≡ for_type all
unfolding type_test
for_type_kept w all = ap type_test (counts_kept w all)

pub for_local_kept : (w : Brackets) (all : Specifiers) → for_local (bracketed_specifiers w all) ≡ for_local all
unfolding local_test
for_local_kept w all = ap local_test (counts_kept w all)

pub for_function_kept : (w : Brackets) (all : Specifiers) → for_function (bracketed_specifiers w all) ≡ for_function all
unfolding function_test
for_function_kept w all = ap function_test (counts_kept w all)

pub item_of_kept : (w : Brackets) (typedef : Bool) (all : Specifiers) → is_item_of typedef (bracketed_specifiers w all) ≡ is_item_of typedef all
unfolding item_test
item_of_kept w true all = ap (item_test true) (counts_kept w all)
item_of_kept w false all = ap (item_test false) (counts_kept w all)
