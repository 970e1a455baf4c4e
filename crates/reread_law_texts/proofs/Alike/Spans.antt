-- Where moved trees stand, and which words a moved list of specifiers has.
use Rattle.std.proofs.Common.{◌≡◌, ◌+◌, Bool, true, false, not, ◌&&◌, nat_eq, nat_le, refl, sym, ap, ◌∙◌}
use Rattle.mc_span.specs.declared.span.Span.{Span}
use Rattle.mc_tree.specs.Tree.{Expression, Expressions, Specifier, Specifiers, Parameters, Statement, span_of, span_of_specifier, span_of_parameters, span_of_statement}
use Rattle.mc_tree.specs.Tree as t
use Rattle.mc_grammar.specs.Words.{Lexeme}
use Rattle.mc_grammar.specs.Places.{at, end_of_expressions, end_of_specifiers}
use Rattle.mc_grammar.specs.Counts.{Counts, counts, with_specifier, has_one_type, for_function, for_local, for_type}
use Rattle.mc_grammar.specs.Nonterminal.{Level, operand}
use Rattle.mc_grammar.specs.Nonterminal as n
use Rattle.mc_grammar.specs.Expressions.{is_unary}
use Rattle.mc_grammar.specs.Items.{is_item_of}
use Rattle.reread_law_texts.specs.alike.Moves.{Move, Fits, moved_span, moved_lexeme}
use Rattle.reread_law_texts.specs.alike.Trees.{moved, moved_expressions, moved_specifier, moved_specifiers, moved_parameters, moved_statement, moved_nonterminal}

-- ---- where they stand

pub span_kept : (m : Move) (a : Expression) → span_of (moved m a) ≡ moved_span m (span_of a)
span_kept m (t.Named name) = refl
span_kept m (t.Constant value decimal unsigned longs span) = refl
span_kept m (t.Character value span) = refl
span_kept m (t.Parenthesized inner span) = refl
span_kept m (t.Call name arguments span) = refl
span_kept m (t.Index a b span) = refl
span_kept m (t.Member a name span) = refl
span_kept m (t.PostfixStep operator a span) = refl
span_kept m (t.PrefixStep operator a span) = refl
span_kept m (t.Unary operator a span) = refl
span_kept m (t.Cast type a span) = refl
span_kept m (t.Binary operator a b span) = refl
span_kept m (t.Conditional a b c span) = refl
span_kept m (t.Assignment operator a b span) = refl
span_kept m (t.Comma operands span) = refl

specifier_span_kept : (m : Move) (s : Specifier) → span_of_specifier (moved_specifier m s) ≡ moved_span m (span_of_specifier s)
specifier_span_kept m (t.Word w span) = refl
specifier_span_kept m (t.TypedefName name) = refl
specifier_span_kept m (t.StructureTag name span) = refl
specifier_span_kept m (t.Structure tag all span) = refl
specifier_span_kept m (t.EnumerationTag name span) = refl
specifier_span_kept m (t.Enumeration tag all span) = refl

parameters_span_kept : (m : Move) (ps : Parameters) → span_of_parameters (moved_parameters m ps) ≡ moved_span m (span_of_parameters ps)
parameters_span_kept m (t.Empty span) = refl
parameters_span_kept m (t.Void span) = refl
parameters_span_kept m (t.Listed all span) = refl

pub statement_span_kept : (m : Move) (s : Statement) → span_of_statement (moved_statement m s) ≡ moved_span m (span_of_statement s)
statement_span_kept m (t.Compound b span) = refl
statement_span_kept m (t.Null span) = refl
statement_span_kept m (t.ExpressionStatement a span) = refl
statement_span_kept m (t.If a s span) = refl
statement_span_kept m (t.IfElse a s u span) = refl
statement_span_kept m (t.Switch a s span) = refl
statement_span_kept m (t.While a s span) = refl
statement_span_kept m (t.DoWhile s a span) = refl
statement_span_kept m (t.For start a b s span) = refl
statement_span_kept m (t.Case a label s span) = refl
statement_span_kept m (t.Default label s span) = refl
statement_span_kept m (t.Label name s span) = refl
statement_span_kept m (t.Goto name span) = refl
statement_span_kept m (t.Break span) = refl
statement_span_kept m (t.Continue span) = refl
statement_span_kept m (t.Return a span) = refl

pub start_kept : (m : Move) (a : Expression) → m.start (span_of a).start ≡ (span_of (moved m a)).start
start_kept m a = ap (λ s. s.start) (sym (span_kept m a))

pub end_kept : (m : Move) (a : Expression) → m.end (span_of a).end ≡ (span_of (moved m a)).end
end_kept m a = ap (λ s. s.end) (sym (span_kept m a))

pub parameters_end_kept : (m : Move) (ps : Parameters) → m.end (span_of_parameters ps).end ≡ (span_of_parameters (moved_parameters m ps)).end
parameters_end_kept m ps = ap (λ s. s.end) (sym (parameters_span_kept m ps))

pub statement_end_kept : (m : Move) (s : Statement) → m.end (span_of_statement s).end ≡ (span_of_statement (moved_statement m s)).end
statement_end_kept m s = ap (λ s. s.end) (sym (statement_span_kept m s))

-- the last of some expressions, and of some specifiers

last_kept : (m : Move) (place : Span) (all : Expressions) → moved_span m (end_of_expressions place all) ≡ end_of_expressions (moved_span m place) (moved_expressions m all)
last_kept m place t.no_expressions = refl
last_kept m place (t.expressions a rest) = last_kept m (span_of a) rest ∙ ap (λ s. end_of_expressions s (moved_expressions m rest)) (sym (span_kept m a))

pub list_end_kept : (m : Move) (a : Expression) (all : Expressions) → m.end (end_of_expressions (span_of a) all).end ≡ (end_of_expressions (span_of (moved m a)) (moved_expressions m all)).end
list_end_kept m a all = ap (λ s. s.end) (last_kept m (span_of a) all ∙ ap (λ s. end_of_expressions s (moved_expressions m all)) (sym (span_kept m a)))

last_specifier_kept : (m : Move) (place : Span) (all : Specifiers) → moved_span m (end_of_specifiers place all) ≡ end_of_specifiers (moved_span m place) (moved_specifiers m all)
last_specifier_kept m place t.no_specifiers = refl
last_specifier_kept m place (t.specifiers s rest) = last_specifier_kept m (span_of_specifier s) rest ∙ ap (λ place. end_of_specifiers place (moved_specifiers m rest)) (sym (specifier_span_kept m s))

-- the place of a token that fits
pub at_kept : (m : Move) (x : Lexeme) → Fits m x.token → moved_span m (at x) ≡ at (moved_lexeme m x)
at_kept m x fit = ap {B = Span} (λ end. record { start = m.start x.token.start; end = end }) fit

-- the place after specifiers that begin with such a token
pub words_kept : (m : Move) (x : Lexeme) (all : Specifiers) → Fits m x.token → moved_span m (end_of_specifiers (at x) all) ≡ end_of_specifiers (at (moved_lexeme m x)) (moved_specifiers m all)
words_kept m x all fit = last_specifier_kept m (at x) all ∙ ap (λ place. end_of_specifiers place (moved_specifiers m all)) (at_kept m x fit)

-- ---- forms of trees

pub unary_kept : (m : Move) (a : Expression) → is_unary (moved m a) ≡ is_unary a
unary_kept m (t.Named name) = refl
unary_kept m (t.Constant value decimal unsigned longs span) = refl
unary_kept m (t.Character value span) = refl
unary_kept m (t.Parenthesized inner span) = refl
unary_kept m (t.Call name arguments span) = refl
unary_kept m (t.Index a b span) = refl
unary_kept m (t.Member a name span) = refl
unary_kept m (t.PostfixStep operator a span) = refl
unary_kept m (t.PrefixStep operator a span) = refl
unary_kept m (t.Unary operator a span) = refl
unary_kept m (t.Cast type a span) = refl
unary_kept m (t.Binary operator a b span) = refl
unary_kept m (t.Conditional a b c span) = refl
unary_kept m (t.Assignment operator a b span) = refl
unary_kept m (t.Comma operands span) = refl

pub operand_kept : (m : Move) (k : Level) → moved_nonterminal m (operand k) ≡ operand k
operand_kept m n.product = refl
operand_kept m n.sum = refl
operand_kept m n.shift = refl
operand_kept m n.relation = refl
operand_kept m n.equality = refl
operand_kept m n.bit_and = refl
operand_kept m n.bit_xor = refl
operand_kept m n.bit_or = refl
operand_kept m n.land = refl
operand_kept m n.lor = refl

-- ---- the words of specifiers

one_kept : (m : Move) (s : Specifier) (c : Counts) → with_specifier (moved_specifier m s) c ≡ with_specifier s c
one_kept m (t.Word w span) c = refl
one_kept m (t.TypedefName name) c = refl
one_kept m (t.StructureTag name span) c = refl
one_kept m (t.Structure tag all span) c = refl
one_kept m (t.EnumerationTag name span) c = refl
one_kept m (t.Enumeration tag all span) c = refl

pub counts_kept : (m : Move) (all : Specifiers) → counts (moved_specifiers m all) ≡ counts all
counts_kept m t.no_specifiers = refl
counts_kept m (t.specifiers s rest) = one_kept m s (counts (moved_specifiers m rest)) ∙ ap (with_specifier s) (counts_kept m rest)

type_test : Counts → Bool
type_test c = has_one_type c && nat_eq (c.typedef + c.static + c.extern) 0

local_test : Counts → Bool
local_test c = has_one_type c && nat_le (c.typedef + c.static + c.extern) 1 && nat_eq (c.typedef + c.extern) 0

function_test : Counts → Bool
function_test c = has_one_type c && nat_le (c.typedef + c.static + c.extern) 1 && nat_eq c.typedef 0

item_test : Bool → Counts → Bool
item_test true c = (has_one_type c && nat_le (c.typedef + c.static + c.extern) 1) && nat_eq c.typedef 1
item_test false c = (has_one_type c && nat_le (c.typedef + c.static + c.extern) 1) && not (nat_eq c.typedef 1)

pub for_type_kept : (m : Move) (all : Specifiers) → for_type (moved_specifiers m all) ≡ for_type all
unfolding type_test
for_type_kept m all = ap type_test (counts_kept m all)

pub for_local_kept : (m : Move) (all : Specifiers) → for_local (moved_specifiers m all) ≡ for_local all
unfolding local_test
for_local_kept m all = ap local_test (counts_kept m all)

pub for_function_kept : (m : Move) (all : Specifiers) → for_function (moved_specifiers m all) ≡ for_function all
unfolding function_test
for_function_kept m all = ap function_test (counts_kept m all)

pub item_of_kept : (m : Move) (typedef : Bool) (all : Specifiers) → is_item_of typedef (moved_specifiers m all) ≡ is_item_of typedef all
unfolding item_test
item_of_kept m true all = ap (item_test true) (counts_kept m all)
item_of_kept m false all = ap (item_test false) (counts_kept m all)
