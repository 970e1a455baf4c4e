-- Nodes of a tree at given places.
use Rattle.std.proofs.Common.{◌≡◌, ℕ, true, false, List, ◌∷◌, Some, None, sym, subst, codes}
use Rattle.mc_span.specs.declared.span.Span.{Span}
use Rattle.mc_lex.specs.declared.token.Dialect.{Dialect}
use Rattle.mc_tree.specs.declared.expressions.unary_operator.UnaryOperator.{UnaryOperator}
use Rattle.mc_tree.specs.declared.expressions.step_operator.StepOperator.{StepOperator}
use Rattle.mc_tree.specs.declared.expressions.binary_operator.BinaryOperator.{BinaryOperator}
use Rattle.mc_tree.specs.declared.expressions.assignment_operator.AssignmentOperator.{AssignmentOperator}
use Rattle.mc_tree.specs.Tree.{Expression, Expressions, TypeName, Specifiers, Declarators, Parameters, ArrayLengths, span_of, span_of_parameters}
use Rattle.mc_tree.specs.Tree as t
use Rattle.mc_grammar.specs.Words.{Lexeme, is_punctuator, is_name, next_is, sees, sees_specifiers}
use Rattle.mc_grammar.specs.Places.{at, name_at, to, end_of_expressions, end_of_specifiers}
use Rattle.mc_grammar.specs.Counts.{for_type}
use Rattle.mc_grammar.specs.Operators.{IsUnary, IsStep, operator_at, assignment_at}
use Rattle.mc_grammar.specs.Nonterminal.{Level, operand}
use Rattle.mc_grammar.specs.Nonterminal as n
use Rattle.mc_grammar.specs.Expressions.{Reads, ReadsExpressions, ReadsTypeName, ReadsStars, ReadsSpecifiers, ReadsMember, ReadsDeclarators, ReadsDeclarator, ReadsArrayLengths, ReadsParameters, ReadsParameter}
use Rattle.mc_grammar.specs.Expressions as r
use Rattle.reread_law_texts.proofs.Weave.Steady.{first, front}

-- ---- expressions, whose place is given

pub comma_at : {d : Dialect} {x : Lexeme} {ts mid rest : List Lexeme} {a : Expression} {all : Expressions} (span : Span) → to (span_of a) (end_of_expressions (span_of a) all) ≡ span
    → Reads d n.assign ts a (x ∷ mid) → is_punctuator (codes ",") x ≡ true → ReadsExpressions d mid all rest → Reads d n.comma ts (t.Comma (t.expressions a all) span) rest
comma_at {d = d} {ts = ts} {rest = rest} {a = a} {all = all} span g p e q = subst (λ place. Reads d n.comma ts (t.Comma (t.expressions a all) place) rest) g (r.comma p e q)

pub assign_at : {d : Dialect} {x : Lexeme} {ts mid rest : List Lexeme} {operator : AssignmentOperator} {a b : Expression} (span : Span) → to (span_of a) (span_of b) ≡ span
    → Reads d n.unary ts a (x ∷ mid) → assignment_at x ≡ Some operator → Reads d n.assign mid b rest → Reads d n.assign ts (t.Assignment operator a b span) rest
assign_at {d = d} {ts = ts} {rest = rest} {operator = operator} {a = a} {b = b} span g p e q = subst (λ place. Reads d n.assign ts (t.Assignment operator a b place) rest) g (r.assign p e q)

pub cond_at : {d : Dialect} {x y : Lexeme} {ts mid other rest : List Lexeme} {a b c : Expression} (span : Span) → to (span_of a) (span_of c) ≡ span
    → Reads d (n.level n.lor) ts a (x ∷ mid) → is_punctuator (codes "?") x ≡ true → Reads d n.comma mid b (y ∷ other) → is_punctuator (codes ":") y ≡ true → Reads d n.cond other c rest
    → Reads d n.cond ts (t.Conditional a b c span) rest
cond_at {d = d} {ts = ts} {rest = rest} {a = a} {b = b} {c = c} span g p e q f v = subst (λ place. Reads d n.cond ts (t.Conditional a b c place) rest) g (r.cond p e q f v)

pub operation_at : {d : Dialect} {k : Level} {x : Lexeme} {ts mid rest : List Lexeme} {operator : BinaryOperator} {a b c : Expression} (span : Span) → to (span_of a) (span_of b) ≡ span
    → operator_at k x ≡ Some operator → Reads d (operand k) ts b mid → Reads d (n.operations k (t.Binary operator a b span)) mid c rest → Reads d (n.operations k a) (x ∷ ts) c rest
operation_at {d = d} {k = k} {mid = mid} {rest = rest} {operator = operator} {a = a} {b = b} {c = c} span g e p q =
    r.operation e p (subst (λ place. Reads d (n.operations k (t.Binary operator a b place)) mid c rest) (sym g) q)

pub cast_at : {d : Dialect} {x y : Lexeme} {ts mid rest : List Lexeme} {type : TypeName} {a : Expression} (span : Span) → to (at x) (span_of a) ≡ span
    → is_punctuator (codes "(") x ≡ true → sees_specifiers ts ≡ true → ReadsTypeName d ts type (y ∷ mid) → is_punctuator (codes ")") y ≡ true → Reads d n.cast mid a rest
    → Reads d n.cast (x ∷ ts) (t.Cast type a span) rest
cast_at {d = d} {x = x} {ts = ts} {rest = rest} {type = type} {a = a} span g e f p v q = subst (λ place. Reads d n.cast (x ∷ ts) (t.Cast type a place) rest) g (r.cast e f p v q)

pub prefix_at : {d : Dialect} {x : Lexeme} {ts rest : List Lexeme} {operator : StepOperator} {a : Expression} (span : Span) → to (at x) (span_of a) ≡ span
    → IsStep x operator → Reads d n.unary ts a rest → Reads d n.unary (x ∷ ts) (t.PrefixStep operator a span) rest
prefix_at {d = d} {x = x} {ts = ts} {rest = rest} {operator = operator} {a = a} span g e p = subst (λ place. Reads d n.unary (x ∷ ts) (t.PrefixStep operator a place) rest) g (r.prefix_step e p)

pub unary_at : {d : Dialect} {x : Lexeme} {ts rest : List Lexeme} {operator : UnaryOperator} {a : Expression} (span : Span) → to (at x) (span_of a) ≡ span
    → IsUnary x operator → Reads d n.cast ts a rest → Reads d n.unary (x ∷ ts) (t.Unary operator a span) rest
unary_at {d = d} {x = x} {ts = ts} {rest = rest} {operator = operator} {a = a} span g e p = subst (λ place. Reads d n.unary (x ∷ ts) (t.Unary operator a place) rest) g (r.unary e p)

pub index_at : {d : Dialect} {x y : Lexeme} {ts mid rest : List Lexeme} {a b c : Expression} (span : Span) → to (span_of a) (at y) ≡ span
    → is_punctuator (codes "[") x ≡ true → Reads d n.comma ts b (y ∷ mid) → is_punctuator (codes "]") y ≡ true → Reads d (n.suffixes (t.Index a b span)) mid c rest
    → Reads d (n.suffixes a) (x ∷ ts) c rest
index_at {d = d} {mid = mid} {rest = rest} {a = a} {b = b} {c = c} span g e p f q = r.index e p f (subst (λ place. Reads d (n.suffixes (t.Index a b place)) mid c rest) (sym g) q)

pub member_at : {d : Dialect} {x y : Lexeme} {ts rest : List Lexeme} {a b : Expression} (span : Span) → to (span_of a) (at y) ≡ span
    → is_punctuator (codes ".") x ≡ true → is_name y ≡ true → Reads d (n.suffixes (t.Member a (name_at y) span)) ts b rest → Reads d (n.suffixes a) (x ∷ y ∷ ts) b rest
member_at {d = d} {y = y} {ts = ts} {rest = rest} {a = a} {b = b} span g e f q = r.member e f (subst (λ place. Reads d (n.suffixes (t.Member a (name_at y) place)) ts b rest) (sym g) q)

pub step_at : {d : Dialect} {x : Lexeme} {ts rest : List Lexeme} {operator : StepOperator} {a b : Expression} (span : Span) → to (span_of a) (at x) ≡ span
    → IsStep x operator → Reads d (n.suffixes (t.PostfixStep operator a span)) ts b rest → Reads d (n.suffixes a) (x ∷ ts) b rest
step_at {d = d} {ts = ts} {rest = rest} {operator = operator} {a = a} {b = b} span g e q = r.postfix_step e (subst (λ place. Reads d (n.suffixes (t.PostfixStep operator a place)) ts b rest) (sym g) q)

-- ---- parts of declarations, whose first token is given

pub type_name_at : {d : Dialect} {x : Lexeme} {end : Span} {mid rest : List Lexeme} {words : Specifiers} {stars : ℕ} (us : List Lexeme) → first us ≡ Some x
    → ReadsSpecifiers d false us words mid → for_type words ≡ true → ReadsStars (end_of_specifiers (at x) words) mid stars end rest → ReadsTypeName d us (t.type_name words stars (to (at x) end)) rest
type_name_at {d = d} {x = x} {end = end} {mid = mid} {rest = rest} {words = words} {stars = stars} us g p e q =
    subst (λ us. ReadsTypeName d us (t.type_name words stars (to (at x) end)) rest) (sym (front us g)) (r.type_name (subst (λ us. ReadsSpecifiers d false us words mid) (front us g) p) e q)

pub struct_member_at : {d : Dialect} {x y : Lexeme} {mid rest : List Lexeme} {words : Specifiers} {ds : Declarators} (us : List Lexeme) → first us ≡ Some x
    → ReadsSpecifiers d false us words mid → for_type words ≡ true → ReadsDeclarators d mid ds (y ∷ rest) → is_punctuator (codes ";") y ≡ true
    → ReadsMember d us (t.member words ds (to (at x) (at y))) rest
struct_member_at {d = d} {x = x} {y = y} {mid = mid} {rest = rest} {words = words} {ds = ds} us g p e q f =
    subst (λ us. ReadsMember d us (t.member words ds (to (at x) (at y))) rest) (sym (front us g)) (r.struct_member (subst (λ us. ReadsSpecifiers d false us words mid) (front us g) p) e q f)

pub object_at : {d : Dialect} {x y : Lexeme} {before end : Span} {mid rest : List Lexeme} {stars : ℕ} {lengths : ArrayLengths} (us : List Lexeme) → first us ≡ Some x
    → ReadsStars (at x) us stars before (y ∷ mid) → is_name y ≡ true → sees (codes "(") mid ≡ false → ReadsArrayLengths d (at y) mid lengths end rest
    → ReadsDeclarator d us (t.object stars (name_at y) lengths (to (at x) end)) rest
object_at {d = d} {x = x} {y = y} {before = before} {end = end} {mid = mid} {rest = rest} {stars = stars} {lengths = lengths} us g p e f q =
    subst (λ us. ReadsDeclarator d us (t.object stars (name_at y) lengths (to (at x) end)) rest) (sym (front us g)) (r.object (subst (λ us. ReadsStars (at x) us stars before (y ∷ mid)) (front us g) p) e f q)

pub function_at : {d : Dialect} {x y : Lexeme} {before : Span} {mid rest : List Lexeme} {stars : ℕ} {ps : Parameters} (span : Span) → to (at x) (span_of_parameters ps) ≡ span → (us : List Lexeme) → first us ≡ Some x
    → ReadsStars (at x) us stars before (y ∷ mid) → is_name y ≡ true → ReadsParameters d mid ps rest
    → ReadsDeclarator d us (t.function stars (name_at y) ps span) rest
function_at {d = d} {x = x} {y = y} {before = before} {mid = mid} {rest = rest} {stars = stars} {ps = ps} span h us g p e q =
    subst (λ place. ReadsDeclarator d us (t.function stars (name_at y) ps place) rest) h
    (subst (λ us. ReadsDeclarator d us (t.function stars (name_at y) ps (to (at x) (span_of_parameters ps))) rest) (sym (front us g)) (r.function (subst (λ us. ReadsStars (at x) us stars before (y ∷ mid)) (front us g) p) e q))

pub parameter_at : {d : Dialect} {x y : Lexeme} {before end : Span} {words mid rest : List Lexeme} {all : Specifiers} {stars : ℕ} {lengths : ArrayLengths} (us : List Lexeme) → first us ≡ Some x
    → ReadsSpecifiers d false us all words → for_type all ≡ true → ReadsStars (end_of_specifiers (at x) all) words stars before (y ∷ mid) → is_name y ≡ true → ReadsArrayLengths d (at y) mid lengths end rest
    → ReadsParameter d us (t.parameter all stars (Some (name_at y)) lengths (to (at x) end)) rest
parameter_at {d = d} {x = x} {y = y} {before = before} {end = end} {words = words} {mid = mid} {rest = rest} {all = all} {stars = stars} {lengths = lengths} us g p e q f v =
    subst (λ us. ReadsParameter d us (t.parameter all stars (Some (name_at y)) lengths (to (at x) end)) rest) (sym (front us g)) (r.parameter (subst (λ us. ReadsSpecifiers d false us all words) (front us g) p) e q f v)

pub unnamed_at : {d : Dialect} {x : Lexeme} {before end : Span} {words mid rest : List Lexeme} {all : Specifiers} {stars : ℕ} {lengths : ArrayLengths} (us : List Lexeme) → first us ≡ Some x
    → ReadsSpecifiers d false us all words → for_type all ≡ true → ReadsStars (end_of_specifiers (at x) all) words stars before mid → next_is is_name mid ≡ false → ReadsArrayLengths d before mid lengths end rest
    → ReadsParameter d us (t.parameter all stars None lengths (to (at x) end)) rest
unnamed_at {d = d} {x = x} {before = before} {end = end} {words = words} {mid = mid} {rest = rest} {all = all} {stars = stars} {lengths = lengths} us g p e q f v =
    subst (λ us. ReadsParameter d us (t.parameter all stars None lengths (to (at x) end)) rest) (sym (front us g)) (r.unnamed_parameter (subst (λ us. ReadsSpecifiers d false us all words) (front us g) p) e q f v)
