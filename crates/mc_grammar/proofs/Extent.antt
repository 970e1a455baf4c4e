-- The place of a node runs from its first token to its last.
use Rattle.std.proofs.Common.{◌≡◌, ℕ, ◌&&◌, Bool, true, false, List, [], ◌∷◌, Option, if◌then◌else◌, refl, sym, ◌∙◌, subst, ap}
use Rattle.std.specs.Str.{bytes_eq}
use Rattle.mc_lex.specs.declared.token.Dialect.{Dialect}
use Rattle.mc_span.specs.declared.span.Span.{Span}
use Rattle.mc_tree.specs.Tree.{Expression, Expressions, TypeName, Specifier, Specifiers, StructMember, Declarator, ArrayLengths, Parameters, Parameter, Initializer, Initializers, InitDeclarator, Declaration, ForStart, Statement, BlockItems, Item, span_of, span_of_specifier, span_of_parameters, span_of_statement, name_of}
use Rattle.mc_tree.specs.Tree as t
use Rattle.mc_grammar.specs.Words.{Lexeme, is_identifier_kind, retag}
use Rattle.mc_grammar.specs.Places.{at, to, end_of_expressions, end_of_specifiers}
use Rattle.mc_grammar.specs.Counts.{for_type}
use Rattle.mc_grammar.specs.Nonterminal.{Nonterminal, Level, takes}
use Rattle.mc_grammar.specs.Nonterminal as n
use Rattle.mc_grammar.specs.Expressions.{Reads, ReadsExpressions, ReadsTypeName, ReadsStars, ReadsSpecifiers, ReadsMember, ReadsDeclarator, ReadsArrayLengths, ReadsParameters, ReadsParameter}
use Rattle.mc_grammar.specs.Expressions as r
use Rattle.mc_grammar.specs.Statements.{ReadsOptional, ReadsTest, ReadsInitializer, ReadsInitializers, ReadsInitDeclarator, ReadsInitDeclarators, ReadsDeclaration, ReadsForStart, ReadsStatement, ReadsCompound, ReadsBlockItems}
use Rattle.mc_grammar.specs.Statements as s
use Rattle.mc_grammar.specs.Items.{ReadsItem}
use Rattle.mc_grammar.specs.Items as i
use Rattle.mc_grammar.specs.Extent.{places, IsPlace, single, longer, span_of_type_name, span_of_member, span_of_declarator, span_of_parameter, span_of_declaration, span_of_item}
use Rattle.mc_grammar.proofs.Lengths.{operand_takes}
use Rattle.mc_grammar.proofs.Ends.{IsEnd, whole, later, join, stars_ends, expression_ends, expressions_ends, type_name_ends, specifiers_ends, members_ends, enumerators_ends, declarators_ends, declarator_ends, parameter_list_ends, initializer_ends, initializers_ends}

-- ---- places of lists

-- the places of an end of a list are an end of its places
ends : {rest ts : List Lexeme} → IsEnd rest ts → IsEnd (places rest) (places ts)
ends whole = whole
ends (later p) = later (ends p)

end_of : {place : Span} {all rest : List Span} → IsPlace place all rest → IsEnd rest all
end_of single = later whole
end_of (longer p) = later (end_of p)

-- a place starts where the first of its tokens does
starts : {first place : Span} {all rest : List Span} → IsPlace place (first ∷ all) rest → IsPlace (to first place) (first ∷ all) rest
starts single = single
starts (longer p) = longer p

-- from a token to the end of a later place
from : {first last : Span} {all mid rest : List Span} → IsEnd mid all → IsPlace last mid rest → IsPlace (to first last) (first ∷ all) rest
from whole c = longer c
from (later p) c = longer (from p c)

-- the same where that place may begin with this token
begin : {first last : Span} {all mid rest : List Span} → IsEnd mid (first ∷ all) → IsPlace last mid rest → IsPlace (to first last) (first ∷ all) rest
begin whole c = starts c
begin (later p) c = from p c

-- from one place to the end of a later single
upto : {place last : Span} {all mid next rest : List Span} → IsPlace place all mid → IsEnd next mid → IsPlace last next rest → IsPlace (to place last) all rest
upto single p c = from p c
upto (longer q) p c = longer (upto q p c)

-- ---- expressions

mutual
  pub stands : {d : Dialect} {m : Nonterminal} {ts rest : List Lexeme} {a : Expression} → takes m ≡ 1 → Reads d m ts a rest → IsPlace (span_of a) (places ts) (places rest)
  stands g (r.comma_one p e) = stands refl p
  stands g (r.comma {a = a} p e q) = expressions_stand (span_of a) (span_of a) q (stands refl p)
  stands g (r.assign_cond p e) = stands refl p
  stands g (r.assign p e q) = upto (stands refl p) (later whole) (stands refl q)
  stands g (r.cond_level p e) = stands refl p
  stands g (r.cond p e q f v) = upto (stands refl p) (later (join (ends (expression_ends q)) (later whole))) (stands refl v)
  stands g (r.level {k = k} p q) = operations_stand q (stands (operand_takes k) p)
  stands g (r.operation e p q) = cc
  stands g (r.operations_end e) = cc
  stands g (r.cast_unary e p) = stands refl p
  stands g (r.cast e f p v q) = from (join (ends (type_name_ends p)) (later whole)) (stands refl q)
  stands g (r.unary_postfix e p) = stands refl p
  stands g (r.prefix_step e p) = longer (stands refl p)
  stands g (r.unary e p) = longer (stands refl p)
  stands g (r.postfix p q) = suffixes_stand q (stands refl p)
  stands g (r.index e p f q) = cc
  stands g (r.member e f p) = cc
  stands g (r.postfix_step e p) = cc
  stands g (r.suffixes_end e) = cc
  stands g (r.named e f) = single
  stands g (r.constant e) = single
  stands g (r.character e) = single
  stands g (r.parenthesized e f p v) = from (ends (expression_ends p)) single
  stands g (r.call_empty e f v) = from (later whole) single
  stands g (r.call e f v p w) = from (later (ends (expressions_ends p))) single

  operations_stand : {d : Dialect} {k : Level} {a b : Expression} {ts rest : List Lexeme} {all : List Span} → Reads d (n.operations k a) ts b rest → IsPlace (span_of a) all (places ts) → IsPlace (span_of b) all (places rest)
  operations_stand (r.operation {k = k} e p q) h = operations_stand q (upto h (later whole) (stands (operand_takes k) p))
  operations_stand (r.operations_end e) h = h

  suffixes_stand : {d : Dialect} {a b : Expression} {ts rest : List Lexeme} {all : List Span} → Reads d (n.suffixes a) ts b rest → IsPlace (span_of a) all (places ts) → IsPlace (span_of b) all (places rest)
  suffixes_stand (r.index e p f q) h = suffixes_stand q (upto h (later (ends (expression_ends p))) single)
  suffixes_stand (r.member e f q) h = suffixes_stand q (upto h (later whole) single)
  suffixes_stand (r.postfix_step e q) h = suffixes_stand q (upto h whole single)
  suffixes_stand (r.suffixes_end e) h = h

  -- the next operands, after a comma
  expressions_stand : {d : Dialect} {comma : Span} {ts rest : List Lexeme} {parts : Expressions} {all : List Span} (first place : Span)
      → ReadsExpressions d ts parts rest → IsPlace (to first place) all (comma ∷ places ts) → IsPlace (to first (end_of_expressions place parts)) all (places rest)
  expressions_stand first place (r.last_expression p e) h = upto h (later whole) (stands refl p)
  expressions_stand first place (r.more_expressions {a = a} p e q) h = expressions_stand first (span_of a) q (upto h (later whole) (stands refl p))

-- ---- specifiers and declarators

stars_stand : {before last : Span} {ts rest : List Lexeme} {k : ℕ} {all : List Span} (first : Span) → ReadsStars before ts k last rest → IsPlace (to first before) all (places ts) → IsPlace (to first last) all (places rest)
stars_stand first (r.star e p) h = stars_stand first p (upto h whole single)
stars_stand first (r.no_star e) h = h

lengths_stand : {d : Dialect} {before last : Span} {ts rest : List Lexeme} {parts : ArrayLengths} {all : List Span} (first : Span)
    → ReadsArrayLengths d before ts parts last rest → IsPlace (to first before) all (places ts) → IsPlace (to first last) all (places rest)
lengths_stand first (r.lengths_end e) h = h
lengths_stand first (r.absent_length e f p) h = lengths_stand first p (upto h (later whole) single)
lengths_stand first (r.given_length e f p g q) h = lengths_stand first q (upto h (later (ends (expression_ends p))) single)

-- the first of some specifiers, and the others
pub specifier_stands : {d : Dialect} {has : Bool} {ts rest : List Lexeme} {part : Specifier} {parts : Specifiers} → ReadsSpecifiers d has ts (t.specifiers part parts) rest
    → (has_type : Bool) × (mid : List Lexeme) × IsPlace (span_of_specifier part) (places ts) (places mid) × ReadsSpecifiers d has_type mid parts rest
specifier_stands (r.word e p) = (_, _, single, p)
specifier_stands (r.typedef_name e p) = (_, _, single, p)
specifier_stands (r.structure_tag e f g p) = (_, _, from whole single, p)
specifier_stands (r.structure e f g p v q) = (_, _, from (later (later (ends (members_ends p)))) single, q)
specifier_stands (r.untagged_structure e g p v q) = (_, _, from (later (ends (members_ends p))) single, q)
specifier_stands (r.enumeration_tag e f g p) = (_, _, from whole single, p)
specifier_stands (r.enumeration e f g p v q) = (_, _, from (later (later (ends (enumerators_ends p)))) single, q)
specifier_stands (r.untagged_enumeration e g p v q) = (_, _, from (later (ends (enumerators_ends p))) single, q)

specifiers_stand : {d : Dialect} (first place : Span) (parts : Specifiers) {has : Bool} {ts rest : List Lexeme} {all : List Span}
    → ReadsSpecifiers d has ts parts rest → IsPlace (to first place) all (places ts) → IsPlace (to first (end_of_specifiers place parts)) all (places rest)
specifiers_stand first place t.no_specifiers (r.specifiers_end e) h = h
specifiers_stand first place (t.specifiers part parts) p h = let g = specifier_stands p in specifiers_stand first (span_of_specifier part) parts g.3 (upto h whole g.2)

-- specifiers with a type are not empty
typed_stand : {d : Dialect} {has : Bool} {x : Lexeme} {ts rest : List Lexeme} (parts : Specifiers) → for_type parts ≡ true
    → ReadsSpecifiers d has (x ∷ ts) parts rest → IsPlace (to (at x) (end_of_specifiers (at x) parts)) (places (x ∷ ts)) (places rest)
typed_stand t.no_specifiers e p = cc
typed_stand {x = x} (t.specifiers part parts) e p = let g = specifier_stands p in specifiers_stand (at x) (span_of_specifier part) parts g.3 (starts g.2)

pub type_name_stands : {d : Dialect} {ts rest : List Lexeme} {part : TypeName} → ReadsTypeName d ts part rest → IsPlace (span_of_type_name part) (places ts) (places rest)
type_name_stands (r.type_name {x = x} {s = parts} p e q) = stars_stand (at x) q (typed_stand parts e p)

pub member_stands : {d : Dialect} {ts rest : List Lexeme} {part : StructMember} → ReadsMember d ts part rest → IsPlace (span_of_member part) (places ts) (places rest)
member_stands (r.struct_member p e q f) = begin (ends (join (specifiers_ends p) (declarators_ends q))) single

pub parameters_stand : {d : Dialect} {ts rest : List Lexeme} {parts : Parameters} → ReadsParameters d ts parts rest → IsPlace (span_of_parameters parts) (places ts) (places rest)
parameters_stand (r.empty_parameters e f) = from whole single
parameters_stand (r.void_parameters e f g) = from (later whole) single
parameters_stand (r.listed_parameters e f g p v) = from (ends (parameter_list_ends p)) single

pub declarator_stands : {d : Dialect} {ts rest : List Lexeme} {part : Declarator} → ReadsDeclarator d ts part rest → IsPlace (span_of_declarator part) (places ts) (places rest)
declarator_stands (r.object {x = x} p e f q) = lengths_stand (at x) q (begin (ends (stars_ends p)) single)
declarator_stands (r.function p e q) = upto (begin (ends (stars_ends p)) single) whole (parameters_stand q)

pub parameter_stands : {d : Dialect} {ts rest : List Lexeme} {part : Parameter} → ReadsParameter d ts part rest → IsPlace (span_of_parameter part) (places ts) (places rest)
parameter_stands (r.parameter {x = x} {s = parts} p e q f v) = lengths_stand (at x) v (upto (typed_stand parts e p) (ends (stars_ends q)) single)
parameter_stands (r.unnamed_parameter {x = x} {s = parts} p e q f v) = lengths_stand (at x) v (stars_stand (at x) q (typed_stand parts e p))

pub braced_stands : {d : Dialect} {ts rest : List Lexeme} {parts : Initializers} {span : Span} → ReadsInitializer d ts (t.Braced parts span) rest → IsPlace span (places ts) (places rest)
braced_stands (s.braced e p f) = from (ends (initializers_ends p)) single

-- ---- declarations: what is marked as a typedef name stays where it is

same_place : (x : Lexeme) (b : Bool) → at (if b then record { token = x.token; names_type = true } else x) ≡ at x
same_place x true = refl
same_place x false = refl

same_places : (name : List ℕ) (ts : List Lexeme) → places (retag name ts) ≡ places ts
unfolding retag
same_places name [] = refl
same_places name (x ∷ ts) = rw (same_place x (is_identifier_kind x.token.kind && bytes_eq x.token.text name), same_places name ts) refl

after_places : (typedef : Bool) (part : Declarator) (ts : List Lexeme) → places (s.after typedef part ts) ≡ places ts
after_places true part ts = same_places (name_of part).text ts
after_places false part ts = refl

init_declarator_ends : {d : Dialect} {typedef : Bool} {ts rest : List Lexeme} {part : InitDeclarator} → ReadsInitDeclarator d typedef ts part rest → IsEnd (places rest) (places ts)
init_declarator_ends {typedef = typedef} {ts = ts} (s.bare {mid = mid} {d = part} p e) = subst (λ all. IsEnd all (places ts)) (sym (after_places typedef part mid)) (ends (declarator_ends p))
init_declarator_ends {typedef = typedef} {rest = rest} (s.initialized {x = x} {mid = mid} {d = part} p g e q) =
    join (ends (declarator_ends p)) (subst (λ all. IsEnd (places rest) all) (ap places (sym g) ∙ after_places typedef part mid) (later {x = at x} (ends (initializer_ends q))))

init_declarators_end : {d : Dialect} {typedef : Bool} {ts rest : List Lexeme} {parts : List InitDeclarator} → ReadsInitDeclarators d typedef ts parts rest → IsEnd (places rest) (places ts)
init_declarators_end (s.no_init_declarator e) = whole
init_declarators_end (s.last_init_declarator p e) = init_declarator_ends p
init_declarators_end (s.more_init_declarators p e f q) = join (init_declarator_ends p) (later (init_declarators_end q))

pub declaration_stands : {d : Dialect} {typedef : Bool} {allowed : Specifiers → Bool} {ts rest : List Lexeme} {part : Declaration}
    → ReadsDeclaration d typedef allowed ts part rest → IsPlace (span_of_declaration part) (places ts) (places rest)
declaration_stands (s.declaration e p f q g) = begin (join (ends (specifiers_ends p)) (init_declarators_end q)) single

-- ---- statements and items

optional_ends : {d : Dialect} {stop : List ℕ} {ts rest : List Lexeme} {part : Option Expression} → ReadsOptional d stop ts part rest → IsEnd (places rest) (places ts)
optional_ends (s.no_expression e) = whole
optional_ends (s.an_expression e p) = ends (expression_ends p)

test_ends : {d : Dialect} {ts rest : List Lexeme} {part : Expression} → ReadsTest d ts part rest → IsEnd (places rest) (places ts)
test_ends (s.test e p f) = later (join (ends (expression_ends p)) (later whole))

for_start_ends : {d : Dialect} {ts rest : List Lexeme} {part : ForStart} → ReadsForStart d ts part rest → IsEnd (places rest) (places ts)
for_start_ends (s.starts_local p) = end_of (declaration_stands p)
for_start_ends (s.starts_expression e p f) = join (optional_ends p) (later whole)

mutual
  pub statement_stands : {d : Dialect} {ts rest : List Lexeme} {part : Statement} → ReadsStatement d ts part rest → IsPlace (span_of_statement part) (places ts) (places rest)
  statement_stands (s.compound p) = compound_stands p
  statement_stands (s.null e) = single
  statement_stands (s.expression_statement e f p g) = upto (stands refl p) whole single
  statement_stands (s.if_only e p q f) = from (test_ends p) (statement_stands q)
  statement_stands (s.if_else e p q f v) = from (join (test_ends p) (join (end_of (statement_stands q)) (later whole))) (statement_stands v)
  statement_stands (s.switch e p q) = from (test_ends p) (statement_stands q)
  statement_stands (s.while e p q) = from (test_ends p) (statement_stands q)
  statement_stands (s.do_while e p f q g) = from (join (end_of (statement_stands p)) (later (test_ends q))) single
  statement_stands (s.for e f p q g v w u) = from (later (join (for_start_ends p) (join (optional_ends q) (later (join (optional_ends v) (later whole)))))) (statement_stands u)
  statement_stands (s.case_label e p f q) = from (join (ends (expression_ends p)) (later whole)) (statement_stands q)
  statement_stands (s.default e f p) = from (later whole) (statement_stands p)
  statement_stands (s.label e f p) = from (later whole) (statement_stands p)
  statement_stands (s.goto e f g) = from (later whole) single
  statement_stands (s.continue e f) = from whole single
  statement_stands (s.break e f) = from whole single
  statement_stands (s.return e p f) = from (optional_ends p) single

  pub compound_stands : {d : Dialect} {span : Span} {ts rest : List Lexeme} {parts : BlockItems} → ReadsCompound d ts parts span rest → IsPlace span (places ts) (places rest)
  compound_stands (s.block e p f) = from (block_ends p) single

  block_ends : {d : Dialect} {ts rest : List Lexeme} {parts : BlockItems} → ReadsBlockItems d ts parts rest → IsEnd (places rest) (places ts)
  block_ends (s.block_end e) = whole
  block_ends (s.local e p q) = join (end_of (declaration_stands p)) (block_ends q)
  block_ends (s.statement e f p q) = join (end_of (statement_stands p)) (block_ends q)

-- a label, through its colon, and the statement after it
pub case_stands : {d : Dialect} {ts rest : List Lexeme} {a : Expression} {label span : Span} {part : Statement} → ReadsStatement d ts (t.Case a label part span) rest
    → (mid : List Lexeme) × IsPlace label (places ts) (places mid) × ReadsStatement d mid part rest
case_stands (s.case_label e p f q) = (_, from (ends (expression_ends p)) single, q)

pub default_stands : {d : Dialect} {ts rest : List Lexeme} {label span : Span} {part : Statement} → ReadsStatement d ts (t.Default label part span) rest
    → (mid : List Lexeme) × IsPlace label (places ts) (places mid) × ReadsStatement d mid part rest
default_stands (s.default e f p) = (_, from whole single, p)

pub item_stands : {d : Dialect} {ts rest : List Lexeme} {part : Item} → ReadsItem d ts part rest → IsPlace (span_of_item part) (places ts) (places rest)
item_stands (i.declared p) = declaration_stands p
item_stands (i.defined p e q f v w) = begin (join (ends (join (specifiers_ends p) (stars_ends q))) (later (end_of (parameters_stand v)))) (compound_stands w)

-- the declarator of a function, between its specifiers and its body
pub function_stands : {d : Dialect} {ts rest : List Lexeme} {words : Specifiers} {part : Declarator} {body : BlockItems} {span : Span} → ReadsItem d ts (t.Defined words part body span) rest
    → (left mid : List Lexeme) × (place : Span) × ReadsSpecifiers d false ts words left × IsPlace (span_of_declarator part) (places left) (places mid) × ReadsCompound d mid body place rest
function_stands (i.defined p e q f v w) = (_, _, _, p, upto (begin (ends (stars_ends q)) single) whole (parameters_stand v), w)
