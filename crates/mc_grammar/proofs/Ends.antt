-- What is left is an end of what was given.
use Rattle.std.proofs.Common.{◌||◌, sym, ◌∙◌, ◌≡◌, ℕ, Bool, true, false, List, ◌∷◌, refl, ap}
use Rattle.std.specs.List.{list_any}
use Rattle.mc_tree.specs.Tree as t
use Rattle.mc_grammar.specs.Meaning.{is_name_of}
use Rattle.mc_grammar.proofs.Choices.{no_name_follows}
use Rattle.mc_lex.specs.declared.token.Dialect.{Dialect}
use Rattle.mc_span.specs.declared.span.Span.{Span}
use Rattle.mc_tree.specs.Tree.{Expression, Expressions, TypeName, Specifiers, StructMember, Members, Enumerator, Enumerators, Declarator, Declarators, ArrayLengths, Parameters, Parameter, ParameterList, Initializer, Initializers, InitDeclarator, Declaration, ForStart, Statement, BlockItems, Item, name_of}
use Rattle.mc_grammar.specs.Words.{Lexeme}
use Rattle.mc_grammar.specs.Nonterminal.{Nonterminal}
use Rattle.mc_grammar.specs.Expressions.{Reads, ReadsExpressions, ReadsTypeName, ReadsStars, ReadsSpecifiers, ReadsMembers, ReadsMember, ReadsDeclarators, ReadsEnumerators, ReadsEnumerator, ReadsDeclarator, ReadsArrayLengths, ReadsParameters, ReadsParameterList, ReadsParameter}
use Rattle.mc_grammar.specs.Expressions as r
use Rattle.mc_grammar.specs.Statements.{ReadsOptional, ReadsTest, ReadsInitializer, ReadsInitializers, ReadsInitDeclarator, ReadsInitDeclarators, ReadsDeclaration, ReadsForStart, ReadsStatement, ReadsCompound, ReadsBlockItems, after}
use Rattle.mc_grammar.specs.Statements as s

-- the first is an end of the second
pub data IsEnd {A : Type 0} : List A → List A → Type 0 where
  whole : {ts : List A} → IsEnd ts ts
  later : {x : A} {rest ts : List A} → IsEnd rest ts → IsEnd rest (x ∷ ts)

pub join : {A : Type 0} {ts mid rest : List A} → IsEnd mid ts → IsEnd rest mid → IsEnd rest ts
join whole q = q
join (later p) q = later (join p q)

pub or_right : (a b : Bool) → (a || b) ≡ false → b ≡ false
or_right a false e = refl
or_right true true e = e
or_right false true e = e

-- what no token is, none of an end is
pub none_of_end : (test : Lexeme → Bool) {ts rest : List Lexeme} → IsEnd rest ts → list_any test ts ≡ false → list_any test rest ≡ false
none_of_end test whole e = e
none_of_end test (later {x = x} {ts = ts} p) e = none_of_end test p (or_right (test x) (list_any test ts) e)

pub stars_ends : {before end : Span} {ts rest : List Lexeme} {k : ℕ} → ReadsStars before ts k end rest → IsEnd rest ts
stars_ends (r.star p0 p1) = later (join (stars_ends p1) (whole))
stars_ends (r.no_star p0) = whole

mutual
  pub expression_ends : {d : Dialect} {m : Nonterminal} {ts rest : List Lexeme} {a : Expression} → Reads d m ts a rest → IsEnd rest ts
  expression_ends (r.comma_one p0 p1) = join (expression_ends p0) (whole)
  expression_ends (r.comma p0 p1 p2) = join (expression_ends p0) (later (join (expressions_ends p2) (whole)))
  expression_ends (r.assign_cond p0 p1) = join (expression_ends p0) (whole)
  expression_ends (r.assign p0 p1 p2) = join (expression_ends p0) (later (join (expression_ends p2) (whole)))
  expression_ends (r.cond_level p0 p1) = join (expression_ends p0) (whole)
  expression_ends (r.cond p0 p1 p2 p3 p4) = join (expression_ends p0) (later (join (expression_ends p2) (later (join (expression_ends p4) (whole)))))
  expression_ends (r.level p0 p1) = join (expression_ends p0) (join (expression_ends p1) (whole))
  expression_ends (r.operation p0 p1 p2) = later (join (expression_ends p1) (join (expression_ends p2) (whole)))
  expression_ends (r.operations_end p0) = whole
  expression_ends (r.cast_unary p0 p1) = join (expression_ends p1) (whole)
  expression_ends (r.cast p0 p1 p2 p3 p4) = later (join (type_name_ends p2) (later (join (expression_ends p4) (whole))))
  expression_ends (r.unary_postfix p0 p1) = join (expression_ends p1) (whole)
  expression_ends (r.prefix_step p0 p1) = later (join (expression_ends p1) (whole))
  expression_ends (r.unary p0 p1) = later (join (expression_ends p1) (whole))
  expression_ends (r.postfix p0 p1) = join (expression_ends p0) (join (expression_ends p1) (whole))
  expression_ends (r.index p0 p1 p2 p3) = later (join (expression_ends p1) (later (join (expression_ends p3) (whole))))
  expression_ends (r.member p0 p1 p2) = later (later (join (expression_ends p2) (whole)))
  expression_ends (r.postfix_step p0 p1) = later (join (expression_ends p1) (whole))
  expression_ends (r.suffixes_end p0) = whole
  expression_ends (r.named p0 p1) = later (whole)
  expression_ends (r.constant p0) = later (whole)
  expression_ends (r.character p0) = later (whole)
  expression_ends (r.parenthesized p0 p1 p2 p3) = later (join (expression_ends p2) (later (whole)))
  expression_ends (r.call_empty p0 p1 p2) = later (later (later (whole)))
  expression_ends (r.call p0 p1 p2 p3 p4) = later (later (join (expressions_ends p3) (later (whole))))

  pub expressions_ends : {d : Dialect} {ts rest : List Lexeme} {all : Expressions} → ReadsExpressions d ts all rest → IsEnd rest ts
  expressions_ends (r.last_expression p0 p1) = join (expression_ends p0) (whole)
  expressions_ends (r.more_expressions p0 p1 p2) = join (expression_ends p0) (later (join (expressions_ends p2) (whole)))

  pub type_name_ends : {d : Dialect} {ts rest : List Lexeme} {type : TypeName} → ReadsTypeName d ts type rest → IsEnd rest ts
  type_name_ends (r.type_name p0 p1 p2) = join (specifiers_ends p0) (join (stars_ends p2) (whole))

  pub specifiers_ends : {d : Dialect} {has : Bool} {ts rest : List Lexeme} {all : Specifiers} → ReadsSpecifiers d has ts all rest → IsEnd rest ts
  specifiers_ends (r.specifiers_end p0) = whole
  specifiers_ends (r.word p0 p1) = later (join (specifiers_ends p1) (whole))
  specifiers_ends (r.typedef_name p0 p1) = later (join (specifiers_ends p1) (whole))
  specifiers_ends (r.structure_tag p0 p1 p2 p3) = later (later (join (specifiers_ends p3) (whole)))
  specifiers_ends (r.structure p0 p1 p2 p3 p4 p5) = later (later (later (join (members_ends p3) (later (join (specifiers_ends p5) (whole))))))
  specifiers_ends (r.untagged_structure p0 p1 p2 p3 p4) = later (later (join (members_ends p2) (later (join (specifiers_ends p4) (whole)))))
  specifiers_ends (r.enumeration_tag p0 p1 p2 p3) = later (later (join (specifiers_ends p3) (whole)))
  specifiers_ends (r.enumeration p0 p1 p2 p3 p4 p5) = later (later (later (join (enumerators_ends p3) (later (join (specifiers_ends p5) (whole))))))
  specifiers_ends (r.untagged_enumeration p0 p1 p2 p3 p4) = later (later (join (enumerators_ends p2) (later (join (specifiers_ends p4) (whole)))))

  pub members_ends : {d : Dialect} {ts rest : List Lexeme} {all : Members} → ReadsMembers d ts all rest → IsEnd rest ts
  members_ends (r.last_member p0 p1) = join (member_ends p0) (whole)
  members_ends (r.more_members p0 p1 p2) = join (member_ends p0) (join (members_ends p2) (whole))

  pub member_ends : {d : Dialect} {ts rest : List Lexeme} {one : StructMember} → ReadsMember d ts one rest → IsEnd rest ts
  member_ends (r.struct_member p0 p1 p2 p3) = join (specifiers_ends p0) (join (declarators_ends p2) (later (whole)))

  pub declarators_ends : {d : Dialect} {ts rest : List Lexeme} {all : Declarators} → ReadsDeclarators d ts all rest → IsEnd rest ts
  declarators_ends (r.last_declarator p0 p1) = join (declarator_ends p0) (whole)
  declarators_ends (r.more_declarators p0 p1 p2) = join (declarator_ends p0) (later (join (declarators_ends p2) (whole)))

  pub enumerators_ends : {d : Dialect} {ts rest : List Lexeme} {all : Enumerators} → ReadsEnumerators d ts all rest → IsEnd rest ts
  enumerators_ends (r.last_enumerator p0 p1) = join (enumerator_ends p0) (whole)
  enumerators_ends (r.last_enumerator_comma p0 p1 p2) = join (enumerator_ends p0) (later (whole))
  enumerators_ends (r.more_enumerators p0 p1 p2 p3) = join (enumerator_ends p0) (later (join (enumerators_ends p3) (whole)))

  pub enumerator_ends : {d : Dialect} {ts rest : List Lexeme} {one : Enumerator} → ReadsEnumerator d ts one rest → IsEnd rest ts
  enumerator_ends (r.enumerator p0 p1) = later (whole)
  enumerator_ends (r.valued_enumerator p0 p1 p2) = later (later (join (expression_ends p2) (whole)))

  pub declarator_ends : {d : Dialect} {ts rest : List Lexeme} {one : Declarator} → ReadsDeclarator d ts one rest → IsEnd rest ts
  declarator_ends (r.object p0 p1 p2 p3) = join (stars_ends p0) (later (join (lengths_ends p3) (whole)))
  declarator_ends (r.function p0 p1 p2) = join (stars_ends p0) (later (join (parameters_ends p2) (whole)))

  pub lengths_ends : {d : Dialect} {before end : Span} {ts rest : List Lexeme} {all : ArrayLengths} → ReadsArrayLengths d before ts all end rest → IsEnd rest ts
  lengths_ends (r.lengths_end p0) = whole
  lengths_ends (r.absent_length p0 p1 p2) = later (later (join (lengths_ends p2) (whole)))
  lengths_ends (r.given_length p0 p1 p2 p3 p4) = later (join (expression_ends p2) (later (join (lengths_ends p4) (whole))))

  pub parameters_ends : {d : Dialect} {ts rest : List Lexeme} {all : Parameters} → ReadsParameters d ts all rest → IsEnd rest ts
  parameters_ends (r.empty_parameters p0 p1) = later (later (whole))
  parameters_ends (r.void_parameters p0 p1 p2) = later (later (later (whole)))
  parameters_ends (r.listed_parameters p0 p1 p2 p3 p4) = later (join (parameter_list_ends p3) (later (whole)))

  pub parameter_list_ends : {d : Dialect} {ts rest : List Lexeme} {all : ParameterList} → ReadsParameterList d ts all rest → IsEnd rest ts
  parameter_list_ends (r.last_parameter p0 p1) = join (parameter_ends p0) (whole)
  parameter_list_ends (r.more_parameters p0 p1 p2) = join (parameter_ends p0) (later (join (parameter_list_ends p2) (whole)))

  pub parameter_ends : {d : Dialect} {ts rest : List Lexeme} {one : Parameter} → ReadsParameter d ts one rest → IsEnd rest ts
  parameter_ends (r.parameter p0 p1 p2 p3 p4) = join (specifiers_ends p0) (join (stars_ends p2) (later (join (lengths_ends p4) (whole))))
  parameter_ends (r.unnamed_parameter p0 p1 p2 p3 p4) = join (specifiers_ends p0) (join (stars_ends p2) (join (lengths_ends p4) (whole)))

mutual
  pub initializer_ends : {d : Dialect} {ts rest : List Lexeme} {one : Initializer} → ReadsInitializer d ts one rest → IsEnd rest ts
  initializer_ends (s.single p0 p1) = join (expression_ends p1) (whole)
  initializer_ends (s.braced p0 p1 p2) = later (join (initializers_ends p1) (later (whole)))

  pub initializers_ends : {d : Dialect} {ts rest : List Lexeme} {all : Initializers} → ReadsInitializers d ts all rest → IsEnd rest ts
  initializers_ends (s.last_initializer p0 p1) = join (initializer_ends p0) (whole)
  initializers_ends (s.last_initializer_comma p0 p1 p2) = join (initializer_ends p0) (later (whole))
  initializers_ends (s.more_initializers p0 p1 p2 p3) = join (initializer_ends p0) (later (join (initializers_ends p3) (whole)))

-- after a typedef's declarator and its value its name is no identifier
pub valued_typedef_retags : {d : Dialect} {ts rest : List Lexeme} {one : Declarator} {value : Initializer} → ReadsInitDeclarator d true ts (t.initialized one value) rest
    → list_any (is_name_of (name_of one).text) rest ≡ false
valued_typedef_retags (s.initialized {x = x} {mid = mid} {d = one} p g e q) =
    none_of_end (is_name_of (name_of one).text) (later {x = x} (initializer_ends q)) (ap (list_any (is_name_of (name_of one).text)) (sym g) ∙ no_name_follows (name_of one).text mid)
