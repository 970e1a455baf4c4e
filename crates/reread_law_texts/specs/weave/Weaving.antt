-- The steps that put brackets into the tokens of a text, found from its reading: one case for each
-- alternative of a production. Each token that is taken is copied.
--
-- Such a function is given the steps after, and puts its own before these.
use Rattle.std.specs.Prelude.{ℕ, Bool, List, [], ◌∷◌, Option}
use Rattle.mc_span.specs.declared.span.Span.{Span}
use Rattle.mc_lex.specs.declared.token.Dialect.{Dialect}
use Rattle.mc_lex.specs.Tokens.{Tok}
use Rattle.mc_tree.specs.Tree.{Expression, Expressions, TypeName, Specifiers, StructMember, Members, Enumerator, Enumerators, Declarator, Declarators, ArrayLengths, Parameters, Parameter, ParameterList, Initializer, Initializers, InitDeclarator, Declaration, ForStart, Statement, BlockItems, Item, span_of, span_of_statement}
use Rattle.mc_grammar.specs.Words.{Lexeme, lexemes_of}
use Rattle.mc_grammar.specs.Places.{at, to, end_of_expressions}
use Rattle.mc_grammar.specs.Nonterminal.{Nonterminal}
use Rattle.mc_grammar.specs.Expressions.{Reads, ReadsExpressions, ReadsTypeName, ReadsStars, ReadsSpecifiers, ReadsMembers, ReadsMember, ReadsDeclarators, ReadsEnumerators, ReadsEnumerator, ReadsDeclarator, ReadsArrayLengths, ReadsParameters, ReadsParameterList, ReadsParameter}
use Rattle.mc_grammar.specs.Expressions as r
use Rattle.mc_grammar.specs.Statements.{ReadsOptional, ReadsTest, ReadsInitializer, ReadsInitializers, ReadsInitDeclarator, ReadsInitDeclarators, ReadsDeclaration, ReadsForStart, ReadsStatement, ReadsCompound, ReadsBlockItems}
use Rattle.mc_grammar.specs.Statements as s
use Rattle.mc_grammar.specs.Items.{ReadsItem, ReadsUnit, IsTree}
use Rattle.mc_grammar.specs.Items as i
use Rattle.reread_law_texts.specs.weave.Brackets.{Brackets, Step, copy, in_parentheses, in_braces, run}

-- what makes steps of those after it
abbrev pub Steps : Type 0
Steps = List Step → List Step

abbrev pub none : Steps
none s = s

abbrev pub in_stars : {before end : Span} {ts rest : List Lexeme} {k : ℕ}
    → ReadsStars before ts k end rest → Steps
in_stars (r.star e p) s = copy ∷ in_stars p s
in_stars (r.no_star e) s = s

abbrev mutual
  -- The rest of a repetition is given the steps of the tree before it too, since a parenthesis may
  -- open before that one.
  pub in_expression : Brackets
      → {d : Dialect} {k : Nonterminal} {ts rest : List Lexeme} {a : Expression}
      → Reads d k ts a rest → Steps → Steps
  in_expression w (r.comma_one p e) left s = in_expression w p left s
  in_expression w (r.comma {a = a} {all = all} p e q) left s =
      in_parentheses w (to (span_of a) (end_of_expressions (span_of a) all))
      (λ s. in_expression w p none (copy ∷ in_expressions w q s)) s
  in_expression w (r.assign_cond p e) left s = in_expression w p left s
  in_expression w (r.assign {a = a} {b = b} p e q) left s =
      in_parentheses w (to (span_of a) (span_of b))
      (λ s. in_expression w p none (copy ∷ in_expression w q none s)) s
  in_expression w (r.cond_level p e) left s = in_expression w p left s
  in_expression w (r.cond {a = a} {c = c} p e q f v) left s =
      in_parentheses w (to (span_of a) (span_of c))
      (λ s. in_expression w p none (copy ∷ in_expression w q none
      (copy ∷ in_expression w v none s))) s
  in_expression w (r.level p q) left s = in_expression w q (in_expression w p none) s
  in_expression w (r.operation {a = a} {b = b} e p q) left s =
      in_expression w q (in_parentheses w (to (span_of a) (span_of b))
      (λ s. left (copy ∷ in_expression w p none s))) s
  in_expression w (r.operations_end e) left s = left s
  in_expression w (r.cast_unary e p) left s = in_expression w p left s
  in_expression w (r.cast {x = x} {a = a} e f p v q) left s =
      in_parentheses w (to (at x) (span_of a))
      (λ s. copy ∷ in_type_name w p (copy ∷ in_expression w q none s)) s
  in_expression w (r.unary_postfix e p) left s = in_expression w p left s
  in_expression w (r.prefix_step {x = x} {a = a} e p) left s =
      in_parentheses w (to (at x) (span_of a)) (λ s. copy ∷ in_expression w p none s) s
  in_expression w (r.unary {x = x} {a = a} e p) left s =
      in_parentheses w (to (at x) (span_of a)) (λ s. copy ∷ in_expression w p none s) s
  in_expression w (r.postfix p q) left s = in_expression w q (in_expression w p none) s
  in_expression w (r.index {y = y} {a = a} e p f q) left s =
      in_expression w q (in_parentheses w (to (span_of a) (at y))
      (λ s. left (copy ∷ in_expression w p none (copy ∷ s)))) s
  in_expression w (r.member {y = y} {a = a} e f q) left s =
      in_expression w q (in_parentheses w (to (span_of a) (at y))
      (λ s. left (copy ∷ copy ∷ s))) s
  in_expression w (r.postfix_step {x = x} {a = a} e q) left s =
      in_expression w q (in_parentheses w (to (span_of a) (at x)) (λ s. left (copy ∷ s))) s
  in_expression w (r.suffixes_end e) left s = left s
  in_expression w (r.named {x = x} e f) left s = in_parentheses w (at x) (λ s. copy ∷ s) s
  in_expression w (r.constant {x = x} e) left s = in_parentheses w (at x) (λ s. copy ∷ s) s
  in_expression w (r.character {x = x} e) left s = in_parentheses w (at x) (λ s. copy ∷ s) s
  in_expression w (r.parenthesized {x = x} {y = y} e f p v) left s =
      in_parentheses w (to (at x) (at y)) (λ s. copy ∷ in_expression w p none (copy ∷ s)) s
  in_expression w (r.call_empty {x = x} {z = z} e f v) left s =
      in_parentheses w (to (at x) (at z)) (λ s. copy ∷ copy ∷ copy ∷ s) s
  in_expression w (r.call {x = x} {z = z} e f g p v) left s =
      in_parentheses w (to (at x) (at z)) (λ s. copy ∷ copy ∷ in_expressions w p (copy ∷ s)) s

  pub in_expressions : Brackets → {d : Dialect} {ts rest : List Lexeme} {all : Expressions}
      → ReadsExpressions d ts all rest → Steps
  in_expressions w (r.last_expression p e) s = in_expression w p none s
  in_expressions w (r.more_expressions p e q) s =
      in_expression w p none (copy ∷ in_expressions w q s)

  pub in_type_name : Brackets → {d : Dialect} {ts rest : List Lexeme} {type : TypeName}
      → ReadsTypeName d ts type rest → Steps
  in_type_name w (r.type_name p e q) s = in_specifiers w p (in_stars q s)

  pub in_specifiers : Brackets
      → {d : Dialect} {has : Bool} {ts rest : List Lexeme} {all : Specifiers}
      → ReadsSpecifiers d has ts all rest → Steps
  in_specifiers w (r.specifiers_end e) s = s
  in_specifiers w (r.word e p) s = copy ∷ in_specifiers w p s
  in_specifiers w (r.typedef_name e p) s = copy ∷ in_specifiers w p s
  in_specifiers w (r.structure_tag e f g p) s = copy ∷ copy ∷ in_specifiers w p s
  in_specifiers w (r.structure e f g p v q) s =
      copy ∷ copy ∷ copy ∷ in_members w p (copy ∷ in_specifiers w q s)
  in_specifiers w (r.untagged_structure e g p v q) s =
      copy ∷ copy ∷ in_members w p (copy ∷ in_specifiers w q s)
  in_specifiers w (r.enumeration_tag e f g p) s = copy ∷ copy ∷ in_specifiers w p s
  in_specifiers w (r.enumeration e f g p v q) s =
      copy ∷ copy ∷ copy ∷ in_enumerators w p (copy ∷ in_specifiers w q s)
  in_specifiers w (r.untagged_enumeration e g p v q) s =
      copy ∷ copy ∷ in_enumerators w p (copy ∷ in_specifiers w q s)

  pub in_members : Brackets → {d : Dialect} {ts rest : List Lexeme} {all : Members}
      → ReadsMembers d ts all rest → Steps
  in_members w (r.last_member p e) s = in_member w p s
  in_members w (r.more_members p e q) s = in_member w p (in_members w q s)

  pub in_member : Brackets → {d : Dialect} {ts rest : List Lexeme} {one : StructMember}
      → ReadsMember d ts one rest → Steps
  in_member w (r.struct_member p e q f) s = in_specifiers w p (in_declarators w q (copy ∷ s))

  pub in_declarators : Brackets → {d : Dialect} {ts rest : List Lexeme} {all : Declarators}
      → ReadsDeclarators d ts all rest → Steps
  in_declarators w (r.last_declarator p e) s = in_declarator w p s
  in_declarators w (r.more_declarators p e q) s = in_declarator w p (copy ∷ in_declarators w q s)

  pub in_enumerators : Brackets → {d : Dialect} {ts rest : List Lexeme} {all : Enumerators}
      → ReadsEnumerators d ts all rest → Steps
  in_enumerators w (r.last_enumerator p e) s = in_enumerator w p s
  in_enumerators w (r.last_enumerator_comma p e f) s = in_enumerator w p (copy ∷ s)
  in_enumerators w (r.more_enumerators p e f q) s = in_enumerator w p (copy ∷ in_enumerators w q s)

  pub in_enumerator : Brackets → {d : Dialect} {ts rest : List Lexeme} {one : Enumerator}
      → ReadsEnumerator d ts one rest → Steps
  in_enumerator w (r.enumerator e f) s = copy ∷ s
  in_enumerator w (r.valued_enumerator e f p) s = copy ∷ copy ∷ in_expression w p none s

  pub in_declarator : Brackets → {d : Dialect} {ts rest : List Lexeme} {one : Declarator}
      → ReadsDeclarator d ts one rest → Steps
  in_declarator w (r.object p e f q) s = in_stars p (copy ∷ in_lengths w q s)
  in_declarator w (r.function p e q) s = in_stars p (copy ∷ in_parameters w q s)

  pub in_lengths : Brackets
      → {d : Dialect} {before end : Span} {ts rest : List Lexeme} {all : ArrayLengths}
      → ReadsArrayLengths d before ts all end rest → Steps
  in_lengths w (r.lengths_end e) s = s
  in_lengths w (r.absent_length e f p) s = copy ∷ copy ∷ in_lengths w p s
  in_lengths w (r.given_length e f p g q) s =
      copy ∷ in_expression w p none (copy ∷ in_lengths w q s)

  pub in_parameters : Brackets → {d : Dialect} {ts rest : List Lexeme} {all : Parameters}
      → ReadsParameters d ts all rest → Steps
  in_parameters w (r.empty_parameters e f) s = copy ∷ copy ∷ s
  in_parameters w (r.void_parameters e f g) s = copy ∷ copy ∷ copy ∷ s
  in_parameters w (r.listed_parameters e f g p v) s = copy ∷ in_parameter_list w p (copy ∷ s)

  pub in_parameter_list : Brackets → {d : Dialect} {ts rest : List Lexeme} {all : ParameterList}
      → ReadsParameterList d ts all rest → Steps
  in_parameter_list w (r.last_parameter p e) s = in_parameter w p s
  in_parameter_list w (r.more_parameters p e q) s =
      in_parameter w p (copy ∷ in_parameter_list w q s)

  pub in_parameter : Brackets → {d : Dialect} {ts rest : List Lexeme} {one : Parameter}
      → ReadsParameter d ts one rest → Steps
  in_parameter w (r.parameter p e q f v) s =
      in_specifiers w p (in_stars q (copy ∷ in_lengths w v s))
  in_parameter w (r.unnamed_parameter p e q f v) s =
      in_specifiers w p (in_stars q (in_lengths w v s))

-- ---- declarations

abbrev mutual
  pub in_initializer : Brackets → {d : Dialect} {ts rest : List Lexeme} {one : Initializer}
      → ReadsInitializer d ts one rest → Steps
  in_initializer w (s.single e p) after = in_expression w p none after
  in_initializer w (s.braced e p f) after = copy ∷ in_initializers w p (copy ∷ after)

  pub in_initializers : Brackets → {d : Dialect} {ts rest : List Lexeme} {all : Initializers}
      → ReadsInitializers d ts all rest → Steps
  in_initializers w (s.last_initializer p e) after = in_initializer w p after
  in_initializers w (s.last_initializer_comma p e f) after = in_initializer w p (copy ∷ after)
  in_initializers w (s.more_initializers p e f q) after =
      in_initializer w p (copy ∷ in_initializers w q after)

abbrev pub in_init_declarator : Brackets
    → {d : Dialect} {typedef : Bool} {ts rest : List Lexeme} {one : InitDeclarator}
    → ReadsInitDeclarator d typedef ts one rest → Steps
in_init_declarator w (s.bare p e) after = in_declarator w p after
in_init_declarator w (s.initialized p g e q) after =
    in_declarator w p (copy ∷ in_initializer w q after)

abbrev pub in_init_declarators : Brackets
    → {d : Dialect} {typedef : Bool} {ts rest : List Lexeme} {all : List InitDeclarator}
    → ReadsInitDeclarators d typedef ts all rest → Steps
in_init_declarators w (s.no_init_declarator e) after = after
in_init_declarators w (s.last_init_declarator p e) after = in_init_declarator w p after
in_init_declarators w (s.more_init_declarators p e f q) after =
    in_init_declarator w p (copy ∷ in_init_declarators w q after)

abbrev pub in_declaration : Brackets → {d : Dialect} {typedef : Bool} {allowed : Specifiers
    → Bool} {ts rest : List Lexeme} {one : Declaration}
    → ReadsDeclaration d typedef allowed ts one rest → Steps
in_declaration w (s.declaration e p f q g) after =
    in_specifiers w p (in_init_declarators w q (copy ∷ after))

-- ---- statements

abbrev pub in_optional : Brackets
    → {d : Dialect} {stop : List ℕ} {ts rest : List Lexeme} {a : Option Expression}
    → ReadsOptional d stop ts a rest → Steps
in_optional w (s.no_expression e) after = after
in_optional w (s.an_expression e p) after = in_expression w p none after

abbrev pub in_test : Brackets → {d : Dialect} {ts rest : List Lexeme} {a : Expression}
    → ReadsTest d ts a rest → Steps
in_test w (s.test e p f) after = copy ∷ in_expression w p none (copy ∷ after)

abbrev pub in_for_start : Brackets → {d : Dialect} {ts rest : List Lexeme} {start : ForStart}
    → ReadsForStart d ts start rest → Steps
in_for_start w (s.starts_local p) after = in_declaration w p after
in_for_start w (s.starts_expression e p f) after = in_optional w p (copy ∷ after)

abbrev mutual
  pub in_statement : Brackets → {d : Dialect} {ts rest : List Lexeme} {one : Statement}
      → ReadsStatement d ts one rest → Steps
  in_statement w (s.compound p) after = in_compound w p after
  in_statement w (s.null {y = y} e) after = in_braces w (at y) (λ z. copy ∷ z) after
  in_statement w (s.expression_statement {y = y} {a = a} e f p g) after =
      in_braces w (to (span_of a) (at y)) (λ z. in_expression w p none (copy ∷ z)) after
  in_statement w (s.if_only {x = x} {s = one} e p q f) after =
      in_braces w (to (at x) (span_of_statement one))
      (λ z. copy ∷ in_test w p (in_statement w q z)) after
  in_statement w (s.if_else {x = x} {u = other} e p q f v) after =
      in_braces w (to (at x) (span_of_statement other))
      (λ z. copy ∷ in_test w p (in_statement w q (copy ∷ in_statement w v z))) after
  in_statement w (s.switch {x = x} {s = one} e p q) after =
      in_braces w (to (at x) (span_of_statement one))
      (λ z. copy ∷ in_test w p (in_statement w q z)) after
  in_statement w (s.while {x = x} {s = one} e p q) after =
      in_braces w (to (at x) (span_of_statement one))
      (λ z. copy ∷ in_test w p (in_statement w q z)) after
  in_statement w (s.do_while {x = x} {z = end} e p f q g) after =
      in_braces w (to (at x) (at end))
      (λ z. copy ∷ in_statement w p (copy ∷ in_test w q (copy ∷ z))) after
  in_statement w (s.for {x = x} {s = one} e f p q g v k u) after =
      in_braces w (to (at x) (span_of_statement one))
      (λ z. copy ∷ copy ∷ in_for_start w p (in_optional w q
      (copy ∷ in_optional w v (copy ∷ in_statement w u z)))) after
  in_statement w (s.case_label e p f q) after =
      copy ∷ in_expression w p none (copy ∷ in_statement w q after)
  in_statement w (s.default e f p) after = copy ∷ copy ∷ in_statement w p after
  in_statement w (s.label e f p) after = copy ∷ copy ∷ in_statement w p after
  in_statement w (s.goto {x = x} {z = end} e f g) after =
      in_braces w (to (at x) (at end)) (λ z. copy ∷ copy ∷ copy ∷ z) after
  in_statement w (s.continue {x = x} {y = y} e f) after =
      in_braces w (to (at x) (at y)) (λ z. copy ∷ copy ∷ z) after
  in_statement w (s.break {x = x} {y = y} e f) after =
      in_braces w (to (at x) (at y)) (λ z. copy ∷ copy ∷ z) after
  in_statement w (s.return {x = x} {y = y} e p f) after =
      in_braces w (to (at x) (at y)) (λ z. copy ∷ in_optional w p (copy ∷ z)) after

  pub in_compound : Brackets → {d : Dialect} {ts rest : List Lexeme} {b : BlockItems} {span : Span}
      → ReadsCompound d ts b span rest → Steps
  in_compound w (s.block e p f) after = copy ∷ in_block_items w p (copy ∷ after)

  pub in_block_items : Brackets → {d : Dialect} {ts rest : List Lexeme} {b : BlockItems}
      → ReadsBlockItems d ts b rest → Steps
  in_block_items w (s.block_end e) after = after
  in_block_items w (s.local e p q) after = in_declaration w p (in_block_items w q after)
  in_block_items w (s.statement e f p q) after = in_statement w p (in_block_items w q after)

-- ---- items

abbrev pub in_item : Brackets → {d : Dialect} {ts rest : List Lexeme} {one : Item}
    → ReadsItem d ts one rest → Steps
in_item w (i.declared p) s = in_declaration w p s
in_item w (i.defined p e q f v u) s =
    in_specifiers w p (in_stars q (copy ∷ in_parameters w v (in_compound w u s)))

abbrev pub in_unit : Brackets → {d : Dialect} {ts : List Lexeme} {unit : List Item}
    → ReadsUnit d ts unit → List Step
in_unit w i.no_items = []
in_unit w (i.item p q) = in_item w p (in_unit w q)

-- ---- whole texts

-- the tokens of a text with brackets
abbrev pub woven : Brackets → (tokens : List Tok) {d : Dialect} {unit : List Item}
    → IsTree d tokens unit → List Lexeme
woven w tokens p = run (in_unit w p) (lexemes_of tokens)
