-- The grammar of expressions, specifiers and declarators: one case for each alternative of a
-- production. They are one family, since a cast holds specifiers, and the length of an array is an
-- expression.
--
-- A nonterminal reads the front of a list of tokens as a tree, and leaves the rest. A repetition
-- goes on, and an optional part is there, exactly where the next token can begin it.
--
-- `dialect` is the dialect of the text. The productions are the same in both: the words of probes
-- are taken out of an instrumented text before it is read by them. The dialect decides alone how
-- high a tree may be (`greatest_height`).
use Rattle.std.specs.Prelude.{◌≡◌, ℕ, zero, suc, Bool, true, false, ◌&&◌, ◌||◌, List, ◌∷◌, Some, None, codes}
use Rattle.mc_lex.specs.declared.token.Dialect.{Dialect}
use Rattle.mc_lex.specs.declared.token.TokenKind.TheVariants as kind
use Rattle.mc_tree.specs.declared.expressions.unary_operator.UnaryOperator.{UnaryOperator}
use Rattle.mc_tree.specs.declared.expressions.step_operator.StepOperator.{StepOperator}
use Rattle.mc_tree.specs.declared.expressions.binary_operator.BinaryOperator.{BinaryOperator}
use Rattle.mc_tree.specs.declared.expressions.assignment_operator.AssignmentOperator.{AssignmentOperator}
use Rattle.mc_tree.specs.declared.declarations.specifier_word.SpecifierWord.{SpecifierWord}
use Rattle.mc_tree.specs.Tree.{Name, Expression, Expressions, TypeName, Specifier, Specifiers, StructMember, Members, Enumerator, Enumerators, Declarator, Declarators, ArrayLengths, Parameters, Parameter, ParameterList, span_of, span_of_parameters}
use Rattle.mc_tree.specs.Tree as tree
use Rattle.mc_grammar.specs.Words.{Lexeme, is_punctuator, is_keyword, is_name, is_type_name, is_tag, next_is, sees, sees_specifiers, sees_cast, sees_void_alone, go_on}
use Rattle.mc_span.specs.declared.span.Span.{Span}
use Rattle.mc_grammar.specs.Places.{at, name_at, to, end_of_expressions, end_of_specifiers}
use Rattle.mc_grammar.specs.Operators.{IsUnary, IsStep, operator_at, operator_next, assignment_at, sees_assignment, is_suffix, is_prefix, IsSpecifierWord, is_type_word}
use Rattle.mc_grammar.specs.Counts.{for_type}
use Rattle.mc_grammar.specs.Nonterminal.{Nonterminal, Level, operand}
use Rattle.mc_grammar.specs.Nonterminal as nonterminal

-- The tree of a `unary`: every expression but a cast and those whose operator stands between
-- operands.
abbrev pub is_unary : Expression → Bool
is_unary (tree.Cast type operand span) = false
is_unary (tree.Binary operator left right span) = false
is_unary (tree.Conditional test chosen other span) = false
is_unary (tree.Assignment operator left right span) = false
is_unary (tree.Comma operands span) = false
is_unary _ = true

-- { "*" }, after a token at this place; the place of the last token read                C17 6.7.6.1
pub data ReadsStars : Span → List Lexeme → ℕ → Span → List Lexeme → Type 0 where
  star : {before end : Span} {x : Lexeme} {ts rest : List Lexeme} {stars : ℕ}
      → is_punctuator (codes "*") x ≡ true → ReadsStars (at x) ts stars end rest
      → ReadsStars before (x ∷ ts) (suc stars) end rest
  no_star : {before : Span} {ts : List Lexeme}
      → sees (codes "*") ts ≡ false
      → ReadsStars before ts zero before ts

mutual
  pub data Reads (dialect : Dialect) : Nonterminal → List Lexeme → Expression → List Lexeme
      → Type 0 where
    -- comma = assign { "," assign }                                                     C17 6.5.17
    comma_one : {ts rest : List Lexeme} {a : Expression}
        → Reads dialect nonterminal.assign ts a rest → sees (codes ",") rest ≡ false
        → Reads dialect nonterminal.comma ts a rest
    comma : {x : Lexeme} {ts mid rest : List Lexeme} {a : Expression} {all : Expressions}
        → Reads dialect nonterminal.assign ts a (x ∷ mid) → is_punctuator (codes ",") x ≡ true
        → ReadsExpressions dialect mid all rest
        → Reads dialect nonterminal.comma ts
        (tree.Comma (tree.expressions a all)
        (to (span_of a) (end_of_expressions (span_of a) all))) rest
    -- assign = cond | unary assignop assign                                             C17 6.5.16
    -- An assignment exactly where a `unary` can be read whose rest begins with an assignment
    -- operator.
    assign_cond : {ts rest : List Lexeme} {a : Expression}
        → Reads dialect nonterminal.cond ts a rest → (sees_assignment rest && is_unary a) ≡ false
        → Reads dialect nonterminal.assign ts a rest
    assign : {x : Lexeme} {ts mid rest : List Lexeme} {operator : AssignmentOperator}
        {a b : Expression}
        → Reads dialect nonterminal.unary ts a (x ∷ mid) → assignment_at x ≡ Some operator
        → Reads dialect nonterminal.assign mid b rest
        → Reads dialect nonterminal.assign ts
        (tree.Assignment operator a b (to (span_of a) (span_of b))) rest
    -- cond = lor [ "?" comma ":" cond ]                                                 C17 6.5.15
    cond_level : {ts rest : List Lexeme} {a : Expression}
        → Reads dialect (nonterminal.level nonterminal.lor) ts a rest → sees (codes "?") rest
        ≡ false
        → Reads dialect nonterminal.cond ts a rest
    cond : {x y : Lexeme} {ts mid other rest : List Lexeme} {a b c : Expression}
        → Reads dialect (nonterminal.level nonterminal.lor) ts a (x ∷ mid)
        → is_punctuator (codes "?") x ≡ true
        → Reads dialect nonterminal.comma mid b (y ∷ other) → is_punctuator (codes ":") y ≡ true
        → Reads dialect nonterminal.cond other c rest
        → Reads dialect nonterminal.cond ts (tree.Conditional a b c (to (span_of a) (span_of c)))
        rest
    -- lor = land { "||" land }, and so on down to  product = cast { ("*" | "/" | "%") cast }, each
    -- from the left; the operators of each level stand in `operator_at`        C17 6.5.5 to 6.5.14
    level : {k : Level} {ts mid rest : List Lexeme} {a b : Expression}
        → Reads dialect (operand k) ts a mid → Reads dialect (nonterminal.operations k a) mid b rest
        → Reads dialect (nonterminal.level k) ts b rest
    operation : {k : Level} {x : Lexeme} {ts mid rest : List Lexeme} {operator : BinaryOperator}
        {a b c : Expression}
        → operator_at k x ≡ Some operator → Reads dialect (operand k) ts b mid
        → Reads dialect (nonterminal.operations k
        (tree.Binary operator a b (to (span_of a) (span_of b)))) mid c
        rest
        → Reads dialect (nonterminal.operations k a) (x ∷ ts) c rest
    operations_end : {k : Level} {ts : List Lexeme} {a : Expression}
        → operator_next k ts ≡ None
        → Reads dialect (nonterminal.operations k a) ts a ts
    -- cast = unary | "(" typename ")" cast                                              C17 6.5.4
    -- A `(` before a specifier word or a typedef name begins a cast; another `(` begins a
    -- `primary`.
    cast_unary : {ts rest : List Lexeme} {a : Expression}
        → sees_cast ts ≡ false → Reads dialect nonterminal.unary ts a rest
        → Reads dialect nonterminal.cast ts a rest
    cast : {x y : Lexeme} {ts mid rest : List Lexeme} {type : TypeName} {a : Expression}
        → is_punctuator (codes "(") x ≡ true → sees_specifiers ts ≡ true
        → ReadsTypeName dialect ts type (y ∷ mid) → is_punctuator (codes ")") y ≡ true
        → Reads dialect nonterminal.cast mid a rest
        → Reads dialect nonterminal.cast (x ∷ ts) (tree.Cast type a (to (at x) (span_of a))) rest
    -- unary = postfix | ( "++" | "--" ) unary
    --       | ( "+" | "-" | "~" | "!" | "*" | "&" ) cast                                C17 6.5.3
    unary_postfix : {ts rest : List Lexeme} {a : Expression}
        → next_is is_prefix ts ≡ false → Reads dialect nonterminal.postfix ts a rest
        → Reads dialect nonterminal.unary ts a rest
    prefix_step : {x : Lexeme} {ts rest : List Lexeme} {operator : StepOperator} {a : Expression}
        → IsStep x operator → Reads dialect nonterminal.unary ts a rest
        → Reads dialect nonterminal.unary (x ∷ ts)
        (tree.PrefixStep operator a (to (at x) (span_of a))) rest
    unary : {x : Lexeme} {ts rest : List Lexeme} {operator : UnaryOperator} {a : Expression}
        → IsUnary x operator → Reads dialect nonterminal.cast ts a rest
        → Reads dialect nonterminal.unary (x ∷ ts) (tree.Unary operator a (to (at x) (span_of a)))
        rest
    -- postfix = primary { "[" comma "]" | "." identifier | "++" | "--" }                C17 6.5.2
    postfix : {ts mid rest : List Lexeme} {a b : Expression}
        → Reads dialect nonterminal.primary ts a mid
        → Reads dialect (nonterminal.suffixes a) mid b rest
        → Reads dialect nonterminal.postfix ts b rest
    index : {x y : Lexeme} {ts mid rest : List Lexeme} {a b c : Expression}
        → is_punctuator (codes "[") x ≡ true → Reads dialect nonterminal.comma ts b (y ∷ mid)
        → is_punctuator (codes "]") y ≡ true
        → Reads dialect (nonterminal.suffixes (tree.Index a b (to (span_of a) (at y)))) mid c rest
        → Reads dialect (nonterminal.suffixes a) (x ∷ ts) c rest
    member : {x y : Lexeme} {ts rest : List Lexeme} {a b : Expression}
        → is_punctuator (codes ".") x ≡ true → is_name y ≡ true
        → Reads dialect (nonterminal.suffixes (tree.Member a (name_at y) (to (span_of a) (at y))))
        ts b rest
        → Reads dialect (nonterminal.suffixes a) (x ∷ y ∷ ts) b rest
    postfix_step : {x : Lexeme} {ts rest : List Lexeme} {operator : StepOperator} {a b : Expression}
        → IsStep x operator
        → Reads dialect (nonterminal.suffixes
        (tree.PostfixStep operator a (to (span_of a) (at x)))) ts b rest
        → Reads dialect (nonterminal.suffixes a) (x ∷ ts) b rest
    suffixes_end : {ts : List Lexeme} {a : Expression}
        → next_is is_suffix ts ≡ false
        → Reads dialect (nonterminal.suffixes a) ts a ts
    -- primary = identifier | constant | character | "(" comma ")"                       C17 6.5.1
    --         | identifier "(" [ assign { "," assign } ] ")"                            C17 6.5.2.2
    -- An identifier before `(` begins a call.
    named : {x : Lexeme} {ts : List Lexeme}
        → is_name x ≡ true → sees (codes "(") ts ≡ false
        → Reads dialect nonterminal.primary (x ∷ ts) (tree.Named (name_at x)) ts
    constant : {x : Lexeme} {ts : List Lexeme} {value : ℕ} {decimal unsigned : Bool} {longs : ℕ}
        → x.token.kind ≡ kind.Constant value decimal unsigned longs
        → Reads dialect nonterminal.primary (x ∷ ts)
        (tree.Constant value decimal unsigned longs (at x)) ts
    character : {x : Lexeme} {ts : List Lexeme} {value : _}
        → x.token.kind ≡ kind.Character value
        → Reads dialect nonterminal.primary (x ∷ ts) (tree.Character value (at x)) ts
    parenthesized : {x y : Lexeme} {ts rest : List Lexeme} {a : Expression}
        → is_punctuator (codes "(") x ≡ true → sees_specifiers ts ≡ false
        → Reads dialect nonterminal.comma ts a (y ∷ rest) → is_punctuator (codes ")") y ≡ true
        → Reads dialect nonterminal.primary (x ∷ ts) (tree.Parenthesized a (to (at x) (at y))) rest
    call_empty : {x y z : Lexeme} {rest : List Lexeme}
        → is_name x ≡ true → is_punctuator (codes "(") y ≡ true → is_punctuator (codes ")") z ≡ true
        → Reads dialect nonterminal.primary (x ∷ y ∷ z ∷ rest)
        (tree.Call (name_at x) tree.no_expressions (to (at x) (at z))) rest
    call : {x y z : Lexeme} {ts rest : List Lexeme} {all : Expressions}
        → is_name x ≡ true → is_punctuator (codes "(") y ≡ true → sees (codes ")") ts ≡ false
        → ReadsExpressions dialect ts all (z ∷ rest) → is_punctuator (codes ")") z ≡ true
        → Reads dialect nonterminal.primary (x ∷ y ∷ ts)
        (tree.Call (name_at x) all (to (at x) (at z))) rest

  -- assign { "," assign }                                                         C17 6.5.2, 6.5.17
  pub data ReadsExpressions (dialect : Dialect) : List Lexeme → Expressions → List Lexeme
      → Type 0 where
    last_expression : {ts rest : List Lexeme} {a : Expression}
        → Reads dialect nonterminal.assign ts a rest → sees (codes ",") rest ≡ false
        → ReadsExpressions dialect ts (tree.expressions a tree.no_expressions) rest
    more_expressions : {x : Lexeme} {ts mid rest : List Lexeme} {a : Expression} {all : Expressions}
        → Reads dialect nonterminal.assign ts a (x ∷ mid) → is_punctuator (codes ",") x ≡ true
        → ReadsExpressions dialect mid all rest
        → ReadsExpressions dialect ts (tree.expressions a all) rest

  -- typename = specifiers { "*" }                                                       C17 6.7.7
  pub data ReadsTypeName (dialect : Dialect) : List Lexeme → TypeName → List Lexeme → Type 0 where
    type_name : {x : Lexeme} {end : Span} {ts mid rest : List Lexeme} {s : Specifiers} {stars : ℕ}
        → ReadsSpecifiers dialect false (x ∷ ts) s mid → for_type s ≡ true
        → ReadsStars (end_of_specifiers (at x) s) mid stars end rest
        → ReadsTypeName dialect (x ∷ ts) (tree.type_name s stars (to (at x) end)) rest

  -- specifiers: words in any order; whether there is a type among the words before
  --                                                                          C17 6.7.1 to 6.7.3
  -- Which of them may stand together is counted at their end, in `for_item` and its like.
  pub data ReadsSpecifiers (dialect : Dialect) : Bool → List Lexeme → Specifiers → List Lexeme
      → Type 0 where
    specifiers_end : {has_type : Bool} {ts : List Lexeme}
        → go_on has_type ts ≡ false
        → ReadsSpecifiers dialect has_type ts tree.no_specifiers ts
    word : {has_type : Bool} {x : Lexeme} {ts rest : List Lexeme} {w : SpecifierWord}
        {s : Specifiers}
        → IsSpecifierWord x w → ReadsSpecifiers dialect (has_type || is_type_word w) ts s rest
        → ReadsSpecifiers dialect has_type (x ∷ ts) (tree.specifiers (tree.Word w (at x)) s) rest
    -- A typedef name is read exactly where there is no type yet.                        C17 6.7.8
    typedef_name : {x : Lexeme} {ts rest : List Lexeme} {s : Specifiers}
        → is_type_name x ≡ true → ReadsSpecifiers dialect true ts s rest
        → ReadsSpecifiers dialect false (x ∷ ts)
        (tree.specifiers (tree.TypedefName (name_at x)) s) rest
    -- struct = "struct" ( tag [ members ] | members )                                   C17 6.7.2.1
    structure_tag : {has_type : Bool} {x y : Lexeme} {ts rest : List Lexeme} {s : Specifiers}
        → is_keyword (codes "struct") x ≡ true → is_tag y ≡ true → sees (codes "{") ts ≡ false
        → ReadsSpecifiers dialect true ts s rest
        → ReadsSpecifiers dialect has_type (x ∷ y ∷ ts)
        (tree.specifiers (tree.StructureTag (name_at y) (to (at x) (at y))) s) rest
    structure : {has_type : Bool} {x y z v : Lexeme} {ts mid rest : List Lexeme} {ms : Members}
        {s : Specifiers}
        → is_keyword (codes "struct") x ≡ true → is_tag y ≡ true
        → is_punctuator (codes "{") z ≡ true → ReadsMembers dialect ts ms (v ∷ mid)
        → is_punctuator (codes "}") v ≡ true → ReadsSpecifiers dialect true mid s rest
        → ReadsSpecifiers dialect has_type (x ∷ y ∷ z ∷ ts)
        (tree.specifiers (tree.Structure (Some (name_at y)) ms (to (at x) (at v))) s) rest
    untagged_structure : {has_type : Bool} {x z v : Lexeme} {ts mid rest : List Lexeme}
        {ms : Members} {s : Specifiers}
        → is_keyword (codes "struct") x ≡ true → is_punctuator (codes "{") z ≡ true
        → ReadsMembers dialect ts ms (v ∷ mid) → is_punctuator (codes "}") v ≡ true
        → ReadsSpecifiers dialect true mid s rest
        → ReadsSpecifiers dialect has_type (x ∷ z ∷ ts)
        (tree.specifiers (tree.Structure None ms (to (at x) (at v))) s) rest
    -- enum = "enum" ( tag [ list ] | list )                                             C17 6.7.2.2
    enumeration_tag : {has_type : Bool} {x y : Lexeme} {ts rest : List Lexeme} {s : Specifiers}
        → is_keyword (codes "enum") x ≡ true → is_tag y ≡ true → sees (codes "{") ts ≡ false
        → ReadsSpecifiers dialect true ts s rest
        → ReadsSpecifiers dialect has_type (x ∷ y ∷ ts)
        (tree.specifiers (tree.EnumerationTag (name_at y) (to (at x) (at y))) s) rest
    enumeration : {has_type : Bool} {x y z v : Lexeme} {ts mid rest : List Lexeme}
        {es : Enumerators} {s : Specifiers}
        → is_keyword (codes "enum") x ≡ true → is_tag y ≡ true → is_punctuator (codes "{") z ≡ true
        → ReadsEnumerators dialect ts es (v ∷ mid) → is_punctuator (codes "}") v ≡ true
        → ReadsSpecifiers dialect true mid s rest
        → ReadsSpecifiers dialect has_type (x ∷ y ∷ z ∷ ts)
        (tree.specifiers (tree.Enumeration (Some (name_at y)) es (to (at x) (at v))) s) rest
    untagged_enumeration : {has_type : Bool} {x z v : Lexeme} {ts mid rest : List Lexeme}
        {es : Enumerators} {s : Specifiers}
        → is_keyword (codes "enum") x ≡ true → is_punctuator (codes "{") z ≡ true
        → ReadsEnumerators dialect ts es (v ∷ mid) → is_punctuator (codes "}") v ≡ true
        → ReadsSpecifiers dialect true mid s rest
        → ReadsSpecifiers dialect has_type (x ∷ z ∷ ts)
        (tree.specifiers (tree.Enumeration None es (to (at x) (at v))) s) rest

  -- members = "{" member { member } "}", between the braces                             C17 6.7.2.1
  pub data ReadsMembers (dialect : Dialect) : List Lexeme → Members → List Lexeme → Type 0 where
    last_member : {ts rest : List Lexeme} {m : StructMember}
        → ReadsMember dialect ts m rest → sees_specifiers rest ≡ false
        → ReadsMembers dialect ts (tree.members m tree.no_members) rest
    more_members : {ts mid rest : List Lexeme} {m : StructMember} {ms : Members}
        → ReadsMember dialect ts m mid → sees_specifiers mid ≡ true
        → ReadsMembers dialect mid ms rest
        → ReadsMembers dialect ts (tree.members m ms) rest

  -- member = specifiers declarator { "," declarator } ";"                               C17 6.7.2.1
  pub data ReadsMember (dialect : Dialect) : List Lexeme → StructMember → List Lexeme → Type 0 where
    struct_member : {x y : Lexeme} {ts mid rest : List Lexeme} {s : Specifiers} {ds : Declarators}
        → ReadsSpecifiers dialect false (x ∷ ts) s mid → for_type s ≡ true
        → ReadsDeclarators dialect mid ds (y ∷ rest) → is_punctuator (codes ";") y ≡ true
        → ReadsMember dialect (x ∷ ts) (tree.member s ds (to (at x) (at y))) rest

  -- declarator { "," declarator }                                                       C17 6.7.2.1
  pub data ReadsDeclarators (dialect : Dialect) : List Lexeme → Declarators → List Lexeme
      → Type 0 where
    last_declarator : {ts rest : List Lexeme} {d : Declarator}
        → ReadsDeclarator dialect ts d rest → sees (codes ",") rest ≡ false
        → ReadsDeclarators dialect ts (tree.declarators d tree.no_declarators) rest
    more_declarators : {x : Lexeme} {ts mid rest : List Lexeme} {d : Declarator} {ds : Declarators}
        → ReadsDeclarator dialect ts d (x ∷ mid) → is_punctuator (codes ",") x ≡ true
        → ReadsDeclarators dialect mid ds rest
        → ReadsDeclarators dialect ts (tree.declarators d ds) rest

  -- list = "{" identifier [ "=" cond ] { "," identifier [ "=" cond ] } [ "," ] "}", between the
  -- braces
  -- A comma before `}` is the last of its list and begins nothing more.                 C17 6.7.2.2
  pub data ReadsEnumerators (dialect : Dialect) : List Lexeme → Enumerators → List Lexeme
      → Type 0 where
    last_enumerator : {ts rest : List Lexeme} {e : Enumerator}
        → ReadsEnumerator dialect ts e rest → sees (codes ",") rest ≡ false
        → ReadsEnumerators dialect ts (tree.enumerators e tree.no_enumerators) rest
    last_enumerator_comma : {x : Lexeme} {ts rest : List Lexeme} {e : Enumerator}
        → ReadsEnumerator dialect ts e (x ∷ rest) → is_punctuator (codes ",") x ≡ true
        → sees (codes "}") rest ≡ true
        → ReadsEnumerators dialect ts (tree.enumerators e tree.no_enumerators) rest
    more_enumerators : {x : Lexeme} {ts mid rest : List Lexeme} {e : Enumerator} {es : Enumerators}
        → ReadsEnumerator dialect ts e (x ∷ mid) → is_punctuator (codes ",") x ≡ true
        → sees (codes "}") mid ≡ false → ReadsEnumerators dialect mid es rest
        → ReadsEnumerators dialect ts (tree.enumerators e es) rest

  -- identifier [ "=" cond ]                                                             C17 6.7.2.2
  pub data ReadsEnumerator (dialect : Dialect) : List Lexeme → Enumerator → List Lexeme
      → Type 0 where
    enumerator : {x : Lexeme} {rest : List Lexeme}
        → is_name x ≡ true → sees (codes "=") rest ≡ false
        → ReadsEnumerator dialect (x ∷ rest) (tree.enumerator (name_at x)) rest
    valued_enumerator : {x y : Lexeme} {ts rest : List Lexeme} {a : Expression}
        → is_name x ≡ true → is_punctuator (codes "=") y ≡ true
        → Reads dialect nonterminal.cond ts a rest
        → ReadsEnumerator dialect (x ∷ y ∷ ts) (tree.valued_enumerator (name_at x) a) rest

  -- declarator = { "*" } identifier ( { "[" [ cond ] "]" } | "(" params ")" )           C17 6.7.6
  pub data ReadsDeclarator (dialect : Dialect) : List Lexeme → Declarator → List Lexeme
      → Type 0 where
    object : {x y : Lexeme} {before end : Span} {ts mid rest : List Lexeme} {stars : ℕ}
        {lengths : ArrayLengths}
        → ReadsStars (at x) (x ∷ ts) stars before (y ∷ mid) → is_name y ≡ true
        → sees (codes "(") mid ≡ false → ReadsArrayLengths dialect (at y) mid lengths end rest
        → ReadsDeclarator dialect (x ∷ ts) (tree.object stars (name_at y) lengths (to (at x) end))
        rest
    function : {x y : Lexeme} {before : Span} {ts mid rest : List Lexeme} {stars : ℕ}
        {ps : Parameters}
        → ReadsStars (at x) (x ∷ ts) stars before (y ∷ mid) → is_name y ≡ true
        → ReadsParameters dialect mid ps rest
        → ReadsDeclarator dialect (x ∷ ts)
        (tree.function stars (name_at y) ps (to (at x) (span_of_parameters ps))) rest

  -- { "[" [ cond ] "]" }, after a token at this place; the place of the last token read C17 6.7.6.2
  pub data ReadsArrayLengths (dialect : Dialect) : Span → List Lexeme → ArrayLengths → Span
      → List Lexeme → Type 0 where
    lengths_end : {before : Span} {ts : List Lexeme}
        → sees (codes "[") ts ≡ false
        → ReadsArrayLengths dialect before ts tree.no_lengths before ts
    absent_length : {x y : Lexeme} {before end : Span} {ts rest : List Lexeme}
        {lengths : ArrayLengths}
        → is_punctuator (codes "[") x ≡ true → is_punctuator (codes "]") y ≡ true
        → ReadsArrayLengths dialect (at y) ts lengths end rest
        → ReadsArrayLengths dialect before (x ∷ y ∷ ts) (tree.absent_length lengths) end rest
    given_length : {x y : Lexeme} {before end : Span} {ts mid rest : List Lexeme} {a : Expression}
        {lengths : ArrayLengths}
        → is_punctuator (codes "[") x ≡ true → sees (codes "]") ts ≡ false
        → Reads dialect nonterminal.cond ts a (y ∷ mid) → is_punctuator (codes "]") y ≡ true
        → ReadsArrayLengths dialect (at y) mid lengths end rest
        → ReadsArrayLengths dialect before (x ∷ ts) (tree.given_length a lengths) end rest

  -- "(" params ")" with  params = [ "void" | param { "," param } ]                      C17 6.7.6.3
  -- `void` alone between the parentheses is the alternative "void", and never a `param`.
  pub data ReadsParameters (dialect : Dialect) : List Lexeme → Parameters → List Lexeme
      → Type 0 where
    empty_parameters : {x y : Lexeme} {rest : List Lexeme}
        → is_punctuator (codes "(") x ≡ true → is_punctuator (codes ")") y ≡ true
        → ReadsParameters dialect (x ∷ y ∷ rest) (tree.Empty (to (at x) (at y))) rest
    void_parameters : {x y z : Lexeme} {rest : List Lexeme}
        → is_punctuator (codes "(") x ≡ true → is_keyword (codes "void") y ≡ true
        → is_punctuator (codes ")") z ≡ true
        → ReadsParameters dialect (x ∷ y ∷ z ∷ rest) (tree.Void (to (at x) (at z))) rest
    listed_parameters : {x y : Lexeme} {ts rest : List Lexeme} {ps : ParameterList}
        → is_punctuator (codes "(") x ≡ true → sees (codes ")") ts ≡ false
        → sees_void_alone ts ≡ false → ReadsParameterList dialect ts ps (y ∷ rest)
        → is_punctuator (codes ")") y ≡ true
        → ReadsParameters dialect (x ∷ ts) (tree.Listed ps (to (at x) (at y))) rest

  -- param { "," param }                                                                 C17 6.7.6.3
  pub data ReadsParameterList (dialect : Dialect) : List Lexeme → ParameterList → List Lexeme
      → Type 0 where
    last_parameter : {ts rest : List Lexeme} {p : Parameter}
        → ReadsParameter dialect ts p rest → sees (codes ",") rest ≡ false
        → ReadsParameterList dialect ts (tree.parameters p tree.no_parameters) rest
    more_parameters : {x : Lexeme} {ts mid rest : List Lexeme} {p : Parameter} {ps : ParameterList}
        → ReadsParameter dialect ts p (x ∷ mid) → is_punctuator (codes ",") x ≡ true
        → ReadsParameterList dialect mid ps rest
        → ReadsParameterList dialect ts (tree.parameters p ps) rest

  -- param = specifiers { "*" } [ identifier ] { "[" [ cond ] "]" }                 C17 6.7.6, 6.7.7
  pub data ReadsParameter (dialect : Dialect) : List Lexeme → Parameter → List Lexeme → Type 0 where
    parameter : {x y : Lexeme} {before end : Span} {ts words mid rest : List Lexeme}
        {s : Specifiers} {stars : ℕ} {lengths : ArrayLengths}
        → ReadsSpecifiers dialect false (x ∷ ts) s words → for_type s ≡ true
        → ReadsStars (end_of_specifiers (at x) s) words stars before (y ∷ mid) → is_name y ≡ true
        → ReadsArrayLengths dialect (at y) mid lengths end rest
        → ReadsParameter dialect (x ∷ ts)
        (tree.parameter s stars (Some (name_at y)) lengths (to (at x) end)) rest
    unnamed_parameter : {x : Lexeme} {before end : Span} {ts words mid rest : List Lexeme}
        {s : Specifiers} {stars : ℕ} {lengths : ArrayLengths}
        → ReadsSpecifiers dialect false (x ∷ ts) s words → for_type s ≡ true
        → ReadsStars (end_of_specifiers (at x) s) words stars before mid
        → next_is is_name mid ≡ false → ReadsArrayLengths dialect before mid lengths end rest
        → ReadsParameter dialect (x ∷ ts) (tree.parameter s stars None lengths (to (at x) end)) rest
