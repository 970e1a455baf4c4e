-- How a tree is spelled: its tokens in the order of the text, one case for each variant. A token
-- has its kind and its text, a constant and a character its value, and a name its place as well.
use Rattle.std.specs.Prelude.{◌≡◌, ℕ, zero, suc, ℤ, Bool, true, false, List, [], ◌∷◌, Option, Some, None, codes}
use Rattle.mc_lex.specs.declared.token.TokenKind.TheVariants as kind
use Rattle.mc_tree.specs.declared.expressions.unary_operator.UnaryOperator.{UnaryOperator}
use Rattle.mc_tree.specs.declared.expressions.unary_operator.UnaryOperator.TheVariants as unary
use Rattle.mc_tree.specs.declared.expressions.step_operator.StepOperator.{StepOperator}
use Rattle.mc_tree.specs.declared.expressions.step_operator.StepOperator.TheVariants as step
use Rattle.mc_tree.specs.declared.expressions.binary_operator.BinaryOperator.{BinaryOperator}
use Rattle.mc_tree.specs.declared.expressions.binary_operator.BinaryOperator.TheVariants as binary
use Rattle.mc_tree.specs.declared.expressions.assignment_operator.AssignmentOperator.{AssignmentOperator}
use Rattle.mc_tree.specs.declared.expressions.assignment_operator.AssignmentOperator.TheVariants as assign
use Rattle.mc_tree.specs.declared.declarations.specifier_word.SpecifierWord.{SpecifierWord}
use Rattle.mc_tree.specs.declared.declarations.specifier_word.SpecifierWord.TheVariants as word
use Rattle.mc_tree.specs.Tree.{Name, Expression, Expressions, TypeName, Specifier, Specifiers, StructMember, Members, Enumerator, Enumerators, Declarator, Declarators, ArrayLengths, Parameters, Parameter, ParameterList, Initializer, Initializers, InitDeclarator, Declaration, ForStart, Statement, BlockItems, Item, name_of}
use Rattle.mc_tree.specs.Tree as tree
use Rattle.mc_grammar.specs.Words.{Lexeme, is_punctuator, is_keyword, is_name, is_type_name, is_tag, sees, retag}
use Rattle.mc_grammar.specs.Places.{name_at}
use Rattle.mc_grammar.specs.WordSets.{is_typedef_word, some_word}

pub data Spelled : Type 0 where
  Punctuator Keyword : List ℕ → Spelled
  -- an identifier that is not a typedef name, one that is, and a tag, which may be either
  Identifier TypedefName Tag : Name → Spelled
  -- its value, whether it is decimal, whether it has a `u`, how many `l` it has
  Constant : ℕ → Bool → Bool → ℕ → Spelled
  Character : ℤ → Spelled
  -- No token: from here on each identifier of this text is a typedef name (C17 6.7.8).
  Typedef : List ℕ → Spelled

-- the token is spelled so
abbrev pub IsSpelled : Spelled → Lexeme → Type 0
IsSpelled (Punctuator text) x = is_punctuator text x ≡ true
IsSpelled (Keyword text) x = is_keyword text x ≡ true
IsSpelled (Identifier name) x = (is_name x ≡ true) × (name_at x ≡ name)
IsSpelled (TypedefName name) x = (is_type_name x ≡ true) × (name_at x ≡ name)
IsSpelled (Tag name) x = (is_tag x ≡ true) × (name_at x ≡ name)
IsSpelled (Constant value decimal unsigned longs) x =
    x.token.kind ≡ kind.Constant value decimal unsigned longs
IsSpelled (Character value) x = x.token.kind ≡ kind.Character value
IsSpelled (Typedef name) x = ⊥

-- The tokens before this rest are spelled so. A comma directly before a `}` may be left out.
pub data Spells : List Spelled → List Lexeme → List Lexeme → Type 0 where
  nothing : {ts : List Lexeme} → Spells [] ts ts
  token : {one : Spelled} {all : List Spelled} {x : Lexeme} {ts rest : List Lexeme}
      → IsSpelled one x → Spells all ts rest
      → Spells (one ∷ all) (x ∷ ts) rest
  last_comma : {all : List Spelled} {x : Lexeme} {ts rest : List Lexeme}
      → is_punctuator (codes ",") x ≡ true → sees (codes "}") ts ≡ true → Spells all ts rest
      → Spells all (x ∷ ts) rest
  in_force : {name : List ℕ} {all : List Spelled} {ts rest : List Lexeme}
      → Spells all (retag name ts) rest
      → Spells (Typedef name ∷ all) ts rest

-- C17 6.5.3.2, 6.5.3.3
abbrev pub text_of_unary : UnaryOperator → List ℕ
text_of_unary unary.Address = codes "&"
text_of_unary unary.Dereference = codes "*"
text_of_unary unary.Plus = codes "+"
text_of_unary unary.Minus = codes "-"
text_of_unary unary.Complement = codes "~"
text_of_unary unary.Not = codes "!"

-- C17 6.5.2.4, 6.5.3.1
abbrev pub text_of_step : StepOperator → List ℕ
text_of_step step.Increment = codes "++"
text_of_step step.Decrement = codes "--"

-- C17 6.5.5 to 6.5.14
abbrev pub text_of_binary : BinaryOperator → List ℕ
text_of_binary binary.Multiply = codes "*"
text_of_binary binary.Divide = codes "/"
text_of_binary binary.Remainder = codes "%"
text_of_binary binary.Add = codes "+"
text_of_binary binary.Subtract = codes "-"
text_of_binary binary.ShiftLeft = codes "<<"
text_of_binary binary.ShiftRight = codes ">>"
text_of_binary binary.Less = codes "<"
text_of_binary binary.Greater = codes ">"
text_of_binary binary.LessOrEqual = codes "<="
text_of_binary binary.GreaterOrEqual = codes ">="
text_of_binary binary.Equal = codes "=="
text_of_binary binary.Unequal = codes "!="
text_of_binary binary.BitAnd = codes "&"
text_of_binary binary.BitXor = codes "^"
text_of_binary binary.BitOr = codes "|"
text_of_binary binary.And = codes "&&"
text_of_binary binary.Or = codes "||"

-- C17 6.5.16
abbrev pub text_of_assignment : AssignmentOperator → List ℕ
text_of_assignment assign.Assign = codes "="
text_of_assignment assign.Multiply = codes "*="
text_of_assignment assign.Divide = codes "/="
text_of_assignment assign.Remainder = codes "%="
text_of_assignment assign.Add = codes "+="
text_of_assignment assign.Subtract = codes "-="
text_of_assignment assign.ShiftLeft = codes "<<="
text_of_assignment assign.ShiftRight = codes ">>="
text_of_assignment assign.BitAnd = codes "&="
text_of_assignment assign.BitXor = codes "^="
text_of_assignment assign.BitOr = codes "|="

-- C17 6.7.1 to 6.7.3
abbrev pub text_of_word : SpecifierWord → List ℕ
text_of_word word.Typedef = codes "typedef"
text_of_word word.Static = codes "static"
text_of_word word.Extern = codes "extern"
text_of_word word.Const = codes "const"
text_of_word word.Void = codes "void"
text_of_word word.Bool = codes "_Bool"
text_of_word word.Char = codes "char"
text_of_word word.Short = codes "short"
text_of_word word.Int = codes "int"
text_of_word word.Long = codes "long"
text_of_word word.Signed = codes "signed"
text_of_word word.Unsigned = codes "unsigned"

abbrev pub left_parenthesis : Spelled
left_parenthesis = Punctuator (codes "(")

abbrev pub right_parenthesis : Spelled
right_parenthesis = Punctuator (codes ")")

abbrev pub left_bracket : Spelled
left_bracket = Punctuator (codes "[")

abbrev pub right_bracket : Spelled
right_bracket = Punctuator (codes "]")

abbrev pub left_brace : Spelled
left_brace = Punctuator (codes "{")

abbrev pub right_brace : Spelled
right_brace = Punctuator (codes "}")

abbrev pub comma : Spelled
comma = Punctuator (codes ",")

abbrev pub semicolon : Spelled
semicolon = Punctuator (codes ";")

abbrev pub colon : Spelled
colon = Punctuator (codes ":")

abbrev pub period : Spelled
period = Punctuator (codes ".")

abbrev pub question : Spelled
question = Punctuator (codes "?")

abbrev pub equals : Spelled
equals = Punctuator (codes "=")

abbrev pub asterisk : Spelled
asterisk = Punctuator (codes "*")

-- Each of the following is the spelling of a tree, and after it these.

abbrev pub spell_stars : ℕ → List Spelled → List Spelled
spell_stars zero after = after
spell_stars (suc k) after = asterisk ∷ spell_stars k after

abbrev pub spell_tag : Option Name → List Spelled → List Spelled
spell_tag None after = after
spell_tag (Some name) after = Tag name ∷ after

abbrev pub spell_name : Option Name → List Spelled → List Spelled
spell_name None after = after
spell_name (Some name) after = Identifier name ∷ after

abbrev mutual
  -- C17 6.5
  pub spell : Expression → List Spelled → List Spelled
  spell (tree.Named name) after = Identifier name ∷ after
  spell (tree.Constant value decimal unsigned longs span) after =
      Constant value decimal unsigned longs ∷ after
  spell (tree.Character value span) after = Character value ∷ after
  spell (tree.Parenthesized a span) after = left_parenthesis ∷ spell a (right_parenthesis ∷ after)
  spell (tree.Call name arguments span) after =
      Identifier name ∷ left_parenthesis ∷ spell_expressions arguments (right_parenthesis ∷ after)
  spell (tree.Index a b span) after = spell a (left_bracket ∷ spell b (right_bracket ∷ after))
  spell (tree.Member a name span) after = spell a (period ∷ Identifier name ∷ after)
  spell (tree.PostfixStep operator a span) after = spell a
      (Punctuator (text_of_step operator) ∷ after)
  spell (tree.PrefixStep operator a span) after = Punctuator (text_of_step operator) ∷ spell a after
  spell (tree.Unary operator a span) after = Punctuator (text_of_unary operator) ∷ spell a after
  spell (tree.Cast type a span) after =
      left_parenthesis ∷ spell_type_name type (right_parenthesis ∷ spell a after)
  spell (tree.Binary operator a b span) after =
      spell a (Punctuator (text_of_binary operator) ∷ spell b after)
  spell (tree.Conditional a b c span) after = spell a (question ∷ spell b (colon ∷ spell c after))
  spell (tree.Assignment operator a b span) after =
      spell a (Punctuator (text_of_assignment operator) ∷ spell b after)
  spell (tree.Comma operands span) after = spell_expressions operands after

  pub spell_expressions : Expressions → List Spelled → List Spelled
  spell_expressions tree.no_expressions after = after
  spell_expressions (tree.expressions a tree.no_expressions) after = spell a after
  spell_expressions (tree.expressions a rest) after = spell a (comma ∷ spell_expressions rest after)

  -- C17 6.7.7
  pub spell_type_name : TypeName → List Spelled → List Spelled
  spell_type_name (tree.type_name s stars span) after = spell_specifiers s (spell_stars stars after)

  -- C17 6.7.1 to 6.7.3
  pub spell_specifier : Specifier → List Spelled → List Spelled
  spell_specifier (tree.Word w span) after = Keyword (text_of_word w) ∷ after
  spell_specifier (tree.TypedefName name) after = TypedefName name ∷ after
  spell_specifier (tree.StructureTag tag span) after = Keyword (codes "struct") ∷ Tag tag ∷ after
  spell_specifier (tree.Structure tag all span) after =
      Keyword (codes "struct")
      ∷ spell_tag tag (left_brace ∷ spell_members all (right_brace ∷ after))
  spell_specifier (tree.EnumerationTag tag span) after = Keyword (codes "enum") ∷ Tag tag ∷ after
  spell_specifier (tree.Enumeration tag all span) after =
      Keyword (codes "enum")
      ∷ spell_tag tag (left_brace ∷ spell_enumerators all (right_brace ∷ after))

  pub spell_specifiers : Specifiers → List Spelled → List Spelled
  spell_specifiers tree.no_specifiers after = after
  spell_specifiers (tree.specifiers one rest) after = spell_specifier one
      (spell_specifiers rest after)

  -- C17 6.7.2.1
  pub spell_member : StructMember → List Spelled → List Spelled
  spell_member (tree.member s all span) after =
      spell_specifiers s (spell_declarators all (semicolon ∷ after))

  pub spell_members : Members → List Spelled → List Spelled
  spell_members tree.no_members after = after
  spell_members (tree.members one rest) after = spell_member one (spell_members rest after)

  -- C17 6.7.2.2
  pub spell_enumerator : Enumerator → List Spelled → List Spelled
  spell_enumerator (tree.enumerator name) after = Identifier name ∷ after
  spell_enumerator (tree.valued_enumerator name a) after = Identifier name ∷ equals ∷ spell a after

  pub spell_enumerators : Enumerators → List Spelled → List Spelled
  spell_enumerators tree.no_enumerators after = after
  spell_enumerators (tree.enumerators one tree.no_enumerators) after = spell_enumerator one after
  spell_enumerators (tree.enumerators one rest) after =
      spell_enumerator one (comma ∷ spell_enumerators rest after)

  -- C17 6.7.6
  pub spell_declarator : Declarator → List Spelled → List Spelled
  spell_declarator (tree.object stars name all span) after =
      spell_stars stars (Identifier name ∷ spell_lengths all after)
  spell_declarator (tree.function stars name all span) after =
      spell_stars stars (Identifier name ∷ spell_parameters all after)

  pub spell_declarators : Declarators → List Spelled → List Spelled
  spell_declarators tree.no_declarators after = after
  spell_declarators (tree.declarators one tree.no_declarators) after = spell_declarator one after
  spell_declarators (tree.declarators one rest) after =
      spell_declarator one (comma ∷ spell_declarators rest after)

  -- C17 6.7.6.2
  pub spell_lengths : ArrayLengths → List Spelled → List Spelled
  spell_lengths tree.no_lengths after = after
  spell_lengths (tree.absent_length rest) after =
      left_bracket ∷ right_bracket ∷ spell_lengths rest after
  spell_lengths (tree.given_length a rest) after =
      left_bracket ∷ spell a (right_bracket ∷ spell_lengths rest after)

  -- C17 6.7.6.3
  pub spell_parameters : Parameters → List Spelled → List Spelled
  spell_parameters (tree.Empty span) after = left_parenthesis ∷ right_parenthesis ∷ after
  spell_parameters (tree.Void span) after =
      left_parenthesis ∷ Keyword (codes "void") ∷ right_parenthesis ∷ after
  spell_parameters (tree.Listed all span) after =
      left_parenthesis ∷ spell_parameter_list all (right_parenthesis ∷ after)

  pub spell_parameter : Parameter → List Spelled → List Spelled
  spell_parameter (tree.parameter s stars name all span) after =
      spell_specifiers s (spell_stars stars (spell_name name (spell_lengths all after)))

  pub spell_parameter_list : ParameterList → List Spelled → List Spelled
  spell_parameter_list tree.no_parameters after = after
  spell_parameter_list (tree.parameters one tree.no_parameters) after = spell_parameter one after
  spell_parameter_list (tree.parameters one rest) after =
      spell_parameter one (comma ∷ spell_parameter_list rest after)

-- C17 6.7.9
abbrev mutual
  pub spell_initializer : Initializer → List Spelled → List Spelled
  spell_initializer (tree.Single a) after = spell a after
  spell_initializer (tree.Braced all span) after =
      left_brace ∷ spell_initializers all (right_brace ∷ after)

  pub spell_initializers : Initializers → List Spelled → List Spelled
  spell_initializers tree.no_initializers after = after
  spell_initializers (tree.initializers one tree.no_initializers) after = spell_initializer one
      after
  spell_initializers (tree.initializers one rest) after =
      spell_initializer one (comma ∷ spell_initializers rest after)

-- where its declaration is a typedef, the name of a declarator is a typedef name from its end on
abbrev pub spell_force : Bool → Declarator → List Spelled → List Spelled
spell_force true d after = Typedef (name_of d).text ∷ after
spell_force false d after = after

-- C17 6.7
abbrev pub spell_init_declarator : Bool → InitDeclarator → List Spelled → List Spelled
spell_init_declarator typedef (tree.bare d) after = spell_declarator d (spell_force typedef d after)
spell_init_declarator typedef (tree.initialized d value) after =
    spell_declarator d (spell_force typedef d (equals ∷ spell_initializer value after))

abbrev pub spell_init_declarators : Bool → List InitDeclarator → List Spelled → List Spelled
spell_init_declarators typedef [] after = after
spell_init_declarators typedef (one ∷ []) after = spell_init_declarator typedef one after
spell_init_declarators typedef (one ∷ rest) after =
    spell_init_declarator typedef one (comma ∷ spell_init_declarators typedef rest after)

abbrev pub spell_declaration : Declaration → List Spelled → List Spelled
spell_declaration (tree.declaration s all span) after =
    spell_specifiers s
    (spell_init_declarators (some_word is_typedef_word s) all (semicolon ∷ after))

abbrev pub spell_optional : Option Expression → List Spelled → List Spelled
spell_optional None after = after
spell_optional (Some a) after = spell a after

-- C17 6.8.5.3
abbrev pub spell_start : ForStart → List Spelled → List Spelled
spell_start (tree.StartsLocal d) after = spell_declaration d after
spell_start (tree.StartsExpression a) after = spell_optional a (semicolon ∷ after)

-- an expression in parentheses (C17 6.8.4, 6.8.5)
abbrev pub spell_test : Expression → List Spelled → List Spelled
spell_test a after = left_parenthesis ∷ spell a (right_parenthesis ∷ after)

-- C17 6.8
abbrev mutual
  pub spell_statement : Statement → List Spelled → List Spelled
  spell_statement (tree.Compound all span) after = left_brace
      ∷ spell_block all (right_brace ∷ after)
  spell_statement (tree.Null span) after = semicolon ∷ after
  spell_statement (tree.ExpressionStatement a span) after = spell a (semicolon ∷ after)
  spell_statement (tree.If a s span) after =
      Keyword (codes "if") ∷ spell_test a (spell_statement s after)
  spell_statement (tree.IfElse a s u span) after =
      Keyword (codes "if")
      ∷ spell_test a (spell_statement s (Keyword (codes "else") ∷ spell_statement u after))
  spell_statement (tree.Switch a s span) after =
      Keyword (codes "switch") ∷ spell_test a (spell_statement s after)
  spell_statement (tree.While a s span) after =
      Keyword (codes "while") ∷ spell_test a (spell_statement s after)
  spell_statement (tree.DoWhile s a span) after =
      Keyword (codes "do")
      ∷ spell_statement s (Keyword (codes "while") ∷ spell_test a (semicolon ∷ after))
  spell_statement (tree.For start a b s span) after =
      Keyword (codes "for") ∷ left_parenthesis
      ∷ spell_start start (spell_optional a (semicolon
      ∷ spell_optional b (right_parenthesis ∷ spell_statement s after)))
  spell_statement (tree.Case a label s span) after =
      Keyword (codes "case") ∷ spell a (colon ∷ spell_statement s after)
  spell_statement (tree.Default label s span) after =
      Keyword (codes "default") ∷ colon ∷ spell_statement s after
  spell_statement (tree.Label name s span) after = Identifier name ∷ colon ∷ spell_statement s after
  spell_statement (tree.Goto name span) after =
      Keyword (codes "goto") ∷ Identifier name ∷ semicolon ∷ after
  spell_statement (tree.Break span) after = Keyword (codes "break") ∷ semicolon ∷ after
  spell_statement (tree.Continue span) after = Keyword (codes "continue") ∷ semicolon ∷ after
  spell_statement (tree.Return a span) after =
      Keyword (codes "return") ∷ spell_optional a (semicolon ∷ after)

  pub spell_block : BlockItems → List Spelled → List Spelled
  spell_block tree.no_block_items after = after
  spell_block (tree.local d rest) after = spell_declaration d (spell_block rest after)
  spell_block (tree.statement s rest) after = spell_statement s (spell_block rest after)

-- C17 6.9
abbrev pub spell_item : Item → List Spelled → List Spelled
spell_item (tree.Declared d) after = spell_declaration d after
spell_item (tree.Defined s d body span) after =
    spell_specifiers s (spell_declarator d (left_brace ∷ spell_block body (right_brace ∷ after)))

abbrev pub spell_unit : List Item → List Spelled
spell_unit [] = []
spell_unit (one ∷ rest) = spell_item one (spell_unit rest)
