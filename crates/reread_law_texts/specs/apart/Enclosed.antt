-- Brackets of a tree that start before what they enclose: parentheses round an expression and round
-- the type of a cast, and the braces of a compound statement. A function's definition starts before
-- the first item of its body.
use Rattle.std.specs.Prelude.{◌<◌, ℕ, List, [], ◌∷◌, Option, Some, None}
use Rattle.mc_tree.specs.Tree.{Expression, Expressions, TypeName, Specifier, Specifiers}
use Rattle.mc_tree.specs.Tree.{StructMember, Members, Enumerator, Enumerators, Declarator}
use Rattle.mc_tree.specs.Tree.{Declarators, ArrayLengths, Parameters, Parameter, ParameterList}
use Rattle.mc_tree.specs.Tree.{Initializer, Initializers, InitDeclarator, Declaration, ForStart}
use Rattle.mc_tree.specs.Tree.{Statement, BlockItems, Item, span_of, span_of_statement}
use Rattle.mc_tree.specs.Tree as tree
use Rattle.mc_grammar.specs.Extent.{span_of_type_name, span_of_declaration}

-- ---- expressions, specifiers and declarators

abbrev mutual
  pub Encloses : Expression → Type 0
  Encloses (tree.Named name) = Unit {0}
  Encloses (tree.Constant value decimal unsigned longs span) = Unit {0}
  Encloses (tree.Character value span) = Unit {0}
  Encloses (tree.Parenthesized a span) = (span.start < (span_of a).start) × Encloses a
  Encloses (tree.Call name all span) = EnclosesAll all
  Encloses (tree.Index a b span) = Encloses a × Encloses b
  Encloses (tree.Member a name span) = Encloses a
  Encloses (tree.PostfixStep operator a span) = Encloses a
  Encloses (tree.PrefixStep operator a span) = Encloses a
  Encloses (tree.Unary operator a span) = Encloses a
  Encloses (tree.Cast type a span) =
      (span.start < (span_of_type_name type).start) × EnclosesInTypeName type × Encloses a
  Encloses (tree.Binary operator a b span) = Encloses a × Encloses b
  Encloses (tree.Conditional a b c span) = Encloses a × Encloses b × Encloses c
  Encloses (tree.Assignment operator a b span) = Encloses a × Encloses b
  Encloses (tree.Comma all span) = EnclosesAll all

  pub EnclosesAll : Expressions → Type 0
  EnclosesAll tree.no_expressions = Unit {0}
  EnclosesAll (tree.expressions a rest) = Encloses a × EnclosesAll rest

  pub EnclosesInTypeName : TypeName → Type 0
  EnclosesInTypeName (tree.type_name s stars span) = EnclosesInSpecifiers s

  pub EnclosesInSpecifier : Specifier → Type 0
  EnclosesInSpecifier (tree.Word word span) = Unit {0}
  EnclosesInSpecifier (tree.TypedefName name) = Unit {0}
  EnclosesInSpecifier (tree.StructureTag name span) = Unit {0}
  EnclosesInSpecifier (tree.Structure tag ms span) = EnclosesInMembers ms
  EnclosesInSpecifier (tree.EnumerationTag name span) = Unit {0}
  EnclosesInSpecifier (tree.Enumeration tag es span) = EnclosesInEnumerators es

  pub EnclosesInSpecifiers : Specifiers → Type 0
  EnclosesInSpecifiers tree.no_specifiers = Unit {0}
  EnclosesInSpecifiers (tree.specifiers one rest) =
      EnclosesInSpecifier one × EnclosesInSpecifiers rest

  pub EnclosesInMember : StructMember → Type 0
  EnclosesInMember (tree.member s ds span) = EnclosesInSpecifiers s × EnclosesInDeclarators ds

  pub EnclosesInMembers : Members → Type 0
  EnclosesInMembers tree.no_members = Unit {0}
  EnclosesInMembers (tree.members one rest) = EnclosesInMember one × EnclosesInMembers rest

  pub EnclosesInEnumerator : Enumerator → Type 0
  EnclosesInEnumerator (tree.enumerator name) = Unit {0}
  EnclosesInEnumerator (tree.valued_enumerator name a) = Encloses a

  pub EnclosesInEnumerators : Enumerators → Type 0
  EnclosesInEnumerators tree.no_enumerators = Unit {0}
  EnclosesInEnumerators (tree.enumerators one rest) =
      EnclosesInEnumerator one × EnclosesInEnumerators rest

  pub EnclosesInDeclarator : Declarator → Type 0
  EnclosesInDeclarator (tree.object stars name all span) = EnclosesInLengths all
  EnclosesInDeclarator (tree.function stars name all span) = EnclosesInParameters all

  pub EnclosesInDeclarators : Declarators → Type 0
  EnclosesInDeclarators tree.no_declarators = Unit {0}
  EnclosesInDeclarators (tree.declarators one rest) =
      EnclosesInDeclarator one × EnclosesInDeclarators rest

  pub EnclosesInLengths : ArrayLengths → Type 0
  EnclosesInLengths tree.no_lengths = Unit {0}
  EnclosesInLengths (tree.absent_length rest) = EnclosesInLengths rest
  EnclosesInLengths (tree.given_length a rest) = Encloses a × EnclosesInLengths rest

  pub EnclosesInParameters : Parameters → Type 0
  EnclosesInParameters (tree.Empty span) = Unit {0}
  EnclosesInParameters (tree.Void span) = Unit {0}
  EnclosesInParameters (tree.Listed all span) = EnclosesInParameterList all

  pub EnclosesInParameter : Parameter → Type 0
  EnclosesInParameter (tree.parameter s stars name all span) =
      EnclosesInSpecifiers s × EnclosesInLengths all

  pub EnclosesInParameterList : ParameterList → Type 0
  EnclosesInParameterList tree.no_parameters = Unit {0}
  EnclosesInParameterList (tree.parameters one rest) =
      EnclosesInParameter one × EnclosesInParameterList rest

-- ---- declarations

abbrev mutual
  pub EnclosesInInitializer : Initializer → Type 0
  EnclosesInInitializer (tree.Single a) = Encloses a
  EnclosesInInitializer (tree.Braced all span) = EnclosesInInitializers all

  pub EnclosesInInitializers : Initializers → Type 0
  EnclosesInInitializers tree.no_initializers = Unit {0}
  EnclosesInInitializers (tree.initializers one rest) =
      EnclosesInInitializer one × EnclosesInInitializers rest

abbrev pub EnclosesInInitDeclarator : InitDeclarator → Type 0
EnclosesInInitDeclarator (tree.bare d) = EnclosesInDeclarator d
EnclosesInInitDeclarator (tree.initialized d value) =
    EnclosesInDeclarator d × EnclosesInInitializer value

abbrev pub EnclosesInInitDeclarators : List InitDeclarator → Type 0
EnclosesInInitDeclarators [] = Unit {0}
EnclosesInInitDeclarators (one ∷ rest) =
    EnclosesInInitDeclarator one × EnclosesInInitDeclarators rest

abbrev pub EnclosesInDeclaration : Declaration → Type 0
EnclosesInDeclaration (tree.declaration s all span) =
    EnclosesInSpecifiers s × EnclosesInInitDeclarators all

-- ---- statements

abbrev pub EnclosesInOptional : Option Expression → Type 0
EnclosesInOptional None = Unit {0}
EnclosesInOptional (Some a) = Encloses a

abbrev pub EnclosesInStart : ForStart → Type 0
EnclosesInStart (tree.StartsLocal d) = EnclosesInDeclaration d
EnclosesInStart (tree.StartsExpression a) = EnclosesInOptional a

-- The first item of a block, where there is one, starts after this byte.
abbrev pub StartsAfter : ℕ → BlockItems → Type 0
StartsAfter at tree.no_block_items = Unit {0}
StartsAfter at (tree.local d rest) = at < (span_of_declaration d).start
StartsAfter at (tree.statement s rest) = at < (span_of_statement s).start

abbrev mutual
  pub EnclosesInStatement : Statement → Type 0
  EnclosesInStatement (tree.Compound b span) = StartsAfter span.start b × EnclosesInBlock b
  EnclosesInStatement (tree.Null span) = Unit {0}
  EnclosesInStatement (tree.ExpressionStatement a span) = Encloses a
  EnclosesInStatement (tree.If a s span) = Encloses a × EnclosesInStatement s
  EnclosesInStatement (tree.IfElse a s u span) =
      Encloses a × EnclosesInStatement s × EnclosesInStatement u
  EnclosesInStatement (tree.Switch a s span) = Encloses a × EnclosesInStatement s
  EnclosesInStatement (tree.While a s span) = Encloses a × EnclosesInStatement s
  EnclosesInStatement (tree.DoWhile s a span) = EnclosesInStatement s × Encloses a
  EnclosesInStatement (tree.For start a b s span) =
      EnclosesInStart start × EnclosesInOptional a × EnclosesInOptional b × EnclosesInStatement s
  EnclosesInStatement (tree.Goto name span) = Unit {0}
  EnclosesInStatement (tree.Break span) = Unit {0}
  EnclosesInStatement (tree.Continue span) = Unit {0}
  EnclosesInStatement (tree.Return a span) = EnclosesInOptional a
  EnclosesInStatement (tree.Case a label s span) = Encloses a × EnclosesInStatement s
  EnclosesInStatement (tree.Default label s span) = EnclosesInStatement s
  EnclosesInStatement (tree.Label name s span) = EnclosesInStatement s

  pub EnclosesInBlock : BlockItems → Type 0
  EnclosesInBlock tree.no_block_items = Unit {0}
  EnclosesInBlock (tree.local d rest) = EnclosesInDeclaration d × EnclosesInBlock rest
  EnclosesInBlock (tree.statement s rest) = EnclosesInStatement s × EnclosesInBlock rest

-- ---- items

abbrev pub EnclosesInItem : Item → Type 0
EnclosesInItem (tree.Declared d) = EnclosesInDeclaration d
EnclosesInItem (tree.Defined s d b span) =
    StartsAfter span.start b × EnclosesInSpecifiers s × EnclosesInDeclarator d × EnclosesInBlock b

abbrev pub EnclosesInUnit : List Item → Type 0
EnclosesInUnit [] = Unit {0}
EnclosesInUnit (one ∷ rest) = EnclosesInItem one × EnclosesInUnit rest
