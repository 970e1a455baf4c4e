-- What follows of reading: what it reads, the grammar reads, and the other way round. From where a
-- part of a text begins it is read in at most one way.
use Rattle.std.specs.Prelude.{◌≡◌, ◌≤◌, ◌+◌, ℕ, Bool, List, [], Option, Some}
use Rattle.mc_lex.specs.Tokens.{Tok}
use Rattle.mc_lex.specs.declared.token.Dialect.{Dialect}
use Rattle.mc_span.specs.declared.span.Span.{Span}
use Rattle.mc_tree.specs.Tree.{BlockItems, Declaration, Declarator, Declarators, Enumerator, Enumerators, Expression, Expressions, ForStart, InitDeclarator, Initializer, Initializers, Item, Members, Parameter, ParameterList, Parameters, ArrayLengths, Specifiers, Statement, StructMember, TypeName}
use Rattle.mc_tree.specs.Height.{height_unit}
use Rattle.mc_grammar.specs.Words.{Lexeme}
use Rattle.mc_grammar.specs.Nonterminal.{Nonterminal}
use Rattle.mc_grammar.specs.Expressions.{Reads, ReadsDeclarator, ReadsDeclarators, ReadsEnumerator, ReadsEnumerators, ReadsExpressions, ReadsMember, ReadsMembers, ReadsParameter, ReadsParameterList, ReadsParameters, ReadsArrayLengths, ReadsSpecifiers, ReadsStars, ReadsTypeName}
use Rattle.mc_grammar.specs.Statements.{ReadsStatement, ReadsBlockItems, ReadsCompound, ReadsDeclaration, ReadsForStart, ReadsInitDeclarator, ReadsInitDeclarators, ReadsInitializer, ReadsInitializers, ReadsOptional, ReadsTest}
use Rattle.mc_grammar.specs.Items.{IsTree, ReadsItem, ReadsUnit}
use Rattle.laws_grammar.specs.Items.{unit_of}

abbrev pub Complete : Type 0
Complete =
    (dialect : Dialect) (limit : ℕ) (ts : List Lexeme) (unit : List Item)
    → ReadsUnit dialect ts unit → height_unit unit ≤ limit
    → unit_of (limit + 1) ts ≡ Some (unit, [])

abbrev pub Sound : Type 0
Sound =
    (dialect : Dialect) (limit : ℕ) (ts rest : List Lexeme) (unit : List Item)
    → unit_of (limit + 1) ts ≡ Some (unit, rest)
    → ReadsUnit dialect ts unit × (height_unit unit ≤ limit) × (rest ≡ [])

abbrev pub TextHasAtMostOneTree : Type 0
TextHasAtMostOneTree =
    (d : Dialect) (tokens : List Tok) (one other : List Item) → IsTree d tokens one
    → IsTree d tokens other → one ≡ other

abbrev pub OneExpression : Type 0
OneExpression =
    (d : Dialect) (m : Nonterminal) (ts rest left : List Lexeme)
    (one other : Expression) → Reads d m ts one rest → Reads d m ts other left
    → (one ≡ other) × (rest ≡ left)

abbrev pub OneExpressions : Type 0
OneExpressions =
    (d : Dialect) (ts rest left : List Lexeme) (one other : Expressions)
    → ReadsExpressions d ts one rest → ReadsExpressions d ts other left
    → (one ≡ other) × (rest ≡ left)

abbrev pub OneTypeName : Type 0
OneTypeName =
    (d : Dialect) (ts rest left : List Lexeme) (one other : TypeName)
    → ReadsTypeName d ts one rest → ReadsTypeName d ts other left
    → (one ≡ other) × (rest ≡ left)

abbrev pub OneStars : Type 0
OneStars =
    (before end last : Span) (ts rest left : List Lexeme) (one other : ℕ)
    → ReadsStars before ts one end rest → ReadsStars before ts other last left
    → (one ≡ other) × (end ≡ last) × (rest ≡ left)

abbrev pub OneSpecifiers : Type 0
OneSpecifiers =
    (d : Dialect) (has_type : Bool) (ts rest left : List Lexeme)
    (one other : Specifiers) → ReadsSpecifiers d has_type ts one rest
    → ReadsSpecifiers d has_type ts other left → (one ≡ other) × (rest ≡ left)

abbrev pub OneMembers : Type 0
OneMembers =
    (d : Dialect) (ts rest left : List Lexeme) (one other : Members)
    → ReadsMembers d ts one rest → ReadsMembers d ts other left
    → (one ≡ other) × (rest ≡ left)

abbrev pub OneMember : Type 0
OneMember =
    (d : Dialect) (ts rest left : List Lexeme) (one other : StructMember)
    → ReadsMember d ts one rest → ReadsMember d ts other left → (one ≡ other) × (rest ≡ left)

abbrev pub OneDeclarators : Type 0
OneDeclarators =
    (d : Dialect) (ts rest left : List Lexeme) (one other : Declarators)
    → ReadsDeclarators d ts one rest → ReadsDeclarators d ts other left
    → (one ≡ other) × (rest ≡ left)

abbrev pub OneEnumerators : Type 0
OneEnumerators =
    (d : Dialect) (ts rest left : List Lexeme) (one other : Enumerators)
    → ReadsEnumerators d ts one rest → ReadsEnumerators d ts other left
    → (one ≡ other) × (rest ≡ left)

abbrev pub OneEnumerator : Type 0
OneEnumerator =
    (d : Dialect) (ts rest left : List Lexeme) (one other : Enumerator)
    → ReadsEnumerator d ts one rest → ReadsEnumerator d ts other left
    → (one ≡ other) × (rest ≡ left)

abbrev pub OneDeclarator : Type 0
OneDeclarator =
    (d : Dialect) (ts rest left : List Lexeme) (one other : Declarator)
    → ReadsDeclarator d ts one rest → ReadsDeclarator d ts other left
    → (one ≡ other) × (rest ≡ left)

abbrev pub OneLengths : Type 0
OneLengths =
    (d : Dialect) (before end last : Span) (ts rest left : List Lexeme)
    (one other : ArrayLengths) → ReadsArrayLengths d before ts one end rest
    → ReadsArrayLengths d before ts other last left
    → (one ≡ other) × (end ≡ last) × (rest ≡ left)

abbrev pub OneParameters : Type 0
OneParameters =
    (d : Dialect) (ts rest left : List Lexeme) (one other : Parameters)
    → ReadsParameters d ts one rest → ReadsParameters d ts other left
    → (one ≡ other) × (rest ≡ left)

abbrev pub OneParameterList : Type 0
OneParameterList =
    (d : Dialect) (ts rest left : List Lexeme) (one other : ParameterList)
    → ReadsParameterList d ts one rest → ReadsParameterList d ts other left
    → (one ≡ other) × (rest ≡ left)

abbrev pub OneParameter : Type 0
OneParameter =
    (d : Dialect) (ts rest left : List Lexeme) (one other : Parameter)
    → ReadsParameter d ts one rest → ReadsParameter d ts other left
    → (one ≡ other) × (rest ≡ left)

abbrev pub OneInitializer : Type 0
OneInitializer =
    (d : Dialect) (ts rest left : List Lexeme) (one other : Initializer)
    → ReadsInitializer d ts one rest → ReadsInitializer d ts other left
    → (one ≡ other) × (rest ≡ left)

abbrev pub OneInitializers : Type 0
OneInitializers =
    (d : Dialect) (ts rest left : List Lexeme) (one other : Initializers)
    → ReadsInitializers d ts one rest → ReadsInitializers d ts other left
    → (one ≡ other) × (rest ≡ left)

abbrev pub OneInitDeclarator : Type 0
OneInitDeclarator =
    (d : Dialect) (typedef : Bool) (ts rest left : List Lexeme)
    (one other : InitDeclarator) → ReadsInitDeclarator d typedef ts one rest
    → ReadsInitDeclarator d typedef ts other left → (one ≡ other) × (rest ≡ left)

abbrev pub OneInitDeclarators : Type 0
OneInitDeclarators =
    (d : Dialect) (typedef : Bool) (ts rest left : List Lexeme)
    (one other : List InitDeclarator) → ReadsInitDeclarators d typedef ts one rest
    → ReadsInitDeclarators d typedef ts other left → (one ≡ other) × (rest ≡ left)

abbrev pub OneDeclaration : Type 0
OneDeclaration =
    (d : Dialect) (typedef : Bool) (allowed others : Specifiers
    → Bool) (ts rest left : List Lexeme) (one other : Declaration)
    → ReadsDeclaration d typedef allowed ts one rest
    → ReadsDeclaration d typedef others ts other left → (one ≡ other) × (rest ≡ left)

abbrev pub OneOptional : Type 0
OneOptional =
    (d : Dialect) (stop : List ℕ) (ts rest left : List Lexeme)
    (one other : Option Expression) → ReadsOptional d stop ts one rest
    → ReadsOptional d stop ts other left → (one ≡ other) × (rest ≡ left)

abbrev pub OneTest : Type 0
OneTest =
    (d : Dialect) (ts rest left : List Lexeme) (one other : Expression)
    → ReadsTest d ts one rest → ReadsTest d ts other left → (one ≡ other) × (rest ≡ left)

abbrev pub OneForStart : Type 0
OneForStart =
    (d : Dialect) (ts rest left : List Lexeme) (one other : ForStart)
    → ReadsForStart d ts one rest → ReadsForStart d ts other left
    → (one ≡ other) × (rest ≡ left)

abbrev pub OneStatement : Type 0
OneStatement =
    (d : Dialect) (ts rest left : List Lexeme) (one other : Statement)
    → ReadsStatement d ts one rest → ReadsStatement d ts other left
    → (one ≡ other) × (rest ≡ left)

abbrev pub OneCompound : Type 0
OneCompound =
    (d : Dialect) (place other_place : Span) (ts rest left : List Lexeme)
    (one other : BlockItems) → ReadsCompound d ts one place rest
    → ReadsCompound d ts other other_place left → (one ≡ other) × (place ≡ other_place)
    × (rest ≡ left)

abbrev pub OneBlockItems : Type 0
OneBlockItems =
    (d : Dialect) (ts rest left : List Lexeme) (one other : BlockItems)
    → ReadsBlockItems d ts one rest → ReadsBlockItems d ts other left
    → (one ≡ other) × (rest ≡ left)

abbrev pub OneItem : Type 0
OneItem =
    (d : Dialect) (ts rest left : List Lexeme) (one other : Item)
    → ReadsItem d ts one rest → ReadsItem d ts other left → (one ≡ other) × (rest ≡ left)

abbrev pub OneUnit : Type 0
OneUnit =
    (d : Dialect) (ts : List Lexeme) (one other : List Item) → ReadsUnit d ts one
    → ReadsUnit d ts other → one ≡ other
