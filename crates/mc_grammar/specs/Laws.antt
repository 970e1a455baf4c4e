-- What the laws say of any part that is read: a tree of type T, by a relation between the tokens
-- given, the tree, and the tokens left.
use Rattle.std.specs.Prelude.{◌≡◌, ◌≢◌, ℕ, ◌+◌, ◌≤◌, ◌<◌, Bool, true, false, List, [], ◌∷◌, ◌++◌, length, AllPairs, Contains, codes}
use Rattle.std.specs.List.{list_all}
use Rattle.mc_lex.specs.Tokens.{Tok}
use Rattle.mc_lex.specs.declared.token.Dialect.{Dialect}
use Rattle.mc_lex.specs.declared.token.TokenKind.TheVariants as kind
use Rattle.mc_span.specs.declared.span.Span.{Span}
use Rattle.mc_tree.specs.declared.declarations.specifier_word.SpecifierWord.{SpecifierWord}
use Rattle.mc_tree.specs.Tree.{Name, Expression, ArrayLengths, Declaration, Specifier, Specifiers, Declarator, Initializer, Initializers, Statement, BlockItems, Item, name_of, span_of, span_of_specifier}
use Rattle.mc_tree.specs.Tree as tree
use Rattle.mc_tree.specs.Length.{token_count}
use Rattle.mc_grammar.specs.Words.{Lexeme, lexemes_of, begins_specifiers, sees_cast, sees_keyword}
use Rattle.mc_grammar.specs.Nonterminal.{Nonterminal, takes}
use Rattle.mc_grammar.specs.Nonterminal as nonterminal
use Rattle.mc_grammar.specs.Expressions.{Reads, ReadsSpecifiers, ReadsEnumerator, ReadsArrayLengths, ReadsDeclarator}
use Rattle.mc_grammar.specs.Statements.{ReadsInitializer, ReadsInitDeclarator, ReadsDeclaration, ReadsForStart, ReadsStatement, ReadsCompound, ReadsBlockItems}
use Rattle.mc_grammar.specs.Items.{ReadsItem, ReadsUnit, IsTree}
use Rattle.mc_grammar.specs.Counts.{counts, has_one_type}
use Rattle.mc_grammar.specs.Meaning.{is_cast, IsGone, AreGone, declared_names, typedef_names, typedef_names_of, ReadsItems}
use Rattle.mc_grammar.specs.WordSets.{is_storage_word, some_word, how_many, type_lists, specifiers_of, IsOneType, words_of_declaration}
use Rattle.mc_grammar.specs.Precedence.{Within}
use Rattle.mc_grammar.specs.Spelling.{Spelled, Spells, spell, spell_unit}
use Rattle.mc_grammar.specs.Extent.{places, IsPlace, span_of_declaration, span_of_declarator}

-- it takes a token
abbrev pub TakesToken : {T : Type 0} → (List Lexeme → T → List Lexeme → Type 0) → Type 0
TakesToken {T = T} reads =
    (ts rest : List Lexeme) (one : T) → reads ts one rest → length rest < length ts

-- it leaves no more than was given
abbrev pub LeavesNoMore : {T : Type 0} → (List Lexeme → T → List Lexeme → Type 0) → Type 0
LeavesNoMore {T = T} reads =
    (ts rest : List Lexeme) (one : T) → reads ts one rest → length rest ≤ length ts

-- the tree spells the tokens that were read
abbrev pub SpellsText : {T : Type 0}
    → (T → List Spelled → List Spelled) → (List Lexeme → T → List Lexeme → Type 0) → Type 0
SpellsText {T = T} spell reads =
    (ts rest : List Lexeme) (one : T) → reads ts one rest → Spells (spell one []) ts rest

-- its place runs from the first of them to the last
abbrev pub HasPlace : {T : Type 0}
    → (T → Span) → (List Lexeme → T → List Lexeme → Type 0) → Type 0
HasPlace {T = T} span reads =
    (ts rest : List Lexeme) (one : T) → reads ts one rest
    → IsPlace (span one) (places ts) (places rest)

-- ---- specifiers and constants

-- none of its specifiers is such a word
abbrev pub HasNo : {T : Type 0}
    → (SpecifierWord → Bool) → (T → Specifiers) → (List Lexeme → T → List Lexeme → Type 0) → Type 0
HasNo {T = T} test words reads =
    (ts rest : List Lexeme) (one : T) → reads ts one rest → some_word test (words one) ≡ false

-- at most one of them is a storage word
abbrev pub HasOneStorage : {T : Type 0}
    → (T → Specifiers) → (List Lexeme → T → List Lexeme → Type 0) → Type 0
HasOneStorage {T = T} words reads =
    (ts rest : List Lexeme) (one : T) → reads ts one rest
    → how_many is_storage_word (words one) ≤ 1

-- their words are those of one type
abbrev pub HasOneType : {T : Type 0}
    → (T → Specifiers) → (List Lexeme → T → List Lexeme → Type 0) → Type 0
HasOneType {T = T} words reads =
    (ts rest : List Lexeme) (one : T) → reads ts one rest → IsOneType (counts (words one))

abbrev pub LocalHasOneType : Type 0
LocalHasOneType =
    (d : Dialect) (ts rest : List Lexeme) (one : Declaration) (others : BlockItems)
    → ReadsBlockItems d ts (tree.local one others) rest
    → IsOneType (counts (words_of_declaration one))

abbrev pub ForHasOneType : Type 0
ForHasOneType =
    (d : Dialect) (ts rest : List Lexeme) (one : Declaration)
    → ReadsForStart d ts (tree.StartsLocal one) rest → IsOneType (counts (words_of_declaration one))

-- each list of words of C17 is one type
abbrev pub ListsAreAccepted : Type 0
ListsAreAccepted =
    (span : Span)
    → list_all (λ ws. has_one_type (counts (specifiers_of ws span))) type_lists ≡ true

-- a whole expression is grouped by precedence
abbrev pub ExpressionIsGrouped : Type 0
ExpressionIsGrouped =
    (d : Dialect) (ts rest : List Lexeme) (a : Expression)
    → Reads d nonterminal.comma ts a rest → Within 17 a

-- the value of a label, of a constant and of a length is a conditional expression or binds closer,
-- and that of an initializer an assignment or closer
abbrev pub CaseIsConditional : Type 0
CaseIsConditional =
    (d : Dialect) (ts rest : List Lexeme) (a : Expression) (label span : Span) (one : Statement)
    → ReadsStatement d ts (tree.Case a label one span) rest → Within 15 a

abbrev pub EnumeratorIsConditional : Type 0
EnumeratorIsConditional =
    (d : Dialect) (ts rest : List Lexeme) (name : Name) (a : Expression)
    → ReadsEnumerator d ts (tree.valued_enumerator name a) rest → Within 15 a

abbrev pub LengthIsConditional : Type 0
LengthIsConditional =
    (d : Dialect) (before end : Span) (ts rest : List Lexeme) (a : Expression) (all : ArrayLengths)
    → ReadsArrayLengths d before ts (tree.given_length a all) end rest → Within 15 a

abbrev pub InitializerIsAssignment : Type 0
InitializerIsAssignment =
    (d : Dialect) (ts rest : List Lexeme) (a : Expression)
    → ReadsInitializer d ts (tree.Single a) rest → Within 16 a

-- ---- a tree and its text

abbrev pub TreeIsNoLonger : Type 0
TreeIsNoLonger =
    (d : Dialect) (tokens : List Tok) (unit : List Item)
    → IsTree d tokens unit → token_count unit ≤ length tokens

abbrev pub TreeSpellsText : Type 0
TreeSpellsText =
    (d : Dialect) (tokens : List Tok) (unit : List Item)
    → IsTree d tokens unit → Spells (spell_unit unit) (lexemes_of tokens) []

-- an expression that is the whole of its nonterminal, and not the rest of a repetition
abbrev pub ExpressionSpellsText : Type 0
ExpressionSpellsText =
    (d : Dialect) (m : Nonterminal) → takes m ≡ 1 → SpellsText spell (Reads d m)

abbrev pub ExpressionHasPlace : Type 0
ExpressionHasPlace = (d : Dialect) (m : Nonterminal) → takes m ≡ 1 → HasPlace span_of (Reads d m)

abbrev pub DeclarationHasPlace : Type 0
DeclarationHasPlace =
    (d : Dialect) (typedef : Bool) (allowed : Specifiers → Bool)
    → HasPlace span_of_declaration (ReadsDeclaration d typedef allowed)

abbrev pub CompoundHasPlace : Type 0
CompoundHasPlace =
    (d : Dialect) (span : Span)
    → HasPlace (λ all. span) (λ ts all rest. ReadsCompound d ts all span rest)

-- the place of the first of some specifiers
abbrev pub SpecifierHasPlace : Type 0
SpecifierHasPlace =
    (d : Dialect) (has_type : Bool) (ts rest : List Lexeme) (one : Specifier) (others : Specifiers)
    → ReadsSpecifiers d has_type ts (tree.specifiers one others) rest
    → (has : Bool) × (mid : List Lexeme)
    × IsPlace (span_of_specifier one) (places ts) (places mid)
    × ReadsSpecifiers d has mid others rest

abbrev pub BracesHavePlace : Type 0
BracesHavePlace =
    (d : Dialect) (ts rest : List Lexeme) (all : Initializers) (span : Span)
    → ReadsInitializer d ts (tree.Braced all span) rest → IsPlace span (places ts) (places rest)

-- the place of a label, before the statement that it stands at
abbrev pub CaseHasPlace : Type 0
CaseHasPlace =
    (d : Dialect) (ts rest : List Lexeme) (a : Expression) (label span : Span) (one : Statement)
    → ReadsStatement d ts (tree.Case a label one span) rest
    → (mid : List Lexeme) × IsPlace label (places ts) (places mid) × ReadsStatement d mid one rest

abbrev pub DefaultHasPlace : Type 0
DefaultHasPlace =
    (d : Dialect) (ts rest : List Lexeme) (label span : Span) (one : Statement)
    → ReadsStatement d ts (tree.Default label one span) rest
    → (mid : List Lexeme) × IsPlace label (places ts) (places mid) × ReadsStatement d mid one rest

-- the place of a function's declarator, between its specifiers and its body
abbrev pub FunctionHasPlace : Type 0
FunctionHasPlace =
    (d : Dialect) (ts rest : List Lexeme) (words : Specifiers) (one : Declarator)
    (body : BlockItems) (span : Span)
    → ReadsItem d ts (tree.Defined words one body span) rest
    → (left mid : List Lexeme) × (place : Span) × ReadsSpecifiers d false ts words left
    × IsPlace (span_of_declarator one) (places left) (places mid)
    × ReadsCompound d mid body place rest

-- ---- what follows from single productions

-- an expression takes a token, but for the rest of a repetition
abbrev pub ExpressionTakesTokens : Type 0
ExpressionTakesTokens =
    (d : Dialect) (m : Nonterminal) (ts rest : List Lexeme) (a : Expression)
    → Reads d m ts a rest → length rest + takes m ≤ length ts

-- the `if` of an `else` is the nearest one
abbrev pub ElseIsOfNearestIf : Type 0
ElseIsOfNearestIf =
    (d : Dialect) (ts rest : List Lexeme) (a : Expression) (one : Statement) (span : Span)
    → ReadsStatement d ts (tree.If a one span) rest → sees_keyword (codes "else") rest ≡ false

abbrev pub CastBeginsAtType : Type 0
CastBeginsAtType =
    (d : Dialect) (ts rest : List Lexeme) (a : Expression)
    → Reads d nonterminal.cast ts a rest → is_cast a ≡ sees_cast ts

abbrev pub DeclarationBeginsAtType : Type 0
DeclarationBeginsAtType =
    (d : Dialect) (x : Lexeme) (ts rest : List Lexeme) (one : Declaration) (b : BlockItems)
    → ReadsBlockItems d (x ∷ ts) (tree.local one b) rest → begins_specifiers x ≡ true

abbrev pub StatementBeginsElsewhere : Type 0
StatementBeginsElsewhere =
    (d : Dialect) (x : Lexeme) (ts rest : List Lexeme) (one : Statement) (b : BlockItems)
    → ReadsBlockItems d (x ∷ ts) (tree.statement one b) rest → begins_specifiers x ≡ false

abbrev pub NameBeginsDeclaration : Type 0
NameBeginsDeclaration =
    (d : Dialect) (x : Lexeme) (ts rest : List Lexeme) (one : Declaration) (b : BlockItems)
    → x.token.kind ≡ kind.Identifier → ReadsBlockItems d (x ∷ ts) (tree.local one b) rest
    → x.names_type ≡ true

abbrev pub NameBeginsStatement : Type 0
NameBeginsStatement =
    (d : Dialect) (x : Lexeme) (ts rest : List Lexeme) (one : Statement) (b : BlockItems)
    → x.token.kind ≡ kind.Identifier → ReadsBlockItems d (x ∷ ts) (tree.statement one b) rest
    → x.names_type ≡ false

-- ---- typedef names

abbrev pub TypedefIsGone : Type 0
TypedefIsGone =
    (d : Dialect) (ts rest : List Lexeme) (one : Declarator)
    → ReadsInitDeclarator d true ts (tree.bare one) rest → IsGone (name_of one).text rest

abbrev pub ValuedTypedefIsGone : Type 0
ValuedTypedefIsGone =
    (d : Dialect) (ts rest : List Lexeme) (one : Declarator) (value : Initializer)
    → ReadsInitDeclarator d true ts (tree.initialized one value) rest
    → IsGone (name_of one).text rest

abbrev pub OtherDeclaratorKeeps : Type 0
OtherDeclaratorKeeps =
    (d : Dialect) (ts rest : List Lexeme) (one : Declarator)
    → ReadsInitDeclarator d false ts (tree.bare one) rest → ReadsDeclarator d ts one rest

abbrev pub TypedefNamesAreGone : Type 0
TypedefNamesAreGone =
    (d : Dialect) (ts rest : List Lexeme) (all : List Item)
    → ReadsItems d ts all rest → AreGone (typedef_names_of all) rest

abbrev pub UnitHasParts : Type 0
UnitHasParts =
    (d : Dialect) (ts : List Lexeme) (front back : List Item) → ReadsUnit d ts (front ++ back)
    → (rest : List Lexeme) × ReadsItems d ts front rest × ReadsUnit d rest back
    × AreGone (typedef_names_of front) rest

abbrev pub PartsMakeUnit : Type 0
PartsMakeUnit =
    (d : Dialect) (ts rest : List Lexeme) (front back : List Item)
    → ReadsItems d ts front rest → ReadsUnit d rest back → ReadsUnit d ts (front ++ back)

abbrev pub GoneIsNotDeclared : Type 0
GoneIsNotDeclared =
    (d : Dialect) (ts rest : List Lexeme) (one : Item) (name : List ℕ)
    → ReadsItem d ts one rest → IsGone name ts → ¬ Contains (declared_names one) name

abbrev pub TypedefIsNotDeclaredLater : Type 0
TypedefIsNotDeclaredLater =
    (d : Dialect) (ts : List Lexeme) (front back : List Item) (one : Item) (name : List ℕ)
    → ReadsUnit d ts (front ++ one ∷ back) → Contains (typedef_names_of front) name
    → ¬ Contains (declared_names one) name

abbrev pub TypedefsDiffer : Type 0
TypedefsDiffer =
    (d : Dialect) (ts rest : List Lexeme) (one : Item)
    → ReadsItem d ts one rest → AllPairs (λ name other. name ≢ other) (typedef_names one)
