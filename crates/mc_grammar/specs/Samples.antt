-- Short texts: their tokens, and the trees that they have.
use Rattle.std.specs.Prelude.{ℕ, true, false, List, [], ◌∷◌, Some, None, codes}
use Rattle.mc_lex.specs.Tokens.{Tok}
use Rattle.mc_lex.specs.declared.token.TokenKind.{TokenKind}
use Rattle.mc_lex.specs.declared.token.TokenKind.TheVariants as kind
use Rattle.mc_span.specs.declared.span.Span.{Span}
use Rattle.mc_tree.specs.declared.declarations.specifier_word.SpecifierWord.TheVariants as word
use Rattle.mc_tree.specs.Tree.{Name, Specifier, Specifiers, Declarator, Item}
use Rattle.mc_tree.specs.Tree as tree

abbrev pub token : TokenKind → List ℕ → ℕ → Tok
token what text start = record { kind = what; text = text; start = start }

abbrev pub span : ℕ → ℕ → Span
span start end = record { start = start; end = end }

abbrev pub name : List ℕ → ℕ → ℕ → Name
name text start end = record { text = text; span = span start end }

abbrev pub keyword : List ℕ → ℕ → Tok
keyword text start = token kind.Keyword text start

abbrev pub word_of : List ℕ → ℕ → Tok
word_of text start = token kind.Identifier text start

abbrev pub punctuator : List ℕ → ℕ → Tok
punctuator text start = token kind.Punctuator text start

-- a decimal constant without a suffix
abbrev pub number : ℕ → List ℕ → ℕ → Tok
number value text start = token (kind.Constant value true false 0) text start

-- `0`, which is an octal constant (C17 6.4.4.1)
abbrev pub zero_at : ℕ → Tok
zero_at start = token (kind.Constant 0 false false 0) (codes "0") start

-- specifiers of one and of two words
abbrev pub one_specifier : Specifier → Specifiers
one_specifier s = tree.specifiers s tree.no_specifiers

abbrev pub two_specifiers : Specifier → Specifier → Specifiers
two_specifiers s u = tree.specifiers s (one_specifier u)

-- the declarator of this name alone
abbrev pub name_alone : Name → Declarator
name_alone x = tree.object 0 x tree.no_lengths x.span

-- its second declarator needs the first one's name: `typedef int T,t[(T)3];`
abbrev pub typedef_tokens : List Tok
typedef_tokens =
    keyword (codes "typedef") 0 ∷ keyword (codes "int") 8 ∷ word_of (codes "T") 12
    ∷ punctuator (codes ",") 13 ∷ word_of (codes "t") 14
    ∷ punctuator (codes "[") 15 ∷ punctuator (codes "(") 16 ∷ word_of (codes "T") 17
    ∷ punctuator (codes ")") 18
    ∷ number 3 (codes "3") 19 ∷ punctuator (codes "]") 20 ∷ punctuator (codes ";") 21 ∷ []

-- the second `T` is a typedef name, so `(T)3` is a cast
abbrev pub typedef_tree : List Item
typedef_tree =
    tree.Declared (tree.declaration
    (tree.specifiers (tree.Word word.Typedef (span 0 7))
    (tree.specifiers (tree.Word word.Int (span 8 11)) tree.no_specifiers))
    (tree.bare (tree.object 0 (name (codes "T") 12 13) tree.no_lengths (span 12 13))
    ∷ tree.bare (tree.object 0 (name (codes "t") 14 15)
    (tree.given_length
    (tree.Cast (tree.type_name (tree.specifiers (tree.TypedefName (name (codes "T") 17 18))
    tree.no_specifiers)
    0 (span 17 18)) (tree.Constant 3 true false 0 (span 19 20)) (span 16 20)) tree.no_lengths)
    (span 14 21)) ∷ [])
    (span 0 22)) ∷ []

-- `int a = 5;`
abbrev pub value_tokens : List Tok
value_tokens =
    keyword (codes "int") 0 ∷ word_of (codes "a") 4 ∷ punctuator (codes "=") 6
    ∷ number 5 (codes "5") 8 ∷ punctuator (codes ";") 9 ∷ []

abbrev pub value_tree : List Item
value_tree =
    tree.Declared (tree.declaration (one_specifier (tree.Word word.Int (span 0 3)))
    (tree.initialized (name_alone (name (codes "a") 4 5))
    (tree.Single (tree.Constant 5 true false 0 (span 8 9))) ∷ [])
    (span 0 10)) ∷ []

-- `typedef void V; int f(V);`
abbrev pub named_void_tokens : List Tok
named_void_tokens =
    keyword (codes "typedef") 0 ∷ keyword (codes "void") 8 ∷ word_of (codes "V") 13
    ∷ punctuator (codes ";") 14
    ∷ keyword (codes "int") 16 ∷ word_of (codes "f") 20 ∷ punctuator (codes "(") 21
    ∷ word_of (codes "V") 22 ∷ punctuator (codes ")") 23 ∷ punctuator (codes ";") 24 ∷ []

-- `f` has a list of one parameter
abbrev pub named_void_tree : List Item
named_void_tree =
    tree.Declared (tree.declaration
    (two_specifiers (tree.Word word.Typedef (span 0 7)) (tree.Word word.Void (span 8 12)))
    (tree.bare (name_alone (name (codes "V") 13 14)) ∷ []) (span 0 15))
    ∷ tree.Declared (tree.declaration (one_specifier (tree.Word word.Int (span 16 19)))
    (tree.bare (tree.function 0 (name (codes "f") 20 21)
    (tree.Listed
    (tree.parameters (tree.parameter (one_specifier (tree.TypedefName (name (codes "V") 22 23))) 0
    None
    tree.no_lengths (span 22 23)) tree.no_parameters) (span 21 24))
    (span 20 24)) ∷ [])
    (span 16 25)) ∷ []

-- `int f(void);`
abbrev pub void_tokens : List Tok
void_tokens =
    keyword (codes "int") 0 ∷ word_of (codes "f") 4 ∷ punctuator (codes "(") 5
    ∷ keyword (codes "void") 6 ∷ punctuator (codes ")") 10 ∷ punctuator (codes ";") 11 ∷ []

-- `f` has no parameter
abbrev pub void_tree : List Item
void_tree =
    tree.Declared (tree.declaration (one_specifier (tree.Word word.Int (span 0 3)))
    (tree.bare (tree.function 0 (name (codes "f") 4 5) (tree.Void (span 5 11)) (span 4 11)) ∷ [])
    (span 0 12)) ∷ []

-- `int f(void) { return 0; }`
abbrev pub body_tokens : List Tok
body_tokens =
    keyword (codes "int") 0 ∷ word_of (codes "f") 4 ∷ punctuator (codes "(") 5
    ∷ keyword (codes "void") 6 ∷ punctuator (codes ")") 10
    ∷ punctuator (codes "{") 12 ∷ keyword (codes "return") 14 ∷ zero_at 21
    ∷ punctuator (codes ";") 22 ∷ punctuator (codes "}") 24 ∷ []

abbrev pub body_tree : List Item
body_tree =
    tree.Defined (one_specifier (tree.Word word.Int (span 0 3)))
    (tree.function 0 (name (codes "f") 4 5) (tree.Void (span 5 11)) (span 4 11))
    (tree.statement (tree.Return (Some (tree.Constant 0 false false 0 (span 21 22))) (span 14 23))
    tree.no_block_items)
    (span 0 25) ∷ []

-- `typedef int T; struct T { int a; };`
abbrev pub tag_tokens : List Tok
tag_tokens =
    keyword (codes "typedef") 0 ∷ keyword (codes "int") 8 ∷ word_of (codes "T") 12
    ∷ punctuator (codes ";") 13
    ∷ keyword (codes "struct") 15 ∷ word_of (codes "T") 22 ∷ punctuator (codes "{") 24
    ∷ keyword (codes "int") 26 ∷ word_of (codes "a") 30 ∷ punctuator (codes ";") 31
    ∷ punctuator (codes "}") 33 ∷ punctuator (codes ";") 34 ∷ []

abbrev pub tag_tree : List Item
tag_tree =
    tree.Declared (tree.declaration
    (two_specifiers (tree.Word word.Typedef (span 0 7)) (tree.Word word.Int (span 8 11)))
    (tree.bare (name_alone (name (codes "T") 12 13)) ∷ []) (span 0 14))
    ∷ tree.Declared (tree.declaration (one_specifier (tree.Structure (Some (name (codes "T") 22 23))
    (tree.members (tree.member (one_specifier (tree.Word word.Int (span 26 29)))
    (tree.declarators (name_alone (name (codes "a") 30 31)) tree.no_declarators) (span 26 32))
    tree.no_members)
    (span 15 34))) [] (span 15 35)) ∷ []

-- `enum { A, B = 2, };`
abbrev pub enumeration_tokens : List Tok
enumeration_tokens =
    keyword (codes "enum") 0 ∷ punctuator (codes "{") 5 ∷ word_of (codes "A") 7
    ∷ punctuator (codes ",") 8 ∷ word_of (codes "B") 10 ∷ punctuator (codes "=") 12
    ∷ number 2 (codes "2") 14
    ∷ punctuator (codes ",") 15 ∷ punctuator (codes "}") 17 ∷ punctuator (codes ";") 18 ∷ []

abbrev pub enumeration_tree : List Item
enumeration_tree =
    tree.Declared (tree.declaration (one_specifier (tree.Enumeration None
    (tree.enumerators (tree.enumerator (name (codes "A") 7 8))
    (tree.enumerators (tree.valued_enumerator (name (codes "B") 10 11)
    (tree.Constant 2 true false 0 (span 14 15))) tree.no_enumerators))
    (span 0 18))) [] (span 0 19)) ∷ []

-- `int a[2] = {1, 2,};`
abbrev pub braced_tokens : List Tok
braced_tokens =
    keyword (codes "int") 0 ∷ word_of (codes "a") 4 ∷ punctuator (codes "[") 5
    ∷ number 2 (codes "2") 6 ∷ punctuator (codes "]") 7 ∷ punctuator (codes "=") 9
    ∷ punctuator (codes "{") 11 ∷ number 1 (codes "1") 12 ∷ punctuator (codes ",") 13
    ∷ number 2 (codes "2") 15 ∷ punctuator (codes ",") 16 ∷ punctuator (codes "}") 17
    ∷ punctuator (codes ";") 18 ∷ []

abbrev pub braced_tree : List Item
braced_tree =
    tree.Declared (tree.declaration (one_specifier (tree.Word word.Int (span 0 3)))
    (tree.initialized (tree.object 0 (name (codes "a") 4 5)
    (tree.given_length (tree.Constant 2 true false 0 (span 6 7)) tree.no_lengths) (span 4 8))
    (tree.Braced (tree.initializers (tree.Single (tree.Constant 1 true false 0 (span 12 13)))
    (tree.initializers (tree.Single (tree.Constant 2 true false 0 (span 15 16)))
    tree.no_initializers))
    (span 11 18)) ∷ [])
    (span 0 19)) ∷ []
