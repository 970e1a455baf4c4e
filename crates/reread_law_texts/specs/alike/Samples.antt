-- A text with no blank that could be left out, and the same with one blank between all tokens.
use Rattle.std.specs.Prelude.{true, false, List, [], ◌∷◌, Some, codes}
use Rattle.mc_lex.specs.Tokens.{Tok}
use Rattle.mc_tree.specs.declared.expressions.binary_operator.BinaryOperator.TheVariants as binary
use Rattle.mc_tree.specs.declared.declarations.specifier_word.SpecifierWord.TheVariants as word
use Rattle.mc_tree.specs.Tree.{Item}
use Rattle.mc_tree.specs.Tree as tree
use Rattle.mc_grammar.specs.Samples.{keyword, name, number, one_specifier, punctuator, span, word_of}

-- `int f(int a){return a+1;}`
abbrev pub dense_tokens : List Tok
dense_tokens =
    keyword (codes "int") 0 ∷ word_of (codes "f") 4 ∷ punctuator (codes "(") 5
    ∷ keyword (codes "int") 6 ∷ word_of (codes "a") 10 ∷ punctuator (codes ")") 11
    ∷ punctuator (codes "{") 12 ∷ keyword (codes "return") 13 ∷ word_of (codes "a") 20
    ∷ punctuator (codes "+") 21 ∷ number 1 (codes "1") 22 ∷ punctuator (codes ";") 23
    ∷ punctuator (codes "}") 24 ∷ []

abbrev pub dense_tree : List Item
dense_tree =
    tree.Defined (one_specifier (tree.Word word.Int (span 0 3)))
    (tree.function 0 (name (codes "f") 4 5)
    (tree.Listed (tree.parameters
    (tree.parameter (one_specifier (tree.Word word.Int (span 6 9))) 0
    (Some (name (codes "a") 10 11)) tree.no_lengths (span 6 11))
    tree.no_parameters) (span 5 12))
    (span 4 12))
    (tree.statement (tree.Return (Some
    (tree.Binary binary.Add (tree.Named (name (codes "a") 20 21))
    (tree.Constant 1 true false 0 (span 22 23)) (span 20 23)))
    (span 13 24))
    tree.no_block_items)
    (span 0 25) ∷ []

-- `int f ( int a ) { return a + 1 ; }`
abbrev pub spaced_tokens : List Tok
spaced_tokens =
    keyword (codes "int") 0 ∷ word_of (codes "f") 4 ∷ punctuator (codes "(") 6
    ∷ keyword (codes "int") 8 ∷ word_of (codes "a") 12 ∷ punctuator (codes ")") 14
    ∷ punctuator (codes "{") 16 ∷ keyword (codes "return") 18 ∷ word_of (codes "a") 25
    ∷ punctuator (codes "+") 27 ∷ number 1 (codes "1") 29 ∷ punctuator (codes ";") 31
    ∷ punctuator (codes "}") 33 ∷ []

abbrev pub spaced_tree : List Item
spaced_tree =
    tree.Defined (one_specifier (tree.Word word.Int (span 0 3)))
    (tree.function 0 (name (codes "f") 4 5)
    (tree.Listed (tree.parameters
    (tree.parameter (one_specifier (tree.Word word.Int (span 8 11))) 0
    (Some (name (codes "a") 12 13)) tree.no_lengths (span 8 13))
    tree.no_parameters) (span 6 15))
    (span 4 15))
    (tree.statement (tree.Return (Some
    (tree.Binary binary.Add (tree.Named (name (codes "a") 25 26))
    (tree.Constant 1 true false 0 (span 29 30)) (span 25 30)))
    (span 18 32))
    tree.no_block_items)
    (span 0 34) ∷ []
