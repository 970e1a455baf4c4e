-- The text `int f(int a){return a+1;}`, with parentheses round `a+1`, two pairs round `a`, and
-- braces round the statement: `int f(int a){{return (((a))+1);}}`, each bracket where what is in it
-- stands.
use Rattle.std.specs.Prelude.{◌&&◌, ◌==◌, true, false, List, [], ◌∷◌, Some, codes, if◌then◌else◌}
use Rattle.mc_lex.specs.Tokens.{Tok}
use Rattle.mc_tree.specs.declared.expressions.binary_operator.BinaryOperator.TheVariants as binary
use Rattle.mc_tree.specs.declared.declarations.specifier_word.SpecifierWord.TheVariants as word
use Rattle.mc_tree.specs.Tree.{Expression, Item}
use Rattle.mc_tree.specs.Tree as tree
use Rattle.mc_grammar.specs.Samples.{keyword, name, number, one_specifier, punctuator, span, word_of}
use Rattle.reread_law_texts.specs.weave.Brackets.{Brackets}

abbrev pub sample : Brackets
sample =
    record {
      parentheses = λ place.
          if place.start == 20 && place.end == 23 then 1
          else (if place.start == 20 && place.end == 21 then 2 else 0);
      braces = λ place. place.start == 13;
    }

abbrev pub sample_tokens : List Tok
sample_tokens =
    keyword (codes "int") 0 ∷ word_of (codes "f") 4 ∷ punctuator (codes "(") 5
    ∷ keyword (codes "int") 6 ∷ word_of (codes "a") 10 ∷ punctuator (codes ")") 11
    ∷ punctuator (codes "{") 12 ∷ punctuator (codes "{") 13 ∷ keyword (codes "return") 13
    ∷ punctuator (codes "(") 20 ∷ punctuator (codes "(") 20 ∷ punctuator (codes "(") 20
    ∷ word_of (codes "a") 20 ∷ punctuator (codes ")") 20 ∷ punctuator (codes ")") 20
    ∷ punctuator (codes "+") 21 ∷ number 1 (codes "1") 22 ∷ punctuator (codes ")") 22
    ∷ punctuator (codes ";") 23 ∷ punctuator (codes "}") 23 ∷ punctuator (codes "}") 24 ∷ []

abbrev pub twice : Expression
twice =
    let a = tree.Named (name (codes "a") 20 21) in
    tree.Parenthesized (tree.Parenthesized a (span 20 21)) (span 20 21)

abbrev pub sample_tree : List Item
sample_tree =
    tree.Defined (one_specifier (tree.Word word.Int (span 0 3)))
    (tree.function 0 (name (codes "f") 4 5)
    (tree.Listed (tree.parameters
    (tree.parameter (one_specifier (tree.Word word.Int (span 6 9))) 0
    (Some (name (codes "a") 10 11)) tree.no_lengths (span 6 11))
    tree.no_parameters) (span 5 12))
    (span 4 12))
    (tree.statement (tree.Compound
    (tree.statement (tree.Return (Some (tree.Parenthesized
    (tree.Binary binary.Add twice (tree.Constant 1 true false 0 (span 22 23)) (span 20 23))
    (span 20 23))) (span 13 24))
    tree.no_block_items) (span 13 24))
    tree.no_block_items)
    (span 0 25) ∷ []
