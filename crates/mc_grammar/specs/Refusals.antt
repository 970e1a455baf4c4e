-- Beginnings of texts that no statement or no specifiers have, whatever follows.
use Rattle.std.specs.Prelude.{Bool, List, ◌∷◌, codes}
use Rattle.mc_lex.specs.declared.token.Dialect.{Dialect}
use Rattle.mc_tree.specs.Tree.{Specifiers, Statement}
use Rattle.mc_grammar.specs.Words.{Lexeme, lexeme_of}
use Rattle.mc_grammar.specs.Expressions.{ReadsSpecifiers}
use Rattle.mc_grammar.specs.Statements.{ReadsStatement}
use Rattle.mc_grammar.specs.Samples.{keyword, word_of, punctuator, number}

abbrev pub NoStatement : List Lexeme → Type 0
NoStatement ts =
    (d : Dialect) (one : Statement) (rest : List Lexeme) → ReadsStatement d ts one rest → ⊥

abbrev pub NoSpecifiers : List Lexeme → Type 0
NoSpecifiers ts =
    (d : Dialect) (has_type : Bool) (all : Specifiers) (rest : List Lexeme)
    → ReadsSpecifiers d has_type ts all rest → ⊥

-- `case 1,`
abbrev pub comma_label : List Lexeme → List Lexeme
comma_label ts =
    lexeme_of (keyword (codes "case") 0) ∷ lexeme_of (number 1 (codes "1") 5)
    ∷ lexeme_of (punctuator (codes ",") 6) ∷ ts

-- `default;`
abbrev pub default_alone : List Lexeme → List Lexeme
default_alone ts =
    lexeme_of (keyword (codes "default") 0) ∷ lexeme_of (punctuator (codes ";") 7) ∷ ts

-- `for[`
abbrev pub for_bracket : List Lexeme → List Lexeme
for_bracket ts = lexeme_of (keyword (codes "for") 0) ∷ lexeme_of (punctuator (codes "[") 3) ∷ ts

-- `do;if`
abbrev pub do_if : List Lexeme → List Lexeme
do_if ts =
    lexeme_of (keyword (codes "do") 0) ∷ lexeme_of (punctuator (codes ";") 2)
    ∷ lexeme_of (keyword (codes "if") 3) ∷ ts

-- `enum{A=b=`
abbrev pub assigned_constant : List Lexeme → List Lexeme
assigned_constant ts =
    lexeme_of (keyword (codes "enum") 0) ∷ lexeme_of (punctuator (codes "{") 4)
    ∷ lexeme_of (word_of (codes "A") 5) ∷ lexeme_of (punctuator (codes "=") 6)
    ∷ lexeme_of (word_of (codes "b") 7) ∷ lexeme_of (punctuator (codes "=") 8) ∷ ts
