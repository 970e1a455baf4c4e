-- Short parts of functions: their tokens, and the trees that they have.
use Rattle.std.specs.Prelude.{ℕ, suc, true, false, List, [], ◌∷◌, codes}
use Rattle.mc_lex.specs.Tokens.{Tok}
use Rattle.mc_tree.specs.declared.expressions.binary_operator.BinaryOperator.TheVariants as binary
use Rattle.mc_tree.specs.declared.expressions.unary_operator.UnaryOperator.TheVariants as unary
use Rattle.mc_tree.specs.declared.expressions.assignment_operator.AssignmentOperator.TheVariants as assign
use Rattle.mc_tree.specs.Tree.{Expression, Statement}
use Rattle.mc_tree.specs.Tree as tree
use Rattle.mc_grammar.specs.Samples.{span, name, keyword, word_of, punctuator, number, zero_at}

-- a `;` alone, at this place
abbrev pub semicolon : ℕ → List Tok
semicolon start = punctuator (codes ";") start ∷ []

-- the expression that is this identifier of one byte
abbrev pub letter : List ℕ → ℕ → Expression
letter text start = tree.Named (name text start (suc start))

-- `a + b + c;`
abbrev pub sum_tokens : List Tok
sum_tokens =
    word_of (codes "a") 0 ∷ punctuator (codes "+") 2 ∷ word_of (codes "b") 4
    ∷ punctuator (codes "+") 6 ∷ word_of (codes "c") 8 ∷ semicolon 9

-- `(a + b) + c`
abbrev pub sum_tree : Expression
sum_tree = tree.Binary binary.Add
    (tree.Binary binary.Add (letter (codes "a") 0) (letter (codes "b") 4) (span 0 5))
    (letter (codes "c") 8) (span 0 9)

-- `a, b, c;`
abbrev pub operands_tokens : List Tok
operands_tokens =
    word_of (codes "a") 0 ∷ punctuator (codes ",") 1 ∷ word_of (codes "b") 3
    ∷ punctuator (codes ",") 4 ∷ word_of (codes "c") 6 ∷ semicolon 7

-- one node with three operands
abbrev pub operands_tree : Expression
operands_tree = tree.Comma (tree.expressions (letter (codes "a") 0)
    (tree.expressions (letter (codes "b") 3)
    (tree.expressions (letter (codes "c") 6) tree.no_expressions)))
    (span 0 7)

-- `(T) - 1;`
abbrev pub minus_tokens : List Tok
minus_tokens =
    punctuator (codes "(") 0 ∷ word_of (codes "T") 1 ∷ punctuator (codes ")") 2
    ∷ punctuator (codes "-") 4 ∷ number 1 (codes "1") 6 ∷ semicolon 7

-- a cast of `-1`
abbrev pub cast_tree : Expression
cast_tree =
    tree.Cast (tree.type_name (tree.specifiers (tree.TypedefName (name (codes "T") 1 2))
    tree.no_specifiers) 0
    (span 1 2))
    (tree.Unary unary.Minus (tree.Constant 1 true false 0 (span 6 7)) (span 4 7)) (span 0 7)

-- `(T)` less 1
abbrev pub subtraction_tree : Expression
subtraction_tree = tree.Binary binary.Subtract
    (tree.Parenthesized (letter (codes "T") 1) (span 0 3))
    (tree.Constant 1 true false 0 (span 6 7)) (span 0 7)

-- `if (a) if (b) ; else ;`
abbrev pub else_tokens : List Tok
else_tokens =
    keyword (codes "if") 0 ∷ punctuator (codes "(") 3 ∷ word_of (codes "a") 4
    ∷ punctuator (codes ")") 5
    ∷ keyword (codes "if") 7 ∷ punctuator (codes "(") 10 ∷ word_of (codes "b") 11
    ∷ punctuator (codes ")") 12 ∷ punctuator (codes ";") 14 ∷ keyword (codes "else") 16
    ∷ punctuator (codes ";") 21 ∷ []

-- the `else` is of the inner `if`
abbrev pub else_tree : Statement
else_tree = tree.If (letter (codes "a") 4)
    (tree.IfElse (letter (codes "b") 11) (tree.Null (span 14 15)) (tree.Null (span 21 22))
    (span 7 22))
    (span 0 22)

-- `(a=1);`
abbrev pub assignment_tokens : List Tok
assignment_tokens =
    punctuator (codes "(") 0 ∷ word_of (codes "a") 1 ∷ punctuator (codes "=") 2
    ∷ number 1 (codes "1") 3 ∷ punctuator (codes ")") 4 ∷ semicolon 5

-- an assignment in parentheses
abbrev pub assignment_tree : Statement
assignment_tree = tree.ExpressionStatement
    (tree.Parenthesized (tree.Assignment assign.Assign (letter (codes "a") 1)
    (tree.Constant 1 true false 0 (span 3 4)) (span 1 4)) (span 0 5)) (span 0 6)

-- `(f)(x);`, and what stands in it after `(f)`
abbrev pub after_parentheses : List Tok
after_parentheses =
    punctuator (codes "(") 3 ∷ word_of (codes "x") 4 ∷ punctuator (codes ")") 5 ∷ semicolon 6

abbrev pub parentheses_tokens : List Tok
parentheses_tokens =
    punctuator (codes "(") 0 ∷ word_of (codes "f") 1 ∷ punctuator (codes ")") 2 ∷ after_parentheses

-- `(f)`
abbrev pub parentheses_tree : Expression
parentheses_tree = tree.Parenthesized (letter (codes "f") 1) (span 0 3)

-- `a[0](x);`, and what stands in it after `a[0]`
abbrev pub after_element : List Tok
after_element =
    punctuator (codes "(") 4 ∷ word_of (codes "x") 5 ∷ punctuator (codes ")") 6 ∷ semicolon 7

abbrev pub element_tokens : List Tok
element_tokens =
    word_of (codes "a") 0 ∷ punctuator (codes "[") 1 ∷ zero_at 2 ∷ punctuator (codes "]") 3
    ∷ after_element

-- `a[0]`
abbrev pub element_tree : Expression
element_tree = tree.Index (letter (codes "a") 0) (tree.Constant 0 false false 0 (span 2 3))
    (span 0 4)

-- `int a[b=1];`, what stands in it after `[`, and after `b`
abbrev pub after_name : List Tok
after_name =
    punctuator (codes "=") 7 ∷ number 1 (codes "1") 8 ∷ punctuator (codes "]") 9 ∷ semicolon 10

abbrev pub after_bracket : List Tok
after_bracket = word_of (codes "b") 6 ∷ after_name

abbrev pub length_tokens : List Tok
length_tokens =
    keyword (codes "int") 0 ∷ word_of (codes "a") 4 ∷ punctuator (codes "[") 5 ∷ after_bracket
