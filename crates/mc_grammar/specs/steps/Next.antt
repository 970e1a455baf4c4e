-- What the next token is, as the readers ask it.
use Rattle.std.specs.Prelude.{Bool, true, false, if◌then◌else◌, List, [], ◌∷◌, Option, Some, None, codes}
use Rattle.mc_tree.specs.declared.expressions.unary_operator.UnaryOperator.{UnaryOperator}
use Rattle.mc_tree.specs.declared.expressions.unary_operator.UnaryOperator.TheVariants as unary
use Rattle.mc_tree.specs.declared.expressions.step_operator.StepOperator.{StepOperator}
use Rattle.mc_tree.specs.declared.expressions.step_operator.StepOperator.TheVariants as step
use Rattle.mc_tree.specs.declared.expressions.assignment_operator.AssignmentOperator.{AssignmentOperator}
use Rattle.mc_tree.specs.declared.declarations.specifier_word.SpecifierWord.{SpecifierWord}
use Rattle.mc_tree.specs.declared.declarations.specifier_word.SpecifierWord.TheVariants as word
use Rattle.mc_grammar.specs.Words.{Lexeme, is_keyword, is_punctuator}
use Rattle.mc_grammar.specs.Operators.{assignment_at}
use Rattle.mc_grammar.specs.Nonterminal.{Level}
use Rattle.mc_grammar.specs.Nonterminal as nonterminal

abbrev pub ended : List Lexeme → Bool
ended [] = true
ended (x ∷ ts) = false

abbrev pub step_at : Lexeme → Option StepOperator
step_at x = if is_punctuator (codes "++") x then Some step.Increment
    else (if is_punctuator (codes "--") x then Some step.Decrement else None)

abbrev pub step_next : List Lexeme → Option StepOperator
step_next [] = None
step_next (x ∷ ts) = step_at x

abbrev pub unary_at : Lexeme → Option UnaryOperator
unary_at x = if is_punctuator (codes "+") x then Some unary.Plus
    else (if is_punctuator (codes "-") x then Some unary.Minus
    else (if is_punctuator (codes "~") x then Some unary.Complement
    else (if is_punctuator (codes "!") x then Some unary.Not
    else (if is_punctuator (codes "*") x then Some unary.Dereference
    else (if is_punctuator (codes "&") x then Some unary.Address else None)))))

abbrev pub unary_next : List Lexeme → Option UnaryOperator
unary_next [] = None
unary_next (x ∷ ts) = unary_at x

abbrev pub assignment_next : List Lexeme → Option AssignmentOperator
assignment_next [] = None
assignment_next (x ∷ ts) = assignment_at x

-- which keyword alone is a specifier
abbrev pub word_at : Lexeme → Option SpecifierWord
word_at x = if is_keyword (codes "typedef") x then Some word.Typedef
    else (if is_keyword (codes "static") x then Some word.Static
    else (if is_keyword (codes "extern") x then Some word.Extern
    else (if is_keyword (codes "const") x then Some word.Const
    else (if is_keyword (codes "void") x then Some word.Void
    else (if is_keyword (codes "_Bool") x then Some word.Bool
    else (if is_keyword (codes "char") x then Some word.Char
    else (if is_keyword (codes "short") x then Some word.Short
    else (if is_keyword (codes "int") x then Some word.Int
    else (if is_keyword (codes "long") x then Some word.Long
    else (if is_keyword (codes "signed") x then Some word.Signed
    else (if is_keyword (codes "unsigned") x then Some word.Unsigned else None)))))))))))

abbrev pub word_next : List Lexeme → Option SpecifierWord
word_next [] = None
word_next (x ∷ ts) = word_at x

-- from the level that binds closest
abbrev pub up_to : Level → List Level
up_to nonterminal.product = nonterminal.product ∷ []
up_to nonterminal.sum = nonterminal.product ∷ nonterminal.sum ∷ []
up_to nonterminal.shift = nonterminal.product ∷ nonterminal.sum ∷ nonterminal.shift ∷ []
up_to nonterminal.relation = nonterminal.product ∷ nonterminal.sum ∷ nonterminal.shift
    ∷ nonterminal.relation ∷ []
up_to nonterminal.equality = nonterminal.product ∷ nonterminal.sum ∷ nonterminal.shift
    ∷ nonterminal.relation ∷ nonterminal.equality ∷ []
up_to nonterminal.bit_and = nonterminal.product ∷ nonterminal.sum ∷ nonterminal.shift
    ∷ nonterminal.relation ∷ nonterminal.equality ∷ nonterminal.bit_and ∷ []
up_to nonterminal.bit_xor =
    nonterminal.product ∷ nonterminal.sum ∷ nonterminal.shift ∷ nonterminal.relation
    ∷ nonterminal.equality ∷ nonterminal.bit_and ∷ nonterminal.bit_xor ∷ []
up_to nonterminal.bit_or =
    nonterminal.product ∷ nonterminal.sum ∷ nonterminal.shift ∷ nonterminal.relation
    ∷ nonterminal.equality ∷ nonterminal.bit_and ∷ nonterminal.bit_xor ∷ nonterminal.bit_or ∷ []
up_to nonterminal.land =
    nonterminal.product ∷ nonterminal.sum ∷ nonterminal.shift ∷ nonterminal.relation
    ∷ nonterminal.equality ∷ nonterminal.bit_and ∷ nonterminal.bit_xor ∷ nonterminal.bit_or
    ∷ nonterminal.land ∷ []
up_to nonterminal.lor =
    nonterminal.product ∷ nonterminal.sum ∷ nonterminal.shift ∷ nonterminal.relation
    ∷ nonterminal.equality ∷ nonterminal.bit_and ∷ nonterminal.bit_xor ∷ nonterminal.bit_or
    ∷ nonterminal.land ∷ nonterminal.lor ∷ []
