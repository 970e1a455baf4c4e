-- Which operator a token is.
use Rattle.std.specs.Prelude.{◌≡◌, ◌||◌, Bool, true, false, List, [], ◌∷◌, Option, Some, None, codes, if◌then◌else◌}
use Rattle.mc_tree.specs.declared.expressions.unary_operator.UnaryOperator.{UnaryOperator}
use Rattle.mc_tree.specs.declared.expressions.unary_operator.UnaryOperator.TheVariants as unary
use Rattle.mc_tree.specs.declared.expressions.step_operator.StepOperator.{StepOperator}
use Rattle.mc_tree.specs.declared.expressions.step_operator.StepOperator.TheVariants as step
use Rattle.mc_tree.specs.declared.expressions.binary_operator.BinaryOperator.{BinaryOperator}
use Rattle.mc_tree.specs.declared.expressions.binary_operator.BinaryOperator.TheVariants as binary
use Rattle.mc_tree.specs.declared.expressions.assignment_operator.AssignmentOperator.{AssignmentOperator}
use Rattle.mc_tree.specs.declared.expressions.assignment_operator.AssignmentOperator.TheVariants as assign
use Rattle.mc_tree.specs.declared.declarations.specifier_word.SpecifierWord.{SpecifierWord}
use Rattle.mc_tree.specs.declared.declarations.specifier_word.SpecifierWord.TheVariants as word
use Rattle.mc_grammar.specs.Words.{Lexeme, is_punctuator, is_keyword}
use Rattle.mc_grammar.specs.Nonterminal.{Level}
use Rattle.mc_grammar.specs.Nonterminal as nonterminal

-- C17 6.5.3.2, 6.5.3.3
pub data IsUnary : Lexeme → UnaryOperator → Type 0 where
  plus : {x : Lexeme} → is_punctuator (codes "+") x ≡ true → IsUnary x unary.Plus
  minus : {x : Lexeme} → is_punctuator (codes "-") x ≡ true → IsUnary x unary.Minus
  complement : {x : Lexeme} → is_punctuator (codes "~") x ≡ true → IsUnary x unary.Complement
  not : {x : Lexeme} → is_punctuator (codes "!") x ≡ true → IsUnary x unary.Not
  dereference : {x : Lexeme} → is_punctuator (codes "*") x ≡ true → IsUnary x unary.Dereference
  address : {x : Lexeme} → is_punctuator (codes "&") x ≡ true → IsUnary x unary.Address

-- C17 6.5.2.4, 6.5.3.1
pub data IsStep : Lexeme → StepOperator → Type 0 where
  increment : {x : Lexeme} → is_punctuator (codes "++") x ≡ true → IsStep x step.Increment
  decrement : {x : Lexeme} → is_punctuator (codes "--") x ≡ true → IsStep x step.Decrement

-- the operator between two operands, at its level of precedence, if the token is one
abbrev pub operator_at : Level → Lexeme → Option BinaryOperator
-- C17 6.5.5
operator_at nonterminal.product x =
    if is_punctuator (codes "*") x then Some binary.Multiply
    else (if is_punctuator (codes "/") x then Some binary.Divide
    else (if is_punctuator (codes "%") x then Some binary.Remainder else None))
-- C17 6.5.6
operator_at nonterminal.sum x =
    if is_punctuator (codes "+") x then Some binary.Add
    else (if is_punctuator (codes "-") x then Some binary.Subtract else None)
-- C17 6.5.7
operator_at nonterminal.shift x =
    if is_punctuator (codes "<<") x then Some binary.ShiftLeft
    else (if is_punctuator (codes ">>") x then Some binary.ShiftRight else None)
-- C17 6.5.8
operator_at nonterminal.relation x =
    if is_punctuator (codes "<") x then Some binary.Less
    else (if is_punctuator (codes ">") x then Some binary.Greater
    else (if is_punctuator (codes "<=") x then Some binary.LessOrEqual
    else (if is_punctuator (codes ">=") x then Some binary.GreaterOrEqual else None)))
-- C17 6.5.9
operator_at nonterminal.equality x =
    if is_punctuator (codes "==") x then Some binary.Equal
    else (if is_punctuator (codes "!=") x then Some binary.Unequal else None)
-- C17 6.5.10
operator_at nonterminal.bit_and x = if is_punctuator (codes "&") x then Some binary.BitAnd else None
-- C17 6.5.11
operator_at nonterminal.bit_xor x = if is_punctuator (codes "^") x then Some binary.BitXor else None
-- C17 6.5.12
operator_at nonterminal.bit_or x = if is_punctuator (codes "|") x then Some binary.BitOr else None
-- C17 6.5.13
operator_at nonterminal.land x = if is_punctuator (codes "&&") x then Some binary.And else None
-- C17 6.5.14
operator_at nonterminal.lor x = if is_punctuator (codes "||") x then Some binary.Or else None

-- the same of the next token
abbrev pub operator_next : Level → List Lexeme → Option BinaryOperator
operator_next level [] = None
operator_next level (x ∷ ts) = operator_at level x

-- C17 6.5.16
abbrev pub assignment_at : Lexeme → Option AssignmentOperator
assignment_at x =
    if is_punctuator (codes "=") x then Some assign.Assign
    else (if is_punctuator (codes "*=") x then Some assign.Multiply
    else (if is_punctuator (codes "/=") x then Some assign.Divide
    else (if is_punctuator (codes "%=") x then Some assign.Remainder
    else (if is_punctuator (codes "+=") x then Some assign.Add
    else (if is_punctuator (codes "-=") x then Some assign.Subtract
    else (if is_punctuator (codes "<<=") x then Some assign.ShiftLeft
    else (if is_punctuator (codes ">>=") x then Some assign.ShiftRight
    else (if is_punctuator (codes "&=") x then Some assign.BitAnd
    else (if is_punctuator (codes "^=") x then Some assign.BitXor
    else (if is_punctuator (codes "|=") x then Some assign.BitOr else None))))))))))

abbrev pub is_there : {A : Type 0} → Option A → Bool
is_there None = false
is_there (Some a) = true

-- the next token assigns
abbrev pub sees_assignment : List Lexeme → Bool
sees_assignment [] = false
sees_assignment (x ∷ ts) = is_there (assignment_at x)

-- the next token is `++` or `--`, or begins another suffix (C17 6.5.2)
abbrev pub is_suffix : Lexeme → Bool
is_suffix x =
    is_punctuator (codes "[") x || is_punctuator (codes ".") x || is_punctuator (codes "++") x
    || is_punctuator (codes "--") x

-- `++`, `--` or an operator before its operand (C17 6.5.3)
abbrev pub is_prefix : Lexeme → Bool
is_prefix x =
    is_punctuator (codes "++") x || is_punctuator (codes "--") x || is_punctuator (codes "+") x
    || is_punctuator (codes "-") x || is_punctuator (codes "~") x || is_punctuator (codes "!") x
    || is_punctuator (codes "*") x || is_punctuator (codes "&") x

-- C17 6.7.1 to 6.7.3
pub data IsSpecifierWord : Lexeme → SpecifierWord → Type 0 where
  typedef : {x : Lexeme} → is_keyword (codes "typedef") x ≡ true → IsSpecifierWord x word.Typedef
  static : {x : Lexeme} → is_keyword (codes "static") x ≡ true → IsSpecifierWord x word.Static
  extern : {x : Lexeme} → is_keyword (codes "extern") x ≡ true → IsSpecifierWord x word.Extern
  const : {x : Lexeme} → is_keyword (codes "const") x ≡ true → IsSpecifierWord x word.Const
  void : {x : Lexeme} → is_keyword (codes "void") x ≡ true → IsSpecifierWord x word.Void
  bool : {x : Lexeme} → is_keyword (codes "_Bool") x ≡ true → IsSpecifierWord x word.Bool
  char : {x : Lexeme} → is_keyword (codes "char") x ≡ true → IsSpecifierWord x word.Char
  short : {x : Lexeme} → is_keyword (codes "short") x ≡ true → IsSpecifierWord x word.Short
  int : {x : Lexeme} → is_keyword (codes "int") x ≡ true → IsSpecifierWord x word.Int
  long : {x : Lexeme} → is_keyword (codes "long") x ≡ true → IsSpecifierWord x word.Long
  signed : {x : Lexeme} → is_keyword (codes "signed") x ≡ true → IsSpecifierWord x word.Signed
  unsigned : {x : Lexeme} → is_keyword (codes "unsigned") x ≡ true → IsSpecifierWord x word.Unsigned

-- a word of the type itself
abbrev pub is_type_word : SpecifierWord → Bool
is_type_word word.Typedef = false
is_type_word word.Static = false
is_type_word word.Extern = false
is_type_word word.Const = false
is_type_word _ = true
