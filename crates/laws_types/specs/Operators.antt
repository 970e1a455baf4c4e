-- What an operator of the source stands for in the typed program, with its operands in their order
-- (C17 6.5): one line for each operator, from the text.
use Rattle.std.specs.Prelude.{◌≡◌, pos, true, List, [], ◌∷◌, ◌++◌, map, Some}
use Rattle.mc_tree.specs.declared.expressions.unary_operator.UnaryOperator.TheVariants as unary
use Rattle.mc_tree.specs.declared.expressions.step_operator.StepOperator.TheVariants as step
use Rattle.mc_tree.specs.declared.expressions.binary_operator.BinaryOperator.TheVariants as binary
use Rattle.mc_tree.specs.declared.expressions.assignment_operator.AssignmentOperator.TheVariants as assign
use Rattle.mc_tree.specs.declared.declarations.specifier_word.SpecifierWord.TheVariants as word
use Rattle.mc_tree.specs.Tree as tree
use Rattle.mc_value.specs.declared.int_type.IntType.TheVariants.{Char, Int, UInt, Long}
use Rattle.mc_value.specs.declared.operators.BinOp.TheVariants as op
use Rattle.mc_value.specs.declared.operators.ShiftOp.TheVariants as shift
use Rattle.mc_value.specs.declared.operators.UnOp.TheVariants as un
use Rattle.mc_typed.specs.declared.operators.Operator.TheVariants.{Binary, Shift}
use Rattle.mc_typed.specs.declared.operators.LogicOperator.TheVariants as logic
use Rattle.mc_typed.specs.Tree as typed
use Rattle.laws_types.specs.Written.{here, there, named, digit, judged, done, object, read, read_as}

-- ---- two operands: an int and a long

abbrev pub binaries : List tree.Expression
binaries = map (λ o. tree.Binary o (named Int) (named Long) there)
    (binary.Multiply ∷ binary.Divide ∷ binary.Remainder ∷ binary.Add ∷ binary.Subtract
    ∷ binary.Less ∷ binary.Greater ∷ binary.LessOrEqual ∷ binary.GreaterOrEqual ∷ binary.Equal
    ∷ binary.Unequal ∷ binary.BitAnd ∷ binary.BitXor ∷ binary.BitOr
    ∷ binary.ShiftLeft ∷ binary.ShiftRight ∷ binary.And ∷ binary.Or ∷ [])

-- those of arithmetic, comparison and bits have both operands in the common type, a shift has each
-- in its own, and `&&` and `||` have them as they are
abbrev pub of_binaries : List typed.Expression
of_binaries =
    map (λ o. typed.Binary (Binary o) Long (read_as Long Int) (read Long) there)
    (op.Mul ∷ op.Div ∷ op.Rem ∷ op.Add ∷ op.Sub ∷ op.Lt ∷ op.Gt ∷ op.Le ∷ op.Ge ∷ op.Eq ∷ op.Ne
    ∷ op.And ∷ op.Xor ∷ op.Or ∷ [])
    ++ typed.Binary (Shift shift.Left) Int (read Int) (read Long) there
    ∷ typed.Binary (Shift shift.Right) Int (read Int) (read Long) there
    ∷ typed.Logic logic.And (read Int) (read Long) there
    ∷ typed.Logic logic.Or (read Int) (read Long) there ∷ []

-- ---- one operand

abbrev pub unaries : List tree.Expression
unaries = map (λ o. tree.Unary o (named Char) there)
    (unary.Plus ∷ unary.Minus ∷ unary.Complement ∷ unary.Not ∷ [])

abbrev pub of_unaries : List typed.Expression
of_unaries =
    map (λ o. typed.Unary o Int (read_as Int Char) there) (un.Plus ∷ un.Minus ∷ un.Flip ∷ [])
    ++ typed.Not (read Char) there ∷ []

-- ---- assignments of a long to an int: `=`, and then each compound one

abbrev pub assignments : List tree.Expression
assignments = map (λ o. tree.Assignment o (named Int) (named Long) there)
    (assign.Assign ∷ assign.Multiply ∷ assign.Divide ∷ assign.Remainder ∷ assign.Add
    ∷ assign.Subtract ∷ assign.BitAnd ∷ assign.BitXor ∷ assign.BitOr ∷ assign.ShiftLeft
    ∷ assign.ShiftRight ∷ [])

abbrev pub of_assignments : List typed.Effect
of_assignments =
    typed.Assign (object Int) Int (read_as Int Long) there
    ∷ map (λ o. typed.Update (object Int) Int (Binary o) Long (read Long) there)
    (op.Mul ∷ op.Div ∷ op.Rem ∷ op.Add ∷ op.Sub ∷ op.And ∷ op.Xor ∷ op.Or ∷ [])
    ++ typed.Update (object Int) Int (Shift shift.Left) Int (read Long) there
    ∷ typed.Update (object Int) Int (Shift shift.Right) Int (read Long) there ∷ []

-- ---- steps: 1 is added or subtracted, and stands where the two bytes of the operator stand

abbrev pub steps : List tree.Expression
steps =
    tree.PostfixStep step.Increment (named Char) there
    ∷ tree.PostfixStep step.Decrement (named Char) there
    ∷ tree.PrefixStep step.Increment (named Char) there
    ∷ tree.PrefixStep step.Decrement (named Char) there ∷ []

abbrev pub after : typed.Expression
after = typed.Constant (pos 1) Int (record { start = 38; end = 40 })

abbrev pub before : typed.Expression
before = typed.Constant (pos 1) Int (record { start = 30; end = 32 })

abbrev pub of_steps : List typed.Effect
of_steps =
    typed.Update (object Char) Char (Binary op.Add) Int after there
    ∷ typed.Update (object Char) Char (Binary op.Sub) Int after there
    ∷ typed.Update (object Char) Char (Binary op.Add) Int before there
    ∷ typed.Update (object Char) Char (Binary op.Sub) Int before there ∷ []

-- ---- `?:`, casts, and parentheses

abbrev pub as_char : tree.Expression → tree.Expression
as_char e = tree.Cast (tree.type_name (tree.specifiers (tree.Word word.Char here)
    tree.no_specifiers) 0 here) e there

abbrev pub others : List tree.Expression
others =
    tree.Conditional (named Char) (named UInt) (named Long) there
    ∷ tree.Conditional (named Long) (named Char) (named Char) there
    ∷ as_char (named Int)
    ∷ as_char (named Char)
    ∷ tree.Parenthesized (named Int) there
    ∷ tree.Binary binary.Subtract (digit 5) (digit 3) there ∷ []

-- the test of `?:` stays as it is, and its arms have a common type; a cast that is written stands
-- there, also where it changes nothing
abbrev pub of_others : List typed.Expression
of_others =
    typed.Choice (read Char) (read_as Long UInt) (read Long) Long there
    ∷ typed.Choice (read Long) (read_as Int Char) (read_as Int Char) Int there
    ∷ typed.Convert Char true (read Int) there
    ∷ typed.Convert Char true (read Char) there
    ∷ read Int
    ∷ typed.Binary (Binary op.Sub) Int (typed.Constant (pos 5) Int here) (typed.Constant (pos 3) Int here) there
    ∷ []

-- ---- the laws

abbrev pub Kept : List tree.Expression → List typed.Expression → Type 0
Kept es xs = map judged es ≡ map Some xs

abbrev pub AreDone : List tree.Expression → List typed.Effect → Type 0
AreDone es xs = map done es ≡ map Some xs

abbrev pub OperatorsAreKept : Type 0
OperatorsAreKept = Kept binaries of_binaries × Kept unaries of_unaries × Kept others of_others

abbrev pub AssignmentsAreKept : Type 0
AssignmentsAreKept = AreDone assignments of_assignments × AreDone steps of_steps
