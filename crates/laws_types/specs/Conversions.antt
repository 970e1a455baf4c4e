-- Conversions that C implies, of operands of all types: which there are, and that there is none
-- where a type is the right one already (C17 6.3.1.1, 6.3.1.8, 6.5.16.1).
use Rattle.std.specs.Prelude.{◌≡◌, List, map, flat_map, Some}
use Rattle.mc_tree.specs.declared.expressions.unary_operator.UnaryOperator.TheVariants as unary
use Rattle.mc_tree.specs.declared.expressions.binary_operator.BinaryOperator.TheVariants as binary
use Rattle.mc_tree.specs.declared.expressions.assignment_operator.AssignmentOperator.TheVariants as assign
use Rattle.mc_tree.specs.Tree as tree
use Rattle.mc_value.specs.declared.int_type.IntType.{IntType}
use Rattle.mc_value.specs.declared.int_type.IntType.TheVariants as the
use Rattle.mc_value.specs.declared.operators.BinOp.TheVariants.{Add}
use Rattle.mc_value.specs.declared.operators.ShiftOp.TheVariants.{Left}
use Rattle.mc_value.specs.declared.operators.UnOp.TheVariants.{Minus}
use Rattle.mc_typed.specs.declared.operators.Operator.TheVariants.{Binary, Shift}
use Rattle.mc_typed.specs.Tree.{Expression, Effect}
use Rattle.mc_typed.specs.Tree as typed
use Rattle.types_rules.specs.Judgement.{judge}
use Rattle.types_rules.specs.Statements.{label_type}
use Rattle.laws_types.specs.Written.{here, types, named, judged, done, scope, object, read, read_as}

-- ---- the integer promotions: what int holds becomes int, the other types stay (C17 6.3.1.1p2)

abbrev pub promotion : IntType → IntType
promotion the.UInt = the.UInt
promotion the.Long = the.Long
promotion the.ULong = the.ULong
promotion the.LLong = the.LLong
promotion the.ULLong = the.ULLong
promotion _ = the.Int

-- ---- the common type of two promoted types, as a table (C17 6.3.1.8p1)

-- Two types of one kind: that of the greater rank. A signed one of greater rank that holds all values
-- of an unsigned one: the signed one. Of no greater rank: the unsigned one. Of greater rank, but too
-- narrow, as `long long` beside `unsigned long`: the unsigned type of that rank.
abbrev pub with_int : IntType → IntType
with_int b = b

abbrev pub with_unsigned : IntType → IntType
with_unsigned the.Int = the.UInt
with_unsigned b = b

abbrev pub with_long : IntType → IntType
with_long the.Int = the.Long
with_long the.UInt = the.Long
with_long b = b

abbrev pub with_unsigned_long : IntType → IntType
with_unsigned_long the.LLong = the.ULLong
with_unsigned_long the.ULLong = the.ULLong
with_unsigned_long b = the.ULong

abbrev pub with_long_long : IntType → IntType
with_long_long the.ULong = the.ULLong
with_long_long the.ULLong = the.ULLong
with_long_long b = the.LLong

abbrev pub common : IntType → IntType → IntType
common the.Int b = with_int b
common the.UInt b = with_unsigned b
common the.Long b = with_long b
common the.ULong b = with_unsigned_long b
common the.LLong b = with_long_long b
common a b = the.ULLong

-- ---- pairs of operands

pub record Two : Type 0 where
  pub left : IntType
  pub right : IntType

abbrev pub with_each : IntType → List Two
with_each a = map (λ b. record { left = a; right = b }) types

abbrev pub pairs : List Two
pairs = flat_map with_each types

abbrev pub common_of_two : Two → IntType
common_of_two x = common (promotion x.left) (promotion x.right)

abbrev pub sum_written : Two → tree.Expression
sum_written x = tree.Binary binary.Add (named x.left) (named x.right) here

abbrev pub sum_typed : Two → Expression
sum_typed x =
    let c = common_of_two x in
    typed.Binary (Binary Add) c (read_as c x.left) (read_as c x.right) here

-- x ? y : z with arms of these types
abbrev pub choice_written : Two → tree.Expression
choice_written x = tree.Conditional (named the.Int) (named x.left) (named x.right) here

abbrev pub choice_typed : Two → Expression
choice_typed x =
    let c = common_of_two x in
    typed.Choice (read the.Int) (read_as c x.left) (read_as c x.right) c here

-- a shift has the promoted type of its left operand, and each operand its own (C17 6.5.7p3)
abbrev pub shift_written : Two → tree.Expression
shift_written x = tree.Binary binary.ShiftLeft (named x.left) (named x.right) here

abbrev pub shift_typed : Two → Expression
shift_typed x =
    typed.Binary (Shift Left) (promotion x.left) (read_as (promotion x.left) x.left)
    (read_as (promotion x.right) x.right) here

-- the right side of an assignment has the type of the left one (C17 6.5.16.1p2)
abbrev pub assigned_written : Two → tree.Expression
assigned_written x = tree.Assignment assign.Assign (named x.left) (named x.right) here

abbrev pub assigned_typed : Two → Effect
assigned_typed x = typed.Assign (object x.left) x.left (read_as x.left x.right) here

-- a compound one works in the common type, a shift in the promoted one of the left side
abbrev pub added_written : Two → tree.Expression
added_written x = tree.Assignment assign.Add (named x.left) (named x.right) here

abbrev pub added_typed : Two → Effect
added_typed x =
    let c = common_of_two x in
    typed.Update (object x.left) x.left (Binary Add) c (read_as c x.right) here

abbrev pub moved_written : Two → tree.Expression
moved_written x = tree.Assignment assign.ShiftLeft (named x.left) (named x.right) here

abbrev pub moved_typed : Two → Effect
moved_typed x =
    typed.Update (object x.left) x.left (Shift Left) (promotion x.left)
    (read_as (promotion x.right) x.right) here

-- ---- the laws

abbrev pub Stand : (Two → tree.Expression) → (Two → Expression) → Type 0
Stand written meant = map (λ x. judged (written x)) pairs ≡ map (λ x. Some (meant x)) pairs

abbrev pub Act : (Two → tree.Expression) → (Two → Effect) → Type 0
Act written meant = map (λ x. done (written x)) pairs ≡ map (λ x. Some (meant x)) pairs

abbrev pub OperandsAreConverted : Type 0
OperandsAreConverted =
    Stand sum_written sum_typed × Stand choice_written choice_typed
    × Stand shift_written shift_typed

abbrev pub AssignedIsConverted : Type 0
AssignedIsConverted =
    Act assigned_written assigned_typed × Act added_written added_typed
    × Act moved_written moved_typed

abbrev pub OneIsPromoted : Type 0
OneIsPromoted =
    map (λ a. judged (tree.Unary unary.Minus (named a) here)) types
    ≡ map (λ a. Some (typed.Unary Minus (promotion a) (read_as (promotion a) a) here)) types

-- the labels of a `switch` have the promoted type of its expression (C17 6.8.4.2p5)
abbrev pub LabelsArePromoted : Type 0
LabelsArePromoted =
    map (λ a. label_type (judge (named a) scope)) types ≡ map (λ a. Some (promotion a)) types
