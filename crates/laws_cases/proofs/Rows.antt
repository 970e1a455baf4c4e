-- What tells the first row of a table from a wrong one.
use Rattle.std.proofs.Common.{◌≡◌, ℕ, List, ◌∷◌, Option, Some, ap, arith}
use Rattle.mc_value.specs.declared.operators.BinOp.TheVariants as op
use Rattle.mc_typed.specs.declared.operators.Operator.TheVariants.{Binary}
use Rattle.mc_typed.specs.Tree.{Effect, Expression}
use Rattle.mc_typed.specs.Tree as typed
use Rattle.types_rules.specs.Types.{Base, Integer}
use Rattle.laws_types.specs.Written.{place_of}
use Rattle.laws_cases.specs.TypeTables.{AssignmentIsNoSum, LongIsNotInt, SumIsNoChoice, SumIsNoDifference, WrongRowIsNone}

abbrev first_word : List (Option Base) → ℕ
first_word (Some (Integer a) ∷ rest) = place_of a
first_word _ = 99

pub long_is_not_int : LongIsNotInt
long_is_not_int same = let places : 8 ≡ 6 = ap first_word same in omega (arith, places)

abbrev first_effect : List (Option Effect) → ℕ
first_effect (Some (typed.Assign place a e span) ∷ rest) = 1
first_effect (Some (typed.Update place a (Binary op.Add) b e span) ∷ rest) = 2
first_effect _ = 0

pub sum_is_no_difference : SumIsNoDifference
sum_is_no_difference same = let places : 2 ≡ 0 = ap first_effect same in omega (arith, places)

pub assignment_is_no_sum : AssignmentIsNoSum
assignment_is_no_sum same = let places : 1 ≡ 2 = ap first_effect same in omega (arith, places)

abbrev first_value : List (Option Expression) → ℕ
first_value (Some (typed.Binary operator a e f span) ∷ rest) = 20
first_value (Some (typed.Choice e f g a span) ∷ rest) = 21
first_value (Some (typed.Read place a) ∷ rest) = place_of a
first_value _ = 99

pub sum_is_no_choice : SumIsNoChoice
sum_is_no_choice same = let places : 20 ≡ 21 = ap first_value same in omega (arith, places)

pub wrong_row_is_none : WrongRowIsNone
wrong_row_is_none same = let places : 6 ≡ 8 = ap first_value same in omega (arith, places)
