-- What tells the first row of a table from another.
use Rattle.std.proofs.Common.{◌≡◌, ℕ, List, [], ◌∷◌, Option, Some, None, ap, arith}
use Rattle.mc_value.specs.declared.int_type.IntType.{IntType}
use Rattle.mc_typed.specs.declared.operators.LogicOperator.TheVariants as logic
use Rattle.mc_typed.specs.Tree.{Expression}
use Rattle.mc_typed.specs.Tree as typed
use Rattle.laws_types.specs.Written.{place_of}
use Rattle.laws_cases.specs.Types.{AndIsNotOr, LongConstantIsLong}

abbrev first_logic : List (Option Expression) → ℕ
first_logic (Some (typed.Logic logic.And e f span) ∷ rest) = 1
first_logic _ = 0

pub and_is_not_or : AndIsNotOr
and_is_not_or same = let places : 1 ≡ 0 = ap first_logic same in omega (arith, places)

abbrev first_type : List (Option IntType) → ℕ
first_type [] = 99
first_type (None ∷ rest) = 99
first_type (Some a ∷ rest) = place_of a

pub long_constant : LongConstantIsLong
long_constant = (
  (λ same. let places : 8 ≡ 6 = ap first_type same in omega (arith, places)),
  (λ same. let places : 8 ≡ 7 = ap first_type same in omega (arith, places)),
)
