-- The first answer of a table.
use Rattle.std.proofs.Common.{◌≡◌, ℕ, List, [], ◌∷◌, Option, Some, None, ap, arith}
use Rattle.types_faults.specs.declared.fault.Fault.{Fault}
use Rattle.laws_cases.specs.Told.{WrongAnswersAreNone}

abbrev first_place : List (Option Fault) → ℕ
first_place [] = 0
first_place (None ∷ rest) = 0
first_place (Some fault ∷ rest) = fault.at

pub wrong_answers : WrongAnswersAreNone
wrong_answers = (
  (λ e. let places : 10 ≡ 0 = ap first_place e in omega (arith, places)),
  (λ e. let places : 10 ≡ 4 = ap first_place e in omega (arith, places)),
)
