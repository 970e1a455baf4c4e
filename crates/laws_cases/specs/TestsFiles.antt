-- Fields of tests files.
use Rattle.std.specs.Prelude.{◌≡◌, ℤ, true, false, List, ℕ, [], ◌∷◌, codes, Some}
use Rattle.mc_typed.specs.Tree.{NoResult}
use Rattle.plan_fields.specs.Calls.{may_expect}
use Rattle.plan_fields.specs.Fields.{is_header}

abbrev with_arguments : List ℕ → List (List ℕ)
with_arguments third =
    codes "test" ∷ codes "call" ∷ third ∷ codes "inputs" ∷ codes "expect" ∷ codes "output" ∷ []

-- the third field of the header is `arguments`
abbrev pub HeaderIsWhole : Type 0
HeaderIsWhole =
    (is_header (with_arguments (codes "arguments")) ≡ true)
    × (is_header (with_arguments (codes "args")) ≡ false)

-- a function without a result has no value to expect
abbrev pub NothingIsExpected : Type 0
NothingIsExpected = (value : ℤ) → may_expect (Some value) NoResult ≡ false
