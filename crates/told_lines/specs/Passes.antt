-- How many tests passed.
use Rattle.std.specs.Prelude.{ℕ, Bool, true, false, List, [], ◌∷◌, codes, count_by, length}
use Rattle.std.specs.Fmt.{decimal}
use Rattle.std.specs.List.{concat}
use Rattle.mc_typed.specs.declared.plans.TestState.{TestState}
use Rattle.mc_typed.specs.declared.plans.TestState.TheVariants.{Pass, Fail, Ended}
use Rattle.told_lines.specs.Values.{newline}

abbrev pub passed : TestState → Bool
passed Pass = true
passed Fail = false
passed (Ended why) = false

-- of this number of tests this number passed
abbrev pub passed_text : (tests passed : ℕ) → List ℕ
passed_text tests passed =
    concat (codes "tests " ∷ decimal tests ∷ codes " passed "
    ∷ decimal passed
    ∷ newline
    ∷ [])

-- how many tests there are, and how many of them passed
abbrev pub passed_line : List TestState → List ℕ
passed_line states = passed_text (length states) (count_by passed states)
