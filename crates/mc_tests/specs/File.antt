-- The plans that a tests file stands for, or its first fault.
use Rattle.std.specs.Prelude.{◌≡◌, true, ℕ, ◌+◌, List, [], ◌∷◌, ◌++◌, Option, Some, None, Result, Ok, Err, if◌then◌else◌}
use Rattle.std.specs.List.{list_all}
use Rattle.csv_records.specs.Rows.{Fields, rows_of}
use Rattle.mc_typed.specs.Tree.{Function, Program}
use Rattle.mc_typed.specs.Plans.{Fits, Plan}
use Rattle.mc_tests.specs.declared.fault.TestFault.{TestFault}
use Rattle.mc_tests.specs.declared.fault.TestFault.TheVariants as fault
use Rattle.csv_records.specs.Names.{is_name}
use Rattle.plan_fields.specs.Fields.{is_header}
use Rattle.mc_tests.specs.Lines.{Line, line_of}
use Rattle.mc_tests.specs.Tests.{are_distinct, names_of, tests_of, tests_fault}

-- what comes after a record: its own fault, or what comes of its call
abbrev pub after_line : Result Line TestFault → (Line → Result (List Plan) TestFault)
    → Result (List Plan) TestFault
after_line (Err f) later = Err f
after_line (Ok line) later = later line

-- a fault that a record has beside those before it, or what comes after it
abbrev pub unless_fault : Option TestFault → Result (List Plan) TestFault
    → Result (List Plan) TestFault
unless_fault (Some f) later = Err f
unless_fault None later = later

-- the tests that the calls so far and these records make, which are numbered from `row`, or the
-- fault of the first of them that has one
abbrev pub records_from : List Function → ℕ → ℕ → List Line → List Fields
    → Result (List Plan) TestFault
records_from functions fuel row lines [] = Ok (tests_of fuel lines)
records_from functions fuel row lines (fields ∷ later) =
    after_line (line_of functions row fields) (λ line.
    unless_fault (tests_fault row (tests_of fuel (lines ++ line ∷ [])))
    (records_from functions fuel (row + 1) (lines ++ line ∷ []) later))

-- record 1 is the header
abbrev pub rows_file : List Function → ℕ → List Fields → Result (List Plan) TestFault
rows_file functions fuel [] = Err (fault.Header 1)
rows_file functions fuel (first ∷ records) =
    if is_header first then records_from functions fuel 2 [] records else Err (fault.Header 1)

-- the plans that the bytes of a tests file stand for, or its first fault
abbrev pub tests_file : Program → ℕ → List ℕ → Result (List Plan) TestFault
tests_file program fuel bytes = rows_file program.functions fuel (rows_of bytes)

abbrev pub AllFit : Program → List Plan → Type 0
AllFit program [] = Unit {0}
AllFit program (plan ∷ plans) = Fits plan program × AllFit program plans

-- each is the name of a test, and no two are the same
pub record AreNamed (plans : List Plan) : Type 0 where
  pub each : list_all is_name (names_of plans) ≡ true
  pub distinct : are_distinct (names_of plans) ≡ true
