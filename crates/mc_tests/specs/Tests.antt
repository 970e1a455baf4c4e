-- The tests that the records of a tests file make, and the faults that a record has beside those
-- before it.
use Rattle.std.specs.Prelude.{ℕ, Bool, true, not, ◌&&◌, List, [], ◌∷◌, ◌++◌, length, map, Option, Some, None, if◌then◌else◌, nat_le}
use Rattle.std.specs.List.{list_all, list_any}
use Rattle.std.specs.Str.{bytes_eq}
use Rattle.mc_limits.specs.Limits.{most_calls, most_expected, most_inputs, most_tests}
use Rattle.mc_typed.specs.Plans.{Plan, expected_outputs}
use Rattle.mc_tests.specs.declared.fault.TestFault.{TestFault}
use Rattle.mc_tests.specs.declared.fault.TestFault.TheVariants as fault
use Rattle.mc_tests.specs.Lines.{Line}

-- a test of one record
abbrev pub test_of : ℕ → Line → Plan
test_of fuel line =
    record { name = line.name; calls = line.call ∷ []; inputs = line.inputs; fuel = fuel }

-- a record put before those of a test
abbrev pub before_test : Line → Plan → Plan
before_test line plan = record {
  name = plan.name;
  calls = line.call ∷ plan.calls;
  inputs = line.inputs ++ plan.inputs;
  fuel = plan.fuel;
}

-- a record put before those of some tests: it belongs to the first one where that has its name
abbrev pub before_tests : ℕ → Line → List Plan → List Plan
before_tests fuel line [] = test_of fuel line ∷ []
before_tests fuel line (plan ∷ plans) =
    if bytes_eq line.name plan.name then before_test line plan ∷ plans
    else test_of fuel line ∷ plan ∷ plans

-- the tests that some records make: those that follow each other with one name are one test, whose
-- inputs are theirs, joined in order
abbrev pub tests_of : ℕ → List Line → List Plan
tests_of fuel [] = []
tests_of fuel (line ∷ lines) = before_tests fuel line (tests_of fuel lines)

-- no name stands twice
abbrev pub are_distinct : List (List ℕ) → Bool
are_distinct [] = true
are_distinct (name ∷ names) = not (list_any (bytes_eq name) names) && are_distinct names

abbrev pub names_of : List Plan → List (List ℕ)
names_of plans = map (λ p. p.name) plans

-- calls, inputs and expected outputs are within their limits
abbrev pub is_small : Plan → Bool
is_small plan = nat_le (length plan.calls) most_calls && nat_le (length plan.inputs) most_inputs
    && nat_le (expected_outputs plan.calls) most_expected

-- so are the tests
abbrev pub keeps_limits : List Plan → Bool
keeps_limits plans = nat_le (length plans) most_tests && list_all is_small plans

-- the fault of the record with number `row` where these are the tests that it makes with those
-- before it: a name of an earlier test comes again, or a limit is passed
abbrev pub tests_fault : ℕ → List Plan → Option TestFault
tests_fault row plans =
    if not (are_distinct (names_of plans)) then Some (fault.NameAgain row)
    else if not (keeps_limits plans) then Some (fault.Limit row) else None
