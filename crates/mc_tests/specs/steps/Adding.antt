-- A record that is put after those of some tests.
use Rattle.std.specs.Prelude.{ℕ, List, [], ◌∷◌, ◌++◌, if◌then◌else◌}
use Rattle.std.specs.Str.{bytes_eq}
use Rattle.mc_typed.specs.Plans.{Plan}
use Rattle.mc_tests.specs.Lines.{Line}
use Rattle.mc_tests.specs.Tests.{test_of}

-- a test with one more record
abbrev pub extended : Plan → Line → Plan
extended plan line = record {
  name = plan.name;
  calls = plan.calls ++ line.call ∷ [];
  inputs = plan.inputs ++ line.inputs;
  fuel = plan.fuel;
}

-- the tests that a test and one more record make
abbrev pub both : ℕ → Plan → Line → List Plan
both fuel plan line =
    if bytes_eq plan.name line.name then extended plan line ∷ []
    else plan ∷ test_of fuel line ∷ []

-- the tests that some tests and one more record make
abbrev pub with_last : ℕ → List Plan → Line → List Plan
with_last fuel [] line = test_of fuel line ∷ []
with_last fuel (plan ∷ []) line = both fuel plan line
with_last fuel (plan ∷ next ∷ plans) line = plan ∷ with_last fuel (next ∷ plans) line
