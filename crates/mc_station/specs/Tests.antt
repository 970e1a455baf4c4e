-- The tests of a source, and what they come to: their plain runs, and the matrix that they need.
use Rattle.std.specs.Prelude.{◌≡◌, ◌≤◌, ◌<◌, ℕ, List, Option, Some, length, map, Result, Ok, Err, if◌then◌else◌}
use Rattle.std.specs.List.{list_all}
use Rattle.mc_limits.specs.Limits.{most_words}
use Rattle.mc_core.specs.Shape.{word_count}
use Rattle.mc_core.specs.declared.shape.Shape.{Shape}
use Rattle.mc_typed.specs.Tree.{Program}
use Rattle.mc_typed.specs.Plans.{Plan}
use Rattle.mc_typed.specs.declared.plans.TestState.{TestState}
use Rattle.mc_steps.specs.Events.{Event}
use Rattle.mc_meaning.specs.Seen.{Told, plainly_told}
use Rattle.mc_meaning.specs.Tests.{Stands, plain_state}
use Rattle.mc_tests.specs.File.{tests_file}
use Rattle.mc_report.specs.Status.{passed}
use Rattle.station_replies.specs.Phases.{Reads}
use Rattle.station_replies.specs.Reply.{Reply, refusal}
use Rattle.station_replies.specs.Texts.{matrix_line, tests_line}
use Rattle.station_replies.specs.declared.status.Status.TheVariants.{TestsRefused, TooLarge}
use Rattle.mc_station.specs.Source.{Accepted}

-- the plans of a tests file that is accepted, or its first fault
abbrev pub JudgesTests : Program → (fuel : ℕ) → List ℕ → Result (List Plan) Reply → Type 0
JudgesTests program fuel bytes =
    Reads (tests_file program fuel bytes) (λ fault. refusal TestsRefused (tests_line fault))

-- ---- the tests, in the order of the file

abbrev pub names : List Plan → List (List ℕ)
names plans = map (λ plan. plan.name) plans

abbrev pub results : Program → List Plan → List Told
results program plans = map (plainly_told program) plans

abbrev pub states : Program → List Plan → List TestState
states program plans = map (plain_state program) plans

-- what is told of tests by name: their states, and, where they were run and not read from a record,
-- their results
pub record Tested : Type 0 where
  pub names : List (List ℕ)
  pub states : List TestState
  pub results : Option (List Told)

-- of tests that were run
abbrev pub tested_of : Program → List Plan → Tested
tested_of program plans = record {
  names = names plans;
  states = states program plans;
  results = Some (results program plans);
}

-- the events of the plain runs stand, each under its test, but for the tests that are skipped
abbrev pub stands : (skipped : List ℕ) → Accepted → List Plan → Event → ℕ → Type 0
stands skipped accepted plans = Stands skipped accepted.program plans

-- 0 where all tests passed, else 1
abbrev pub status_where : List TestState → ℕ
status_where tests = if list_all passed tests then 0 else 1

-- ---- the matrix of all bits under all tests

abbrev pub shape_of : Accepted → List Plan → Shape
shape_of accepted plans = record { bits = accepted.map.bits; tests = length plans }

abbrev pub words_needed : Accepted → List Plan → ℕ
words_needed accepted plans = word_count (shape_of accepted plans)

-- that the matrix fits, or how many words it would need
abbrev pub MatrixFits : Accepted → List Plan → Result (Unit {0}) Reply → Type 0
MatrixFits accepted plans (Ok u) = words_needed accepted plans ≤ most_words
MatrixFits accepted plans (Err reply) =
    (most_words < words_needed accepted plans)
    × (reply ≡ refusal TooLarge (matrix_line (words_needed accepted plans)))
