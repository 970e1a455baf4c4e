-- What clauses see of the texts, calls and tests that are read.
use Rattle.std.specs.Prelude.{◌≡◌, ℕ, Bool, true, List, [], ◌∷◌, ◌++◌, map, Option, Some, None, option_map, Vec}
use Rattle.std.specs.List.{list_any}
use Rattle.std.specs.Str.{bytes_eq}
use Rattle.std.specs.declared.alloc.Global.{Global}
use Rattle.std.specs.BTreeSet.{BTreeSet, contains_by}
use Rattle.std.specs.Cmp.Lexicographic.{slice_cmp}
use Rattle.std.specs.Ordering.{nat_cmp, ordering_then}
use Rattle.std.specs.declared.cmp.Ordering.{Ordering}
use Rattle.name_table.specs.Tables.{Named, last_of}
use Rattle.name_table.specs.Latest.{hash_of}
use Rattle.mc_typed.specs.Plans.{Plan, expected_outputs, plan_call_of, plan_of}
use Rattle.mc_typed.specs.declared.plans.TestPlan.{TestPlan}
use Rattle.mc_typed.specs.Tree.{Function}
use Rattle.mc_tests.specs.Lines as lines
use Rattle.mc_tests.specs.Lines.{function_named}
use Rattle.mc_tests.specs.Tests.{are_distinct, keeps_limits, names_of}
use Rattle.mc_tests.specs.declared.draft.Draft.{Draft}
use Rattle.mc_tests.specs.declared.line.Line.{Line}
use Rattle.mc_tests.specs.declared.tests.Tests.{Tests}

abbrev pub seen_line : Line → lines.Line
seen_line line =
    record { name = line.name.now; call = plan_call_of line.call; inputs = line.inputs.items }

-- the numbers are those of the functions, by their names
abbrev pub AreNumbers : List (Named ℕ) → List Function → Type 0
AreNumbers numbers functions = (q : List ℕ)
    → last_of q numbers ≡ option_map (λ found. found.0) (function_named q 0 functions)

-- ---- tests that are being read

-- the plan of a test whose records are being read
abbrev pub seen_draft : ℕ → Draft → Plan
seen_draft fuel draft = record {
  name = draft.name.items;
  calls = map plan_call_of draft.calls.items;
  inputs = draft.inputs.items;
  fuel = fuel;
}

abbrev pub IsCounted : Draft → Type 0
IsCounted draft = draft.outputs ≡ expected_outputs (map plan_call_of draft.calls.items)

abbrev pub seen_plans : List TestPlan → List Plan
seen_plans plans = map plan_of plans

abbrev pub open_plans : ℕ → Option Draft → List Plan
open_plans fuel None = []
open_plans fuel (Some draft) = seen_draft fuel draft ∷ []

-- the plans of the tests so far
abbrev pub plans_in : Tests → List Plan
plans_in tests = seen_plans tests.done.items ++ open_plans tests.fuel tests.open

-- names, each after its hash
abbrev pub Names : Type 0
Names = BTreeSet (ℕ × Vec ℕ Global)

-- how a name compares to one of these
abbrev pub name_cmp : List ℕ → ℕ × Vec ℕ Global → Ordering
name_cmp q k = ordering_then (nat_cmp (hash_of q) k.0) (slice_cmp nat_cmp q k.1.items)

abbrev pub has_name : Names → List ℕ → Bool
has_name names q = contains_by (name_cmp q) names

-- these are the names of the plans, no two of which have one name, and which keep the limits
pub record AreRead (plans : List Plan) (names : Names) : Type 0 where
  pub named : (q : List ℕ) → has_name names q ≡ list_any (λ n. bytes_eq n q) (names_of plans)
  pub distinct : are_distinct (names_of plans) ≡ true
  pub limits : keeps_limits plans ≡ true

abbrev pub IsOpen : Option Draft → List TestPlan → Type 0
IsOpen None done = done ≡ []
IsOpen (Some draft) done = IsCounted draft

-- what holds after each record; the last test is open
pub record Stand (tests : Tests) : Type 0 where
  pub read : AreRead (plans_in tests) tests.names
  pub open_one : IsOpen tests.open tests.done.items
