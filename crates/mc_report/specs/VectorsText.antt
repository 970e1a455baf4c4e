-- The lines of tests and of the vectors that they evaluate.
use Rattle.std.specs.Prelude.{ℕ, ◌+◌, ◌<◌, List, [], ◌∷◌, ◌++◌, map, codes, slice_get}
use Rattle.std.specs.List.{concat}
use Rattle.std.specs.Fmt.{decimal}
use Rattle.mc_typed.specs.declared.plans.TestState.{TestState}
use Rattle.mc_meaning.specs.Seen.{Told}
use Rattle.mc_probe.specs.Maps.{Mapped}
use Rattle.mc_oblige.specs.declared.evaluated.EvaluatedPath.{EvaluatedPath}
use Rattle.mc_report.specs.Words.{newline}
use Rattle.mc_report.specs.Lines.{run_lines, name_text, path_text}
use Rattle.mc_report.specs.Report.{HasPath}

-- its decision has the path, and its test is one of so many
pub record IsPresent (tests : ℕ) (decisions : List Mapped) (e : EvaluatedPath) : Type 0 where
  pub path : HasPath (slice_get decisions e.decision) e.path
  pub test : e.test < tests

-- the decision, numbered from 1, the vector, and the name of its test
abbrev pub vector_line : List (List ℕ) → List Mapped → EvaluatedPath → List ℕ
vector_line names decisions e =
    concat (codes "D" ∷ decimal (e.decision + 1)
    ∷ path_text (slice_get decisions e.decision) e.path
    ∷ name_text names e.test
    ∷ newline
    ∷ [])

-- the lines of the tests, and then one for each path
abbrev pub vectors_lines : List (List ℕ) → List TestState → List Told → List Mapped
    → List EvaluatedPath → List (List ℕ)
vectors_lines names states results decisions paths =
    run_lines names states results ++ map (vector_line names decisions) paths
