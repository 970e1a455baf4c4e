-- What is recorded of the tests of a source, and what the plain runs say.
use Rattle.std.specs.Prelude.{◌↔◌, ℕ, List}
use Rattle.mc_core.specs.Matrix.{MatrixView, Holds}
use Rattle.mc_typed.specs.Tree.{Program}
use Rattle.mc_typed.specs.Sound.{IsSound}
use Rattle.mc_typed.specs.Plans.{Plan}
use Rattle.mc_steps.specs.Events.{Event}
use Rattle.mc_meaning.specs.Tests.{Stands}
use Rattle.mc_probe.specs.Maps.{Map, IsMapOf}
use Rattle.mc_probe.specs.Tree.{Tree}
use Rattle.report_options.specs.declared.mode.Mode.{Mode}
use Rattle.mc_oblige.specs.declared.evaluated.EvaluatedPath.{EvaluatedPath}
use Rattle.mc_oblige.specs.declared.justification.Justification.{Justification}
use Rattle.mc_oblige.specs.declared.verdict.Verdict.{Verdict}
use Rattle.mc_oblige.specs.Evaluated.{AreEvaluated}
use Rattle.mc_oblige.specs.Shown.{HasEvent}
use Rattle.mc_oblige.specs.Verdicts.{AreVerdicts}
use Rattle.mc_runner.specs.Laws.{IsMarked, IsReady}
use Rattle.mc_runner.specs.Recorded.{AreRecorded}

-- The matrix is what a record keeps of these tests of a sound program with this map: it holds the
-- bits of the events that stand, each under its test.
pub record IsRecorded (skipped : List ℕ) (p : Program) (m : Map) (plans : List Plan)
    (x : MatrixView) : Type 0 where
  pub sound : IsSound p
  pub map : IsMapOf p m
  pub bits : (bit test : ℕ) → Holds x bit test ↔ IsMarked skipped p m plans bit test

-- Such is each matrix that has the bits of the runs of tests that fit the instrumented program, but
-- for those that are skipped.
abbrev pub RunsAreRecorded : Type 0
RunsAreRecorded =
    (skipped : List ℕ) (p : Program) (m : Map) (tree : Tree) (plans : List Plan) (x : MatrixView)
    → IsReady p m tree plans → AreRecorded tree plans skipped x
    → IsRecorded skipped p m plans x

-- it has an event under a test exactly where that stands in the plain runs
abbrev pub EventsAreKept : Type 0
EventsAreKept =
    (skipped : List ℕ) (p : Program) (m : Map) (plans : List Plan) (x : MatrixView)
    → IsRecorded skipped p m plans x
    → (e : Event) (test : ℕ) → HasEvent m x e test ↔ Stands skipped p plans e test

-- the verdicts by it are those by the plain runs
abbrev pub VerdictsAreKept : Type 0
VerdictsAreKept =
    (skipped : List ℕ) (p : Program) (m : Map) (plans : List Plan) (x : MatrixView)
    → IsRecorded skipped p m plans x
    → (mode : Mode) (named : List Justification) (vs : List Verdict)
    → AreVerdicts (HasEvent m x) m mode named vs
    ↔ AreVerdicts (Stands skipped p plans) m mode named vs

-- and so are the paths that are evaluated
abbrev pub PathsAreKept : Type 0
PathsAreKept =
    (skipped : List ℕ) (p : Program) (m : Map) (plans : List Plan) (x : MatrixView)
    → IsRecorded skipped p m plans x
    → (es : List EvaluatedPath)
    → AreEvaluated (HasEvent m x) m es ↔ AreEvaluated (Stands skipped p plans) m es
