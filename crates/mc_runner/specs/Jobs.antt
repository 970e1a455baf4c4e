-- The jobs of workers that run tests, and what comes of them.
use Rattle.std.specs.Prelude.{◌≡◌, ◌<◌, ℕ, List, Option, Some, All, Contains, IfOk, Result, length, map, slice_get, slice_index_or}
use Rattle.std.specs.declared.alloc.AllocError.{AllocError}
use Rattle.mc_cover.specs.declared.view.View.{View}
use Rattle.mc_cover.specs.Model.{CoverView}
use Rattle.mc_cover.specs.Views.{opener}
use Rattle.cover_recorder.specs.Crew.{HasWorked}
use Rattle.cover_recorder.specs.Recorder.{RecorderView, fresh}
use Rattle.mc_meaning.specs.declared.result.TestResult.{TestResult}
use Rattle.mc_meaning.specs.Seen.{Told, told_of}
use Rattle.mc_probe.specs.Erase.{erase}
use Rattle.mc_probe.specs.Tree.{Tree}
use Rattle.mc_probe.specs.Trees.{Instrumented, tree_of}
use Rattle.mc_typed.specs.declared.plans.TestPlan.{TestPlan}
use Rattle.mc_typed.specs.Plans.{Plan, Fits, plan_of}
use Rattle.mc_runner.specs.declared.done.Done.{Done}
use Rattle.mc_runner.specs.declared.job.Job.{Job}
use Rattle.mc_runner.specs.Recorded.{IsHit, told_by}

-- an item of the workers is a test: it hits the bits of its run
abbrev pub does_of : Tree → List Plan → ℕ → ℕ → Type 0
does_of tree plans test bit = IsHit tree plans bit test

-- what is told of each test
abbrev pub told_all : Tree → List Plan → List Told
told_all tree plans = map (told_by tree) plans

-- the number of a test, with what its result tells
abbrev pub numbered : ℕ × TestResult → ℕ × Option Told
numbered r = (r.0, Some (told_of r.1))

-- the number of a test, with what is told of it
abbrev pub told_at : List Told → ℕ → ℕ × Option Told
told_at told test = (test, slice_get told test)

-- the results are those of the claimed tests, each with its test's number
abbrev pub AreTold : List Told → List ℕ → List (ℕ × TestResult) → Type 0
AreTold told claims results = map numbered results ≡ map (told_at told) claims

-- each claimed test has its result in its place
abbrev pub AreFilled : List Told → List ℕ → List TestResult → Type 0
AreFilled told claims results =
    (t : ℕ) → Contains claims t → slice_get (map told_of results) t ≡ slice_get told t

-- ---- jobs

-- a worker has been forked from an opener's pass that knows v, and its machine has the program
pub record IsHired (c : CoverView) (i : Instrumented) (v : View) (j : Job) : Type 0 where
  pub recorder : j.recorder ≡ fresh c v
  pub program : j.machine.program ≡ i

-- a worker that has claimed nothing
abbrev pub IsFresh : RecorderView → Type 0
IsFresh r = r ≡ fresh r.cover (opener r.cover.shape)

-- the tests fit the program of the machine, and the cover has its bits under these tests
pub record CanWork (plans : List TestPlan) (j : Job) : Type 0 where
  pub fresh : IsFresh j.recorder
  pub shape : j.recorder.cover.shape
      ≡ record { bits = j.machine.program.bits; tests = length plans }
  pub fit : All (λ plan. Fits (plan_of plan) (erase (tree_of j.machine.program).program)) plans

-- what a worker hands back
pub record HasDone (tree : Tree) (plans : List Plan) (c : CoverView) (d : Done) : Type 0 where
  pub worked : HasWorked (does_of tree plans) c d.pass
  pub told : AreTold (told_all tree plans) d.pass.view.claims d.results.items

abbrev pub IsDone : List TestPlan → Job → Done → Type 0
IsDone plans j d = HasDone (tree_of j.machine.program) (map plan_of plans) j.recorder.cover d

-- each of this number of jobs is done where it found memory
abbrev pub AreDone : List TestPlan → ℕ → List Job → List (Result Done AllocError) → Type 0
AreDone plans count jobs done =
    (i : ℕ) (j : Job) (d : Result Done AllocError) → i < count →
    IfOk (slice_index_or done i d) (IsDone plans (slice_index_or jobs i j))
