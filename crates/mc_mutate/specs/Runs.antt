-- The runs of tests on mutants, by workers.
use Rattle.std.specs.Prelude.{◌≡◌, ◌<◌, ◌≤◌, ◌+◌, ◌*◌, ℕ, List, Option, Some, None, All, length, map}
use Rattle.mc_limits.specs.Limits.{most_mutants, most_tests}
use Rattle.mc_typed.specs.Sound.{IsSound}
use Rattle.mc_typed.specs.Tree.{Program}
use Rattle.mc_typed.specs.Views.{program_of}
use Rattle.mc_typed.specs.Plans.{Plan, Fits, plan_of}
use Rattle.mc_cover.specs.Model.{CoverView, PassView}
use Rattle.mc_cover.specs.Views.{opener}
use Rattle.cover_recorder.specs.Crew.{HasWorked, IsAtWork}
use Rattle.cover_recorder.specs.Recorder.{RecorderView, bits_of, claimed, fresh, pass_of}
use Rattle.mc_mutate.specs.declared.kills.original.Original.{Original}
use Rattle.mc_mutate.specs.declared.kills.runs.Job.{Job}
use Rattle.mc_mutate.specs.declared.kills.runs.Task.{Task}
use Rattle.mc_mutate.specs.Kills.{Shown, does_of, shown}
use Rattle.mc_mutate.specs.Mutants.{count}

-- ---- the program's own runs

abbrev pub kept_of : Original → Shown
kept_of o = record { ending = o.ending; values = o.values.items; output = o.output.items }

-- what is kept is what the tests show on the program
abbrev pub AreKept : Program → List Plan → List Original → Type 0
AreKept p plans kept = map kept_of kept ≡ map (shown p) plans

-- ---- what the workers share

abbrev pub program_in : Task → Program
program_in t = program_of t.program.now

abbrev pub plans_in : Task → List Plan
plans_in t = map plan_of t.plans.now

-- what each item does
abbrev pub worker_does : Task → ℕ → ℕ → Type 0
worker_does t = does_of (program_in t) (plans_in t)

-- the tests fit the program, what they show is kept, and the cover has an item for each mutant and
-- test
pub record CanWork (t : Task) (c : CoverView) : Type 0 where
  pub sound : IsSound (program_in t)
  pub fit : All (λ plan. Fits (plan_of plan) (program_in t)) t.plans.now
  pub kept : AreKept (program_in t) (plans_in t) t.originals.now
  pub shape : c.shape ≡ record { bits = 1; tests = count (program_in t) * length t.plans.now }
  pub few_mutants : count (program_in t) ≤ most_mutants
  pub few_plans : length t.plans.now ≤ most_tests

-- ---- one worker

abbrev pub IsFresh : RecorderView → Type 0
IsFresh r = r ≡ fresh r.cover (opener r.cover.shape)

-- a worker has been forked from the opener's first pass, and has the task
pub record IsHired (c : CoverView) (t : Task) (j : Job) : Type 0 where
  pub recorder : j.recorder ≡ fresh c (opener c.shape)
  pub task : j.task.now ≡ t

pub record IsReady (j : Job) : Type 0 where
  pub can : CanWork j.task.now j.recorder.cover
  pub fresh : IsFresh j.recorder

abbrev pub IsDone : Job → PassView → Type 0
IsDone j p = HasWorked (worker_does j.task.now) j.recorder.cover p

-- a worker has claimed the item and has not run it
pub record HasDrawn (does : ℕ → ℕ → Type 0) (item : ℕ) (r : RecorderView) : Type 0 where
  pub before : RecorderView
  pub at_work : IsAtWork does before.view
  pub drawn : r ≡ claimed before item
  pub shape : r.view.shape ≡ r.cover.shape
  pub inside : item < r.cover.shape.tests
  pub bits : bits_of r ≡ r.cover.shape.bits
  pub few : length r.view.claims ≤ r.cover.shape.tests

-- a worker has drawn an item, or has ended
abbrev pub HasCome : (ℕ → ℕ → Type 0) → Option ℕ → RecorderView → Type 0
HasCome does (Some item) r = HasDrawn does item r
HasCome does None r = HasWorked does r.cover (pass_of r)
