-- What workers share, and what each of them comes to.
use Rattle.std.specs.Prelude.{◌≡◌, ◌≤◌, ℕ, List, [], ◌∷◌, map, slice_get, Option, Some, None, All, IfOk, Result, Vec}
use Rattle.std.specs.declared.alloc.AllocError.{AllocError}
use Rattle.std.specs.declared.alloc.Global.{Global}
use Rattle.mc_limits.specs.Limits.{most_bits}
use Rattle.mc_typed.specs.Plans.{Fits, plan_of}
use Rattle.mc_probe.specs.Erase.{erase}
use Rattle.mc_probe.specs.Trees.{tree_of}
use Rattle.interp_trail.specs.declared.test_trace.TestTrace.{TestTrace}
use Rattle.interp_trail.specs.Seen.{trace_of}
use Rattle.interp_trail.specs.Traced.{Traced}
use Rattle.mc_results.specs.declared.task.Task.{Task}
use Rattle.mc_results.specs.Traced.{all_traced}

-- the tests fit the program, which has no more bits than a program can have
pub record CanWork (t : Task) : Type 0 where
  pub bits : t.program.now.bits ≤ most_bits
  pub fit : All (λ plan. Fits (plan_of plan) (erase (tree_of t.program.now).program)) t.plans.now

-- what is told of each test
unfoldable pub traced_in : Task → List Traced
traced_in t = all_traced t.layout (tree_of t.program.now) (map plan_of t.plans.now)

-- ---- the parts of workers

-- the trace is that of the test with this number
abbrev pub IsAt : List Traced → ℕ × TestTrace → Type 0
IsAt all r = slice_get all r.0 ≡ Some (trace_of r.1)

-- the traces of a worker, each with the number of its test, or that there was no memory
abbrev pub Part : Type 0
Part = Result (Vec (ℕ × TestTrace) Global) AllocError

-- each trace is that of its test
abbrev pub ArePart : List Traced → Part → Type 0
ArePart all part = IfOk part (λ v. All (IsAt all) v.items)

-- a trace that is there is the right one
abbrev pub IsRight : Traced → Option TestTrace → Type 0
IsRight t None = Unit {0}
IsRight t (Some trace) = trace_of trace ≡ t

-- there is a place for each, and each trace that is there is the right one
abbrev pub AreRight : List Traced → List (Option TestTrace) → Type 0
AreRight [] [] = Unit {0}
AreRight [] (s ∷ slots) = ⊥
AreRight (t ∷ all) [] = ⊥
AreRight (t ∷ all) (s ∷ slots) = IsRight t s × AreRight all slots
