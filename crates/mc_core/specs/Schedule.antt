-- The interleaving core: the steps of several workers, in any order.
use Rattle.std.specs.Prelude.{ℕ, ◌-◌, ◌==◌, Bool, false, List, [], ◌∷◌, length, map, replicate, slice_get, slice_index, slice_index_or, slice_set, if◌then◌else◌, Option, Some, None}
use Rattle.std.specs.declared.alloc.Global.{Global}
use Rattle.std.specs.declared.vec.Vec.{Vec}
use Rattle.mc_core.specs.declared.shape.Shape.{Shape}
use Rattle.mc_core.specs.declared.schedule.CoreState.{CoreState}
use Rattle.mc_core.specs.declared.schedule.CoreWorker.{CoreWorker}
use Rattle.mc_core.specs.Matrix.{MatrixView, empty_matrix, with_pair}
use Rattle.mc_core.specs.Steps.{draws_after, claims_after, ends}

-- its tests in the order of their claims, how many bits of the last one remain, and whether it
-- has ended
pub record Worker : Type 0 where
  pub claimed : List ℕ
  pub rest : ℕ
  pub ended : Bool

pub record Core : Type 0 where
  pub draws : ℕ
  pub matrix : MatrixView
  pub workers : List Worker

-- the bits of test t, in the order in which they are hit. A number that is not a test has none
abbrev pub script_of : List (List ℕ) → ℕ → List ℕ
script_of scripts t = slice_index_or scripts t []

abbrev pub last_claim : Worker → ℕ
last_claim w = slice_index w.claimed (length w.claimed - 1)

-- the first of the bits that remain
abbrev pub next_bit : List (List ℕ) → Worker → ℕ
next_bit scripts w =
    let script = script_of scripts (last_claim w) in
    slice_index script (length script - w.rest)

-- a worker that took this number by a claim: of a test, all bits remain
abbrev pub after_claim : List (List ℕ) → ℕ → ℕ → Worker → Worker
after_claim scripts tests drawn w =
    record {
      claimed = claims_after tests drawn w.claimed;
      rest = length (script_of scripts drawn);
      ended = ends tests drawn;
    }

-- a worker that hit a bit
abbrev pub after_hit : Worker → Worker
after_hit w = record { claimed = w.claimed; rest = w.rest - 1; ended = w.ended }

-- worker i claims: it takes the number of draws
abbrev pub claim : List (List ℕ) → Core → ℕ → Worker → Core
claim scripts core i w =
    record {
      draws = draws_after core.draws;
      matrix = core.matrix;
      workers = slice_set core.workers i (after_claim scripts core.matrix.shape.tests core.draws w);
    }

-- worker i hits the next bit of its test: the pair is in the set from then on
abbrev pub hit : List (List ℕ) → Core → ℕ → Worker → Core
hit scripts core i w =
    record {
      draws = core.draws;
      matrix = with_pair core.matrix (next_bit scripts w) (last_claim w);
      workers = slice_set core.workers i (after_hit w);
    }

-- a worker hits while bits of its test remain, else it claims
-- an ended or unknown worker changes nothing
abbrev pub step_of : List (List ℕ) → Core → ℕ → Option Worker → Core
step_of scripts core i None = core
step_of scripts core i (Some w) =
    if w.ended then core
    else (if w.rest == 0 then claim scripts core i w else hit scripts core i w)

abbrev pub step : List (List ℕ) → Core → ℕ → Core
step scripts core i = step_of scripts core i (slice_get core.workers i)

-- a run is any list of workers' numbers, one step each
abbrev pub run : List (List ℕ) → Core → List ℕ → Core
run scripts core [] = core
run scripts core (i ∷ is) = run scripts (step scripts core i) is

-- workers before their first step
abbrev pub fresh_workers : ℕ → List Worker
fresh_workers n = replicate n record { claimed = []; rest = 0; ended = false }

-- no draws and no pairs
abbrev pub start : Shape → ℕ → Core
start shape workers =
    record { draws = 0; matrix = empty_matrix shape; workers = fresh_workers workers }

-- what the code's values stand for
abbrev pub worker_of : CoreWorker → Worker
worker_of w = record { claimed = w.claimed.items; rest = w.rest; ended = w.ended }

abbrev pub workers_of : CoreState → List Worker
workers_of s = map worker_of s.workers.items

abbrev pub core_of : CoreState → Core
core_of s = record { draws = s.draws; matrix = s.matrix; workers = workers_of s }

abbrev pub scripts_of : List (Vec ℕ Global) → List (List ℕ)
scripts_of scripts = map (λ v. v.items) scripts
