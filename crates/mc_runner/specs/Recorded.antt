-- What the runs of tests leave: which bits each of them hits, and what is told of it.
use Rattle.std.specs.Prelude.{◌≡◌, ℕ, ℤ, ◌↔◌, List, length, map, slice_get, Some, Contains}
use Rattle.mc_core.specs.Matrix.{MatrixView, Holds}
use Rattle.mc_typed.specs.declared.plans.Ending.{Ending}
use Rattle.mc_typed.specs.Plans.{Plan}
use Rattle.mc_steps.specs.Tests.{CallDone}
use Rattle.mc_meaning.specs.Seen.{Told}
use Rattle.mc_meaning.specs.Tests.{state_of}
use Rattle.mc_probe.specs.Tree.{Tree}
use Rattle.mc_probe.specs.Tests.{run_of}

-- what is told of a run that ended so, with these calls that returned and this output
abbrev pub told_from : Plan → Ending → List CallDone → List ℤ → Told
told_from plan ending done output = record {
  ending = ending;
  values = map (λ d. d.value) done;
  output = output;
  state = state_of plan.calls ending done output;
}

-- what is told of the run of a test
abbrev pub told_by : Tree → Plan → Told
told_by tree plan =
    let r = run_of tree plan in told_from plan r.ending r.done r.state.output

-- the bit is hit in the run of the test with this number
pub record IsHit (tree : Tree) (plans : List Plan) (bit test : ℕ) : Type 0 where
  pub plan : Plan
  pub planned : slice_get plans test ≡ Some plan
  pub hit : Contains (run_of tree plan).events bit

-- the matrix has the bits of the tree under the tests, and holds a bit where it is hit and the test
-- is not skipped
pub record AreRecorded (tree : Tree) (plans : List Plan) (skipped : List ℕ) (x : MatrixView)
    : Type 0 where
  pub bits : x.shape.bits ≡ tree.bits
  pub tests : x.shape.tests ≡ length plans
  pub hits : (bit test : ℕ) →
      Holds x bit test ↔ (IsHit tree plans bit test × ¬ Contains skipped test)
