-- What is told of a test.
use Rattle.std.specs.Prelude.{ℤ, List, Option, map}
use Rattle.mc_typed.specs.declared.plans.Ending.{Ending}
use Rattle.mc_typed.specs.declared.plans.TestState.{TestState}
use Rattle.mc_typed.specs.Tree.{Program}
use Rattle.mc_typed.specs.Plans.{Plan}
use Rattle.mc_meaning.specs.declared.result.TestResult.{TestResult}
use Rattle.mc_meaning.specs.Tests.{plain_run, plain_state}

-- how the run ended, the values of the calls that returned, the output, and the state
pub record Told : Type 0 where
  pub ending : Ending
  pub values : List (Option ℤ)
  pub output : List ℤ
  pub state : TestState

-- what a result of the program stands for
abbrev pub told_of : TestResult → Told
told_of r = record {
  ending = r.ending;
  values = r.values.items;
  output = r.output.items;
  state = r.state;
}

-- what is to be told of the plain run
abbrev pub plainly_told : Program → Plan → Told
plainly_told p plan =
    let r = plain_run p plan in
    record {
      ending = r.ending;
      values = map (λ d. d.value) r.done;
      output = r.state.output;
      state = plain_state p plan;
    }
