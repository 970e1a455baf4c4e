-- That the run of an instrumented program is that of the program.
use Rattle.std.specs.Prelude.{◌≡◌, ℕ, List, [], map}
use Rattle.mc_typed.specs.Tree.{Program}
use Rattle.mc_typed.specs.Sound.{IsSound}
use Rattle.mc_typed.specs.Plans.{Plan, Fits}
use Rattle.mc_steps.specs.Events.{Event}
use Rattle.mc_steps.specs.Tests.{TestRun}
use Rattle.mc_meaning.specs.Stores.{Store}
use Rattle.mc_meaning.specs.Tests.{plain_run}
use Rattle.mc_probe.specs.Flat.{Flat}
use Rattle.mc_probe.specs.Tree.{Tree}
use Rattle.mc_probe.specs.Tests.{run_of}
use Rattle.mc_probe.specs.Maps.{Map, image}
use Rattle.mc_probe.specs.Table.{IsInstrumented}
use Rattle.mc_probe.specs.Bare.{bare_tree}

-- The run ends as the plain run does, with its values, its output and the fuel that it leaves, and
-- hits the bits of the plain run's events, in their order.
pub record RunsAs (m : Map) (plain : TestRun Store Event) (run : TestRun Flat ℕ) : Type 0 where
  pub ending : run.ending ≡ plain.ending
  pub done : run.done ≡ plain.done
  pub output : run.state.output ≡ plain.state.output
  pub fuel : run.state.fuel ≡ plain.state.fuel
  pub hits : run.events ≡ map (image m) plain.events

-- for every plan that fits
abbrev pub InstrumentedRunsAsPlain : Type 0
InstrumentedRunsAsPlain =
    (p : Program) (m : Map) (tree : Tree) (plan : Plan) → IsSound p → Fits plan p →
    IsInstrumented p m tree → RunsAs m (plain_run p plan) (run_of tree plan)

-- ---- without probes

-- no event has a bit
abbrev pub nothing : Event → List ℕ
nothing e = []

-- The run ends as the plain run does, with its values, its output and the fuel that it leaves, and
-- hits nothing.
pub record RunsBare (plain : TestRun Store Event) (run : TestRun Flat ℕ) : Type 0 where
  pub ending : run.ending ≡ plain.ending
  pub done : run.done ≡ plain.done
  pub output : run.state.output ≡ plain.state.output
  pub fuel : run.state.fuel ≡ plain.state.fuel
  pub hits : run.events ≡ []

abbrev pub BareRunsAsPlain : Type 0
BareRunsAsPlain =
    (p : Program) (plan : Plan) → IsSound p → Fits plan p →
    RunsBare (plain_run p plan) (run_of (bare_tree p) plan)
