-- The runs of instrumented programs beside those of the programs.
use Rattle.std.specs.Prelude.{◌≡◌, ℕ, ◌+◌, List, [], ◌∷◌, length, map}
use Rattle.mc_paths.specs.Paths.{count_of}
use Rattle.mc_typed.specs.Tree.{Program}
use Rattle.mc_typed.specs.Plans.{Plan}
use Rattle.decide_rules.specs.Decisions.{Decision}
use Rattle.decide_rules.specs.steps.Walk.{decided}
use Rattle.mc_steps.specs.Tests.{TestRun}
use Rattle.mc_probe.specs.Obligations.{entry_spans, exit_spans, statement_spans, label_spans}
use Rattle.mc_probe.specs.Maps.{Mapped, Map, image}
use Rattle.mc_probe.specs.Table.{instrumented}
use Rattle.mc_probe.specs.Flat.{Flat}
use Rattle.mc_probe.specs.Tests.{run_of}
use Rattle.tests_meaning.specs.Seen.{Row, Seen}
use Rattle.tests_probe.specs.Laid.{laid_out}

-- ---- the map of a program

-- decisions, whose bits begin with this one
abbrev pub based : ℕ → List Decision → List Mapped
based from [] = []
based from (d ∷ ds) = record { decision = d; base = from } ∷ based (from + count_of d.tree) ds

abbrev pub paths_of : List Decision → ℕ
paths_of [] = 0
paths_of (d ∷ ds) = count_of d.tree + paths_of ds

abbrev pub before_paths : Program → ℕ
before_paths p =
    length (entry_spans p) + length (exit_spans p)
    + length (statement_spans p) + length (label_spans p)

abbrev pub map_of : Program → Map
map_of p = record {
  entries = entry_spans p;
  exits = exit_spans p;
  statements = statement_spans p;
  labels = label_spans p;
  decisions = based (before_paths p) (decided 0 p.functions);
  bits = before_paths p + paths_of (decided 0 p.functions);
}

-- ---- runs

-- what is seen of a run
pub record Hit : Type 0 where
  pub run : Seen
  pub hits : List ℕ

-- the hits stand apart from events
abbrev pub without_events : Seen → Seen
without_events r = record r { events = [] }

abbrev pub hit_of : TestRun Flat ℕ → Hit
hit_of r = record {
  run = record {
    ending = r.ending;
    values = map (λ d. d.value) r.done;
    output = r.state.output;
    fuel = r.state.fuel;
    events = [];
  };
  hits = r.events;
}

abbrev pub instrumented_run : Program → Plan → Hit
instrumented_run p plan = hit_of (run_of (instrumented (map_of p) (laid_out p)) plan)

-- the ending, the values, the output and the fuel are those of the plain run, and the hits are the
-- images of its events
abbrev pub followed : Row → Hit
followed r =
    record { run = without_events r.seen; hits = map (image (map_of r.program)) r.seen.events }

abbrev pub Follow : List Row → Type 0
Follow rows = map (λ r. instrumented_run r.program r.plan) rows ≡ map followed rows
