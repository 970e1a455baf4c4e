-- What clauses see of accepted sources and of stages.
use Rattle.std.specs.Prelude.{◌≡◌, ◌≤◌, ℕ, List, Ok, length, map, option_map, ⊤}
use Rattle.sha2.specs.Sha256.{sha256}
use Rattle.mc_command.specs.Command.{mutated, on_matrix, traced, watched}
use Rattle.mc_command.specs.Seen.{ActionIsInRange, IsWithin, RunIsInRange, seen_action, seen_judging, seen_matrix_task, seen_run, seen_source_text}
use Rattle.mc_command.specs.Values.{most_watched_workers}
use Rattle.mc_core.specs.Shape.{word_count}
use Rattle.mc_cover.specs.Model.{IsOf}
use Rattle.mc_cover.specs.Views.{opener}
use Rattle.mc_lex.specs.Tokens.{Tok}
use Rattle.mc_meaning.specs.Seen.{told_of}
use Rattle.mc_mutate.specs.Mutants.{count}
use Rattle.decide_rules.specs.Decisions.{AreDecisions}
use Rattle.decide_rules.specs.Seen.{decision_of}
use Rattle.decide_rules.specs.declared.decision.Decision as code
use Rattle.mc_typed.specs.Sound.{IsSound}
use Rattle.mc_typed.specs.Views.{program_of}
use Rattle.mc_typed.specs.declared.plans.TestPlan.{TestPlan}
use Rattle.mc_tests.specs.File.{AllFit, AreNamed}
use Rattle.mc_tests.specs.Seen.{seen_plans}
use Rattle.mc_probe.specs.BitMaps.{map_of}
use Rattle.mc_probe.specs.Trees.{tree_of}
use Rattle.mc_probe.specs.Table as table
use Rattle.mc_oblige.specs.Obligations.{obligations_of}
use Rattle.mc_oblige.specs.declared.justification.Justification.{Justification}
use Rattle.mc_justify.specs.Returned.{AreFit}
use Rattle.mc_limits.specs.Limits.{most_functions, most_looks, most_mutants, most_source_bytes, most_tests, most_words, most_workers}
use Rattle.mc_record.specs.Kept.{IsKept}
use Rattle.mc_record.specs.Seen.{kept_of}
use Rattle.mc_record.specs.declared.kept.Record.{Record}
use Rattle.mc_station.specs.Source.{Accepted as AcceptedAs, Lexes}
use Rattle.mc_station.specs.Stages.{Basis as BasisOf, Stage as StageOf, kept, last, left, load, merged, reasons, recorded, right, source, tested, tests, usage, writes}
use Rattle.mc_station.specs.Tests.{Tested as TestedAs, shape_of}
use Rattle.mc_station.specs.declared.accepted.Accepted.{Accepted}
use Rattle.mc_station.specs.declared.basis.Basis.{Basis}
use Rattle.mc_station.specs.declared.basis.Basis.TheVariants as basis
use Rattle.mc_station.specs.declared.opened.Opened.{Opened}
use Rattle.mc_station.specs.declared.stage.Stage.{Stage}
use Rattle.mc_station.specs.declared.stage.Stage.TheVariants as stage
use Rattle.mc_station.specs.declared.tested.Tested.{Tested}

-- an accepted source: its program is that of the tree, whatever probes this has
abbrev pub seen_accepted : Accepted → AcceptedAs
seen_accepted a = record {
  source = a.source.now;
  program = program_of a.tree.program;
  map = map_of a.map;
}

abbrev pub seen_basis : Basis → BasisOf
seen_basis (basis.Tested task workers plans opened) =
    tested (on_matrix (seen_matrix_task task)) (seen_plans plans.items)
seen_basis (basis.Watched looks workers plans opened) =
    tested (watched looks) (seen_plans plans.items)
seen_basis (basis.Mutated workers plans decisions) = tested mutated (seen_plans plans.items)
seen_basis (basis.Traced workers plans) = tested traced (seen_plans plans.items)
seen_basis (basis.Recorded judging r) = recorded (seen_judging judging) (kept_of r)

abbrev pub seen_stage : Stage → StageOf
seen_stage stage.Usage = usage
seen_stage (stage.Source name action) = source name.now (seen_action action)
seen_stage (stage.Writes text accepted) = writes (seen_source_text text) (seen_accepted accepted)
seen_stage (stage.Tests run accepted) = tests (seen_run run) (seen_accepted accepted)
seen_stage (stage.Left name other accepted) =
    left name.now other.now (seen_accepted accepted)
seen_stage (stage.Right name accepted first) =
    right name.now (seen_accepted accepted) (kept_of first)
seen_stage (stage.Kept name judging accepted) =
    kept name.now (seen_judging judging) (seen_accepted accepted)
seen_stage (stage.Reasons name accepted basis) =
    reasons name.now (seen_accepted accepted) (seen_basis basis)
seen_stage (stage.Last accepted basis js) =
    last (seen_accepted accepted) (seen_basis basis) js.items
seen_stage (stage.Merged both) = merged (kept_of both)
seen_stage (stage.Load l) = load l.count l.workers

abbrev pub seen_tested : Tested → TestedAs
seen_tested t = record {
  names = t.names.items;
  states = t.states.items;
  results = option_map (λ results. map told_of results.items) t.results;
}

-- ---- what the parts of a stage keep

-- the source has tokens
abbrev pub HasTokens : List ℕ → Type 0
HasTokens text = (tokens : List Tok) × Lexes text (Ok tokens)

-- the tree is the instrumented program of its plain program and the map
pub record HasItsTree (a : Accepted) : Type 0 where
  pub short : length a.source.now ≤ most_source_bytes
  pub tokens : HasTokens a.source.now
  pub sound : IsSound (program_of a.tree.program)
  pub tree : table.IsInstrumented (program_of a.tree.program) (map_of a.map) (tree_of a.tree)

-- the plans are tests of the program, with their names
pub record ArePlanned (a : Accepted) (plans : List TestPlan) : Type 0 where
  pub fit : AllFit (program_of a.tree.program) (seen_plans plans)
  pub named : AreNamed (seen_plans plans)
  pub few : length plans ≤ most_tests

-- the shared words are those of the program's bits under the tests, and nothing is recorded
pub record IsOpened (accepted : Accepted) (plans : List TestPlan) (opened : Opened) : Type 0 where
  pub own : IsOf opened.cover opened.pass
  pub shape : opened.cover.shape ≡ shape_of (seen_accepted accepted) (seen_plans plans)
  pub small : word_count opened.cover.shape ≤ most_words
  pub fresh : opened.pass.view ≡ opener opened.cover.shape

-- the record is one of the source
pub record IsRecordIn (accepted : Accepted) (r : Record) : Type 0 where
  pub keeps : IsKept (kept_of r)
  pub digest : r.digest ≡ sha256 accepted.source.now
  pub bits : r.matrix.shape.bits ≡ accepted.map.bits

-- the decisions of the program, which has few enough mutants
pub record AreMutable (accepted : Accepted) (ds : List code.Decision) : Type 0 where
  pub decisions : AreDecisions (program_of accepted.tree.program).functions (map decision_of ds)
  pub few : count (program_of accepted.tree.program) ≤ most_mutants

-- what the last stage stands on: tests of the program, and shared words for them, the decisions
-- whose mutants they are tried on, or nothing more; or a record
abbrev pub IsBasis : Accepted → Basis → Type 0
IsBasis accepted (basis.Tested task workers plans opened) =
    IsWithin 1 most_workers workers × (ArePlanned accepted plans.items
    × IsOpened accepted plans.items opened)
IsBasis accepted (basis.Watched looks workers plans opened) =
    (IsWithin 1 most_looks looks × IsWithin 1 most_watched_workers workers)
    × (ArePlanned accepted plans.items × IsOpened accepted plans.items opened)
IsBasis accepted (basis.Mutated workers plans decisions) =
    IsWithin 1 most_workers workers × (ArePlanned accepted plans.items
    × AreMutable accepted decisions.items)
IsBasis accepted (basis.Traced workers plans) =
    IsWithin 1 most_workers workers × ArePlanned accepted plans.items
IsBasis accepted (basis.Recorded judging r) = IsRecordIn accepted r

-- the justifications are of the program's obligations
abbrev pub AreReasons : Accepted → List Justification → Type 0
AreReasons accepted js = AreFit (length (obligations_of (map_of accepted.map))) js

abbrev pub IsReady : Stage → Type 0
IsReady stage.Usage = ⊤
IsReady (stage.Source name action) = ActionIsInRange action
IsReady (stage.Writes text accepted) = HasItsTree accepted
IsReady (stage.Tests run accepted) = RunIsInRange run × HasItsTree accepted
IsReady (stage.Left name other accepted) = HasItsTree accepted
IsReady (stage.Right name accepted first) = HasItsTree accepted × IsRecordIn accepted first
IsReady (stage.Kept name judging accepted) = HasItsTree accepted
IsReady (stage.Reasons name accepted basis) = HasItsTree accepted × IsBasis accepted basis
IsReady (stage.Last accepted basis js) =
    HasItsTree accepted × (IsBasis accepted basis × AreReasons accepted js.items)
IsReady (stage.Merged both) = IsKept (kept_of both)
IsReady (stage.Load l) =
    IsWithin 1 most_functions l.count × IsWithin 1 most_workers l.workers
