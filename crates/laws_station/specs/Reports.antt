-- What a report is: the tokens, the tree, the typed program and the decisions of the bytes of its
-- source, and the verdicts of the plain runs of its tests.
use Rattle.std.specs.Prelude.{◌≡◌, ◌≤◌, ◌↔◌, ℕ, All, List, [], length, map, Option, Some, None, Ok}
use Rattle.sha2.specs.Sha256.{sha256}
use Rattle.mc_limits.specs.Limits.{most_words}
use Rattle.mc_command.specs.Command as command
use Rattle.mc_command.specs.Command.{Judging, Run, command_of}
use Rattle.mc_core.specs.Shape.{word_count}
use Rattle.mc_lex.specs.declared.token.Dialect.TheVariants.{Plain}
use Rattle.mc_lex.specs.Scans.{Scans}
use Rattle.mc_lex.specs.Tokens.{Tok}
use Rattle.mc_tree.specs.Tree.{Item}
use Rattle.mc_grammar.specs.Items.{IsSyntaxOf}
use Rattle.mc_subset.specs.Forms.{first_outside}
use Rattle.mc_subset.specs.Nodes.{nodes_of_unit}
use Rattle.mc_typed.specs.Tree.{Program}
use Rattle.mc_typed.specs.Plans.{Plan}
use Rattle.types_rules.specs.Typing.{IsTypingOf}
use Rattle.decide_rules.specs.Decisions.{AreDecisions, Decision, IsSmall}
use Rattle.mc_probe.specs.Maps.{Map, IsMapOf}
use Rattle.instrument_bits.specs.Faults.{HasFewPaths}
use Rattle.mc_meaning.specs.Seen.{plainly_told}
use Rattle.mc_meaning.specs.Tests.{Stands, plain_state}
use Rattle.mc_tests.specs.File.{tests_file}
use Rattle.mc_justify.specs.Justifications.{justifications_of}
use Rattle.report_options.specs.declared.form.Form.{Form}
use Rattle.report_options.specs.declared.mode.Mode.{Mode}
use Rattle.mc_oblige.specs.Obligations.{obligations_of}
use Rattle.mc_oblige.specs.Verdicts.{AreVerdicts}
use Rattle.mc_oblige.specs.declared.justification.Justification.{Justification}
use Rattle.mc_oblige.specs.declared.verdict.Verdict.{Verdict}
use Rattle.mc_report.specs.Forms.{lines_in_form}
use Rattle.mc_report.specs.Report.{Report}
use Rattle.mc_report.specs.Status.{status_of}
use Rattle.mc_port.specs.Store.{Files}
use Rattle.station_replies.specs.Files.{Holds}
use Rattle.station_replies.specs.Reply.{Reply, written}
use Rattle.mc_station.specs.Calls.{Call, CallsFor}
use Rattle.mc_station.specs.Causes.{IsOfText}
use Rattle.mc_station.specs.Stages.{reasons_named, source_named, tests_named}

-- ---- the source

-- the bytes of a source are this program, whose places and decisions are those of this map
pub record IsProgramOf (source : List ℕ) (program : Program) (m : Map) : Type 0 where
  -- its tokens (C17 6.4)
  pub tokens : List Tok
  pub scanned : Scans Plain [] source tokens None
  -- their tree (C17 6.9), no node of which is outside the profile
  pub tree : List Item
  pub parsed : IsSyntaxOf Plain tokens tree
  pub inside : first_outside (nodes_of_unit tree) ≡ None
  -- what it is typed as, without a fault of names and types (C17 6.2 to 6.9)
  pub typed : IsTypingOf tree program
  -- its decisions: none has too many conditions or paths
  pub decisions : List Decision
  pub decided : AreDecisions program.functions decisions
  pub small : All IsSmall decisions
  pub few : All HasFewPaths decisions
  -- its entries, exits, counted statements, labels and decisions, in the order of the text
  pub mapped : IsMapOf program m

-- ---- the report

-- the report of these tests, in this mode and with these justifications, has these verdicts
abbrev pub report_of : (source : List ℕ) → Program → Map → Mode → List Plan → List Verdict → Report
report_of source program m mode plans verdicts = record {
  source = source;
  digest = sha256 source;
  mode = mode;
  names = map (λ plan. plan.name) plans;
  states = map (plain_state program) plans;
  results = Some (map (plainly_told program) plans);
  decisions = m.decisions;
  obligations = obligations_of m;
  verdicts = verdicts;
}

-- the justifications of a file of this name, each of an obligation of this source; none where no
-- file is named
abbrev pub AreJustified : Option Files → Option (List ℕ) → (source : List ℕ) → Map
    → List Justification → Type 0
AreJustified files None source m js = js ≡ []
AreJustified files (Some name) source m js =
    (bytes : List ℕ) × Holds files (reasons_named name) bytes
    × (justifications_of bytes (obligations_of m) source ≡ Ok js)

-- the report on a source of this name, by the tests of a run
pub record IsReportOn (skipped : List ℕ) (files : Option Files) (name : List ℕ) (run : Run)
    (judging : Judging) (r : Report) : Type 0 where
  pub source : List ℕ
  pub source_holds : Holds files (source_named name) source
  pub program : Program
  pub map_of : Map
  pub of_source : IsProgramOf source program map_of
  pub tests : List ℕ
  pub tests_hold : Holds files (tests_named run.tests) tests
  pub plans : List Plan
  pub of_tests : tests_file program run.fuel tests ≡ Ok plans
  -- all bits under all tests take few enough words
  pub fits : word_count record { bits = map_of.bits; tests = length plans } ≤ most_words
  pub js : List Justification
  pub justified : AreJustified files judging.justify source map_of js
  -- by the events that stand in the plain runs, each under its test
  pub verdicts : List Verdict
  pub judged : AreVerdicts (Stands skipped program plans) map_of judging.mode js verdicts
  pub is : r ≡ report_of source program map_of judging.mode plans verdicts

-- `report` calls for a reply with 0 or 1 exactly where it is the text of a report on the source
abbrev pub ReportsAreOfTheirSource : Type 0
ReportsAreOfTheirSource =
    (call : Call) (name : List ℕ) (run : Run) (judging : Judging) (form : Form) (reply : Reply)
    → command_of call.words ≡ Some (command.on_source name (command.run run))
    → run.task ≡ command.on_matrix (command.judged judging)
    → judging.telling ≡ command.report form
    → (CallsFor call reply × IsOfText reply.status)
    ↔ ((r : Report) × IsReportOn call.skipped call.files name run judging r
    × (reply ≡ written (status_of r) (lines_in_form form r)))
