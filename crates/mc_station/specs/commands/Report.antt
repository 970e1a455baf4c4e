-- The commands that judge the obligations, `report`, `analyse`, `list`, `functions` and `needs`:
-- each tells of one report.
use Rattle.std.specs.Prelude.{◌≡◌, ◌∷◌, ℕ, List, Ok, Option, length}
use Rattle.std.specs.List.{concat}
use Rattle.sha2.specs.Sha256.{sha256}
use Rattle.mc_command.specs.Command as command
use Rattle.mc_command.specs.Command.{Judging, Telling}
use Rattle.mc_functions.specs.Asked.{asked_in, needs_sums}
use Rattle.mc_functions.specs.Measured.{Measured}
use Rattle.mc_functions.specs.Status.{status_of as functions_status}
use Rattle.mc_functions.specs.Text.{function_lines}
use Rattle.mc_lex.specs.Tokens.{Tok}
use Rattle.mc_typed.specs.Plans.{Plan}
use Rattle.mc_steps.specs.Events.{Event}
use Rattle.mc_probe.specs.Maps.{Map}
use Rattle.mc_needs.specs.Answer.{AreNeeds}
use Rattle.needed_paths.specs.Needs.{Needs}
use Rattle.needs_lines.specs.Report.{NeedsReport}
use Rattle.needs_lines.specs.Text.{needs_lines}
use Rattle.report_options.specs.declared.mode.Mode.{Mode}
use Rattle.mc_oblige.specs.declared.obligation.Obligation.{Obligation}
use Rattle.mc_oblige.specs.declared.verdict.Verdict.{Verdict}
use Rattle.mc_typed.specs.declared.plans.TestState.{TestState}
use Rattle.mc_oblige.specs.declared.justification.Justification.{Justification}
use Rattle.mc_oblige.specs.Obligations.{obligations_of}
use Rattle.mc_oblige.specs.Verdicts.{AreVerdicts}
use Rattle.mc_report.specs.Report as text
use Rattle.mc_report.specs.Status.{status_of}
use Rattle.mc_report.specs.Forms.{lines_in_form}
use Rattle.station_replies.specs.Reply.{Reply, written}
use Rattle.mc_station.specs.Output.{listing_pieces}
use Rattle.mc_station.specs.Source.{Accepted, Lexes}
use Rattle.mc_station.specs.Tests.{Tested, stands, tested_of}

abbrev pub report : Mode → Accepted → Tested → List Verdict → text.Report
report mode accepted tests verdicts = record {
  source = accepted.source;
  digest = sha256 accepted.source;
  mode = mode;
  names = tests.names;
  states = tests.states;
  results = tests.results;
  decisions = accepted.map.decisions;
  obligations = obligations_of accepted.map;
  verdicts = verdicts;
}

-- the report has the verdicts of the events that are shown, each under its test, with these
-- justifications
abbrev pub IsReportOn : (shown : Event → ℕ → Type 0) → Mode → Accepted → Tested
    → List Justification → text.Report → Type 0
IsReportOn shown mode accepted tests js r =
    (verdicts : List Verdict)
    × AreVerdicts shown accepted.map mode js verdicts
    × (r ≡ report mode accepted tests verdicts)

-- ---- what is told of a report

-- what is counted by function: the obligations of a source with their verdicts, and how its tests
-- ended; of one file of the source where it is named
abbrev pub parts_measured : (source : List ℕ) → List Obligation → List Verdict → List TestState
    → Option (List ℕ) → Measured
parts_measured source obligations verdicts states file = record {
  source = source;
  obligations = obligations;
  verdicts = verdicts;
  states = states;
  file = file;
}

abbrev pub measured : Option (List ℕ) → text.Report → Measured
measured file r = parts_measured r.source r.obligations r.verdicts r.states file

-- what is told of the vectors that the asked obligations need
abbrev pub needs_told : (tokens : List Tok) → Map → Measured → (names : List (List ℕ)) → Needs
    → NeedsReport
needs_told tokens map parts names needs = record {
  source = parts.source;
  tokens = tokens;
  names = names;
  decisions = map.decisions;
  obligations = parts.obligations;
  asked = asked_in parts;
  needs = needs;
}

-- which vectors would show what is missing, by the events that are shown
abbrev pub NeedsIn : (shown : Event → ℕ → Type 0) → Map → Mode → Measured
    → (names : List (List ℕ)) → Reply → Type 0
NeedsIn shown map mode parts names reply =
    (tokens : List Tok) × (needs : Needs)
    × Lexes parts.source (Ok tokens)
    × AreNeeds shown map mode (asked_in parts) needs
    × (reply ≡ written (functions_status parts)
    (concat (needs_lines (needs_told tokens map parts names needs))
    ∷ needs_sums parts (length needs.wanted)))

-- what is told of a report on the source with this map
abbrev pub TellsOf : (shown : Event → ℕ → Type 0) → Telling → Map → text.Report → Reply → Type 0
TellsOf shown (command.report form) map r reply =
    reply ≡ written (status_of r) (lines_in_form form r)
TellsOf shown command.listing map r reply =
    reply ≡ written (status_of r) (listing_pieces r.source r.obligations r.verdicts)
TellsOf shown (command.functions of) map r reply =
    reply ≡ written (functions_status (measured of r)) (function_lines (measured of r))
TellsOf shown (command.needs of) map r reply =
    NeedsIn shown map r.mode (measured of r) r.names reply

-- of the events that are shown, each under its test
abbrev pub JudgesOn : (shown : Event → ℕ → Type 0) → Judging → Accepted → Tested
    → List Justification → Reply → Type 0
JudgesOn shown asked accepted tests js reply =
    (r : text.Report) × IsReportOn shown asked.mode accepted tests js r
    × TellsOf shown asked.telling accepted.map r reply

-- of tests that were run
abbrev pub JudgesRun : (skipped : List ℕ) → Judging → Accepted → List Plan
    → List Justification → Reply → Type 0
JudgesRun skipped asked accepted plans js = JudgesOn (stands skipped accepted plans) asked accepted
    (tested_of accepted.program plans) js
