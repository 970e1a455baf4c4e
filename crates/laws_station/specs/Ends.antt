-- How each command ends: what status 0 says, and what 1.
use Rattle.std.specs.Prelude.{◌≡◌, ◌≢◌, ◌⊎◌, All, ℕ, IsTrue, List, Option, Some, None, is_some}
use Rattle.std.specs.List.{AllZip}
use Rattle.mc_command.specs.Command as command
use Rattle.mc_command.specs.Command.{Action, Command, Judging, MatrixTask, Task, command_of, file_told}
use Rattle.mc_functions.specs.Measured.{in_file}
use Rattle.mc_oblige.specs.Obligations.{obligations_of}
use Rattle.mc_oblige.specs.Shown.{HasEvent}
use Rattle.mc_oblige.specs.Verdicts.{AreVerdicts}
use Rattle.mc_oblige.specs.declared.justification.Justification.{Justification}
use Rattle.mc_oblige.specs.declared.obligation.Obligation.{Obligation}
use Rattle.mc_oblige.specs.declared.verdict.Verdict.{Verdict}
use Rattle.mc_oblige.specs.declared.verdict.VerdictState.TheVariants.{Missing, Stale}
use Rattle.mc_port.specs.Store.{Files}
use Rattle.mc_record.specs.Kept.{Kept}
use Rattle.mc_steps.specs.Events.{Event}
use Rattle.mc_typed.specs.Plans.{Plan}
use Rattle.mc_typed.specs.declared.plans.TestState.{TestState}
use Rattle.mc_typed.specs.declared.plans.TestState.TheVariants.{Pass}
use Rattle.station_replies.specs.Reply.{Reply}
use Rattle.station_replies.specs.declared.status.Status.TheVariants.{Done, Incomplete}
use Rattle.mc_station.specs.Calls.{Call, LeadsTo, Requests}
use Rattle.mc_station.specs.Causes.{IsOfText, RecordIs, SourceIs}
use Rattle.mc_station.specs.Source.{Accepted}
use Rattle.mc_station.specs.Tests.{stands, states}
use Rattle.mc_station.specs.commands.Mutate.{AreKilled}
use Rattle.laws_station.specs.Texts.{AreReasons, AreTests}

-- 0 where this is so, and 1 where it is not
abbrev pub IsDoneWhere : Reply → Type 0 → Type 0
IsDoneWhere r so = ((r.status ≡ Done) × so) ⊎ ((r.status ≡ Incomplete) × ¬ so)

abbrev pub HavePassed : List TestState → Type 0
HavePassed tests = All (λ state. state ≡ Pass) tests

-- ---- obligations

-- the verdict is neither missing nor stale: it is met or justified
pub record IsSettled (v : Verdict) : Type 0 where
  pub shown : v.state ≢ Missing
  pub fresh : v.state ≢ Stale

-- of the obligations that stand in a file of the source, where one is named, and else of all, none
-- is missing or stale
abbrev pub AreSettled : (source : List ℕ) → Option (List ℕ) → List Obligation → List Verdict
    → Type 0
AreSettled source file os vs =
    AllZip (λ o v. IsTrue (in_file source file o.span.start) → IsSettled v) os vs

-- the verdicts of these events on the obligations of a source, by which a command that judges them
-- is done where all tests passed and each obligation of which it tells is settled
abbrev pub JudgedEnds : (shown : Event → ℕ → Type 0) → Judging → Accepted → List TestState
    → List Justification → Reply → Type 0
JudgedEnds shown judging accepted tests js r =
    (verdicts : List Verdict)
    × AreVerdicts shown accepted.map judging.mode js verdicts
    × IsDoneWhere r
    (HavePassed tests
    × AreSettled accepted.source (file_told judging.telling) (obligations_of accepted.map) verdicts)

-- ---- commands that run tests

abbrev pub MatrixEnds : (skipped : List ℕ) → MatrixTask → Accepted → List Plan
    → List Justification → Reply → Type 0
MatrixEnds skipped (command.judged judging) accepted plans js r =
    JudgedEnds (stands skipped accepted plans) judging accepted (states accepted.program plans) js r
MatrixEnds skipped task accepted plans js r =
    IsDoneWhere r (HavePassed (states accepted.program plans))

-- for `mutate` a test has to kill each mutant too
abbrev pub TaskEnds : (skipped : List ℕ) → Task → Accepted → List Plan → List Justification → Reply
    → Type 0
TaskEnds skipped (command.on_matrix task) accepted plans js r =
    MatrixEnds skipped task accepted plans js r
TaskEnds skipped command.mutated accepted plans js r =
    (killers : List (Option ℕ)) × AreKilled accepted.program plans killers
    × IsDoneWhere r
    (HavePassed (states accepted.program plans) × All (λ killer. IsTrue (is_some killer)) killers)
TaskEnds skipped task accepted plans js r =
    IsDoneWhere r (HavePassed (states accepted.program plans))

-- ---- all commands

-- after an accepted source, by the other files; a text of the source alone, and a record of two,
-- end with 0
abbrev pub ActionEnds : (skipped : List ℕ) → Option Files → Action → Accepted → Reply → Type 0
ActionEnds skipped files (command.run run) accepted r =
    (plans : List Plan) × (js : List Justification) × AreTests files run accepted plans js
    × TaskEnds skipped run.task accepted plans js r
ActionEnds skipped files (command.write text) accepted r = r.status ≡ Done
ActionEnds skipped files (command.merge left right) accepted r = r.status ≡ Done
ActionEnds skipped files (command.analyse kept judging) accepted r =
    (found : Kept) × (js : List Justification) × RecordIs files kept accepted found
    × AreReasons files judging.justify accepted js
    × JudgedEnds (HasEvent accepted.map found.matrix) judging accepted found.states js r

abbrev pub CommandEnds : (skipped : List ℕ) → Option Files → Option Command → Reply → Type 0
CommandEnds skipped files None r = ⊥
CommandEnds skipped files (Some (command.on_source name action)) r =
    (accepted : Accepted) × SourceIs files name action accepted
    × ActionEnds skipped files action accepted r
CommandEnds skipped files (Some (command.selfload count workers)) r = r.status ≡ Done

-- of a reply with 0 or 1 its command says which of both it is
abbrev pub EndsAreTold : Type 0
EndsAreTold =
    (call : Call) (asked after : Requests) (r : Reply) → LeadsTo call asked r after
    → IsOfText r.status → CommandEnds call.skipped call.files (command_of call.words) r
