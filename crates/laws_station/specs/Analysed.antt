-- The analysis of a record that `record` has written says what `report` says.
use Rattle.std.specs.Prelude.{◌≡◌, ℕ, List, None}
use Rattle.mc_command.specs.Command as command
use Rattle.mc_command.specs.Command.{Judging}
use Rattle.mc_port.specs.Store.{Files}
use Rattle.report_options.specs.declared.form.Form.{Form}
use Rattle.mc_report.specs.Forms.{lines_in_form}
use Rattle.mc_report.specs.Report.{Report}
use Rattle.mc_report.specs.Status.{status_of}
use Rattle.station_replies.specs.Reply.{Reply, written}
use Rattle.mc_station.specs.Calls.{Call}
use Rattle.laws_station.specs.Asking.{Asks, IsKept, Writes, runs}

abbrev pub text_of : Form → Report → Reply
text_of form r = written (status_of r) (lines_in_form form r)

-- the same report without the values and outputs of the tests, which a record does not keep
abbrev pub without_results : Report → Report
without_results r = record r { results = None }

-- Of one source and one tests file, with one fuel, mode and file of justifications: where `record`
-- wrote the record, `analyse` is to write the report that `report` writes, with its verdicts,
-- counts, reasons and status, but for the values and outputs of the tests.
abbrev pub AnalysisIsReport : Type 0
AnalysisIsReport =
    (files : Files) (skipped source tests kept : List ℕ) (fuel workers others : ℕ)
    (judging : Judging) (form : Form) (reporting recording analysing : Call) (s t : Reply)
    → judging.telling ≡ command.report form
    → Asks files skipped (runs source tests workers fuel (command.judged judging)) reporting
    → Asks files skipped (runs source tests others fuel command.recorded) recording
    → Asks files skipped (command.on_source source (command.analyse kept judging)) analysing
    → Writes reporting s → Writes recording t → IsKept files kept t
    → (r : Report) × (s ≡ text_of form r) × Writes analysing (text_of form (without_results r))
