-- What the counts by function and a report have in common.
use Rattle.std.specs.Prelude.{◌≡◌, ◌≤◌, length, None}
use Rattle.mc_oblige.specs.declared.obligation.ObligationId.{ObligationId}
use Rattle.mc_oblige.specs.declared.verdict.VerdictState.{VerdictState}
use Rattle.mc_report.specs.Report.{Report}
use Rattle.mc_report.specs.Counts as report
use Rattle.mc_report.specs.Status as report_status
use Rattle.mc_functions.specs.Kinds.{kind_of, same_kind}
use Rattle.mc_functions.specs.Counts.{of_kind, of_verdict}
use Rattle.mc_functions.specs.Measured.{Measured, names_of, row_of}
use Rattle.mc_functions.specs.Status.{status_of}
use Rattle.mc_functions.specs.Sums.{sum_below}

-- what is counted of a report, in all files
abbrev pub measured : Report → Measured
measured r =
    record {
      source = r.source;
      obligations = r.obligations;
      verdicts = r.verdicts;
      states = r.states;
      file = None;
    }

-- the counts of a kind over all functions are those of the report, where both kinds have the same
-- obligations
abbrev pub FunctionsAreReports : Type 0
FunctionsAreReports =
    (r : Report) (kind : _) (reported : _) (state : VerdictState) →
    ((id : ObligationId) → same_kind kind (kind_of id) ≡ report.is_kind reported id) →
    1 ≤ length (names_of (measured r)) →
    sum_below (length (names_of (measured r)))
    (λ k. of_verdict state (of_kind kind (row_of (measured r) k)))
    ≡ report.counted reported state r.obligations r.verdicts

-- the status of the counts in all files is that of the report
abbrev pub StatusIsReports : Type 0
StatusIsReports =
    (r : Report) → length r.verdicts ≡ length r.obligations →
    status_of (measured r) ≡ report_status.status_of r
