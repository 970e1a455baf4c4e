-- The counts of a report: each obligation is counted once.
use Rattle.std.specs.Prelude.{◌≡◌, ℕ, ◌+◌, ◌≤◌, ◌↔◌, true, List, length}
use Rattle.std.specs.List.{list_all}
use Rattle.mc_oblige.specs.declared.obligation.Obligation.{Obligation}
use Rattle.mc_oblige.specs.declared.verdict.VerdictState.{VerdictState}
use Rattle.mc_oblige.specs.declared.verdict.VerdictState.TheVariants.{Met, Justified, Stale, Missing}
use Rattle.mc_report.specs.declared.kind.Kind.{Kind}
use Rattle.mc_report.specs.declared.kind.Kind.TheVariants.{Entries, Exits, Statements, Labels, Outcomes, Conditions}
use Rattle.mc_report.specs.Counts.{counted, total}
use Rattle.mc_report.specs.Report.{AreJudged, Report}
use Rattle.mc_report.specs.Status.{passed, status_of}

-- a report with one verdict for each obligation, in order
abbrev pub IsJudgedReport : Report → Type 0
IsJudgedReport r = AreJudged (length r.names) r.decisions r.obligations r.verdicts

abbrev pub count_of : VerdictState → Kind → Report → ℕ
count_of asked kind r = counted kind asked r.obligations r.verdicts

-- met, justified, stale and missing: the four counts of a kind add up to its total
abbrev pub CountsAddUp : Type 0
CountsAddUp =
    (r : Report) (kind : Kind) → IsJudgedReport r
    → count_of Met kind r + count_of Justified kind r + count_of Stale kind r
    + count_of Missing kind r
    ≡ total kind r.obligations

-- the totals of the six kinds add up to the number of obligations
abbrev pub KindsAddUp : Type 0
KindsAddUp =
    (os : List Obligation)
    → total Entries os + total Exits os + total Statements os + total Labels os
    + total Outcomes os
    + total Conditions os
    ≡ length os

-- each obligation of the kind is met or justified
pub record IsSettled (r : Report) (kind : Kind) : Type 0 where
  pub stale : count_of Stale kind r ≡ 0
  pub missing : count_of Missing kind r ≡ 0

-- all tests passed, and each kind has no obligation that is stale or missing
pub record IsDone (r : Report) : Type 0 where
  pub passed : list_all passed r.states ≡ true
  pub settled : (kind : Kind) → IsSettled r kind

-- the status of a report is 0 exactly where that is so; else it is 1
abbrev pub StatusIsCounted : Type 0
StatusIsCounted =
    (r : Report) → IsJudgedReport r
    → ((status_of r ≡ 0) ↔ IsDone r) × (status_of r ≤ 1)
