-- The status of a report.
use Rattle.std.specs.Prelude.{ℕ, Bool, true, false, ◌&&◌, if◌then◌else◌}
use Rattle.std.specs.List.{list_all}
use Rattle.mc_oblige.specs.declared.verdict.VerdictState.{VerdictState}
use Rattle.mc_oblige.specs.declared.verdict.VerdictState.TheVariants.{Met, Justified, Stale, Missing}
use Rattle.mc_report.specs.Report.{Report}
pub use Rattle.told_lines.specs.Passes.{passed}

abbrev pub is_settled : VerdictState → Bool
is_settled Met = true
is_settled Justified = true
is_settled Stale = false
is_settled Missing = false

-- 0 where all tests passed and no obligation is missing or stale, else 1
abbrev pub status_of : Report → ℕ
status_of r =
    if list_all passed r.states && list_all (λ v. is_settled v.state) r.verdicts then 0 else 1
