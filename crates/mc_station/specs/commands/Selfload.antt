-- The command `selfload`: the summary of a source that the program makes itself, with its tests.
use Rattle.std.specs.Prelude.{◌≡◌, ℕ, List, []}
use Rattle.mc_limits.specs.Limits.{usual_fuel}
use Rattle.report_options.specs.declared.mode.Mode.TheVariants.{Masking}
use Rattle.mc_gen.specs.Source.{source_text}
use Rattle.mc_gen.specs.Tests.{tests_text}
use Rattle.mc_typed.specs.Plans.{Plan}
use Rattle.mc_steps.specs.Events.{Event}
use Rattle.mc_report.specs.Report as text
use Rattle.mc_report.specs.Summary.{summary_lines}
use Rattle.station_replies.specs.Phases.{Reaches}
use Rattle.station_replies.specs.Reply.{Reply, written}
use Rattle.mc_station.specs.Source.{Accepted, JudgesSource}
use Rattle.mc_station.specs.Tests.{MatrixFits, JudgesTests, Tested, stands, tested_of}
use Rattle.mc_station.specs.commands.Report.{IsReportOn}

-- the report by masking is summed up, with status 0; no obligation is justified
abbrev pub SumsOn : (shown : Event → ℕ → Type 0) → (count : ℕ) → Accepted → Tested → Reply
    → Type 0
SumsOn shown count accepted tests reply =
    (r : text.Report) × IsReportOn shown Masking accepted tests [] r
    × (reply ≡ written 0 (summary_lines count r))

-- of tests that were run
abbrev pub Sums : (skipped : List ℕ) → (count : ℕ) → Accepted → List Plan → Reply → Type 0
Sums skipped count accepted plans =
    SumsOn (stands skipped accepted plans) count accepted (tested_of accepted.program plans)

-- the source of this number of functions, and its tests, with the usual fuel
abbrev pub LoadsItself : (skipped : List ℕ) → (count : ℕ) → Reply → Type 0
LoadsItself skipped count =
    Reaches (JudgesSource (source_text count)) (λ accepted.
    Reaches (JudgesTests accepted.program usual_fuel (tests_text count)) (λ plans.
    Reaches (MatrixFits accepted plans) (λ u. Sums skipped count accepted plans)))
