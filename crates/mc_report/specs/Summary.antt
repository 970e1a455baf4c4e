-- The summary of the run of a program that was made to be run: a list of lines.
use Rattle.std.specs.Prelude.{ℕ, List, [], ◌∷◌, ◌++◌, codes}
use Rattle.std.specs.List.{concat}
use Rattle.std.specs.Fmt.{decimal}
use Rattle.mc_report.specs.Words.{newline}
use Rattle.mc_report.specs.Report.{Report}
use Rattle.mc_report.specs.Status.{status_of}
use Rattle.mc_report.specs.Counts.{count_lines}
use Rattle.mc_report.specs.Text.{status_line}
pub use Rattle.told_lines.specs.Passes.{passed_line}

-- how many functions the program has
abbrev pub load_line : ℕ → List ℕ
load_line functions = concat (codes "selfload " ∷ decimal functions ∷ newline ∷ [])

-- the functions, the tests, the counts of obligations, and the status of the report
abbrev pub summary_lines : (functions : ℕ) → Report → List (List ℕ)
summary_lines functions r =
    (load_line functions ∷ passed_line r.states ∷ [])
    ++ (count_lines r.obligations r.verdicts ++ status_line (status_of r) ∷ [])
