-- The text report: a list of lines.
use Rattle.std.specs.Prelude.{ℕ, List, [], ◌∷◌, ◌++◌, codes}
use Rattle.std.specs.List.{concat}
use Rattle.std.specs.Fmt.{decimal}
use Rattle.report_options.specs.declared.mode.Mode.{Mode}
use Rattle.mc_report.specs.Words.{newline, mode_word, hexadecimal}
use Rattle.mc_report.specs.Report.{Report}
use Rattle.mc_report.specs.Status.{status_of}
use Rattle.mc_report.specs.Lines.{test_lines, verdict_lines}
use Rattle.mc_report.specs.Counts.{count_lines}

abbrev pub mode_line : Mode → List ℕ
mode_line mode = concat (codes "mcdc report " ∷ mode_word mode ∷ newline ∷ [])

abbrev pub digest_line : List ℕ → List ℕ
digest_line digest = concat (codes "source sha256 " ∷ hexadecimal digest ∷ newline ∷ [])

abbrev pub status_line : ℕ → List ℕ
status_line status = concat (codes "status " ∷ decimal status ∷ newline ∷ [])

-- the mode, the digest of the source, the tests, the obligations, the counts, and the status
abbrev pub report_lines : Report → List (List ℕ)
report_lines r =
    (mode_line r.mode ∷ digest_line r.digest ∷ [])
    ++ (test_lines r.names r.states r.results
    ++ (verdict_lines r r.obligations r.verdicts
    ++ (count_lines r.obligations r.verdicts
    ++ status_line (status_of r) ∷ [])))
