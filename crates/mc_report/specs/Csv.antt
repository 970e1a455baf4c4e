-- The report as rows of comma-separated fields (RFC 4180): a header, and a row for each obligation.
use Rattle.std.specs.Prelude.{ℕ, Option, Some, None, List, [], ◌∷◌, ◌++◌, codes}
use Rattle.std.specs.Fmt.{decimal}
use Rattle.csv.specs.Writing.{default_writer, row_text}
use Rattle.mc_lex.specs.Lines.{line_of, column_of}
use Rattle.mc_probe.specs.Maps.{Mapped}
use Rattle.mc_oblige.specs.Texts.{text_at}
use Rattle.mc_oblige.specs.declared.obligation.Obligation.{Obligation}
use Rattle.mc_oblige.specs.declared.verdict.Evidence.{Evidence}
use Rattle.mc_oblige.specs.declared.verdict.Evidence.TheVariants.{Absent, One, Pair}
use Rattle.mc_oblige.specs.declared.verdict.Verdict.{Verdict}
use Rattle.mc_report.specs.Words.{id_text, verdict_word}
use Rattle.mc_report.specs.Lines.{decision_in, name_of, path_vector}
use Rattle.mc_report.specs.Report.{Report}

abbrev pub csv_header : List (List ℕ)
csv_header =
    codes "id" ∷ codes "line" ∷ codes "column" ∷ codes "verdict" ∷ codes "first"
    ∷ codes "first_test" ∷ codes "second" ∷ codes "second_test" ∷ codes "text" ∷ codes "reason"
    ∷ []

-- the least test; for a condition each vector of the pair with its least test
abbrev pub shown_fields : List (List ℕ) → Option Mapped → Evidence → List (List ℕ)
shown_fields names decision Absent = [] ∷ [] ∷ [] ∷ [] ∷ []
shown_fields names decision (One test) = [] ∷ name_of names test ∷ [] ∷ [] ∷ []
shown_fields names decision (Pair first first_test second second_test) =
    path_vector decision first ∷ name_of names first_test
    ∷ path_vector decision second
    ∷ name_of names second_test
    ∷ []

abbrev pub reason_field : Option (List ℕ) → List ℕ
reason_field None = []
reason_field (Some reason) = reason

-- which obligation, the line and the column of its first byte, the verdict, what shows it, the
-- source where it stands, and the reason; what does not apply is empty
abbrev pub csv_fields : Report → Obligation → Verdict → List (List ℕ)
csv_fields r o v =
    (id_text o.id ∷ decimal (line_of r.source o.span.start)
    ∷ decimal (column_of r.source o.span.start)
    ∷ verdict_word v.state
    ∷ [])
    ++ (shown_fields r.names (decision_in r.decisions o.id) v.evidence
    ++ text_at o.span r.source ∷ reason_field v.reason ∷ [])

abbrev pub csv_row : Report → Obligation → Verdict → List ℕ
csv_row r o v = row_text default_writer (csv_fields r o v)

abbrev pub csv_rows : Report → List Obligation → List Verdict → List (List ℕ)
csv_rows r (o ∷ os) (v ∷ vs) = csv_row r o v ∷ csv_rows r os vs
csv_rows r _ _ = []

abbrev pub csv_lines : Report → List (List ℕ)
csv_lines r = row_text default_writer csv_header ∷ csv_rows r r.obligations r.verdicts
