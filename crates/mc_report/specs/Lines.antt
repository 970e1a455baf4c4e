-- The lines of tests and of obligations.
use Rattle.std.specs.Prelude.{ℕ, Option, Some, None, List, [], ◌∷◌, ◌++◌, codes, slice_get}
use Rattle.std.specs.List.{concat}
use Rattle.std.specs.Fmt.{decimal}
use Rattle.serde_json.specs.Data.{string}
use Rattle.serde_json.specs.Written.{compact_text}
use Rattle.mc_lex.specs.Lines.{line_of, column_of}
use Rattle.mc_typed.specs.declared.plans.TestState.{TestState}
use Rattle.mc_meaning.specs.Seen.{Told}
use Rattle.mc_probe.specs.Maps.{Mapped}
use Rattle.mc_oblige.specs.declared.obligation.ObligationId.{ObligationId}
use Rattle.mc_oblige.specs.declared.obligation.ObligationId.TheVariants.{Condition}
use Rattle.mc_oblige.specs.declared.obligation.Obligation.{Obligation}
use Rattle.mc_oblige.specs.declared.verdict.Evidence.{Evidence}
use Rattle.mc_oblige.specs.declared.verdict.Evidence.TheVariants.{Absent, One, Pair}
use Rattle.mc_oblige.specs.declared.verdict.VerdictState.{VerdictState}
use Rattle.mc_oblige.specs.declared.verdict.Verdict.{Verdict}
use Rattle.mc_report.specs.Words.{newline, id_text, verdict_word}
pub use Rattle.evidence_texts.specs.Names.{name_of, name_text}
pub use Rattle.evidence_texts.specs.Paths.{path_text, path_vector}
pub use Rattle.told_lines.specs.Tests.{result_text, run_line, test_text}
use Rattle.mc_report.specs.Report.{Report}

-- ---- tests

abbrev pub run_lines : List (List ℕ) → List TestState → List Told → List (List ℕ)
run_lines (name ∷ names) (state ∷ states) (told ∷ results) =
    run_line name state told ∷ run_lines names states results
run_lines _ _ _ = []

-- of a test of which no result is kept
abbrev pub kept_line : List ℕ → TestState → List ℕ
kept_line name state = concat (test_text name state ∷ newline ∷ [])

abbrev pub kept_lines : List (List ℕ) → List TestState → List (List ℕ)
kept_lines (name ∷ names) (state ∷ states) = kept_line name state ∷ kept_lines names states
kept_lines _ _ = []

abbrev pub test_lines : List (List ℕ) → List TestState → Option (List Told) → List (List ℕ)
test_lines names states (Some results) = run_lines names states results
test_lines names states None = kept_lines names states

-- ---- obligations

-- the decision of a condition
abbrev pub decision_in : List Mapped → ObligationId → Option Mapped
decision_in decisions (Condition d k) = slice_get decisions d
decision_in decisions id = None

-- the least test; for a condition each vector of the pair with its least test
abbrev pub shown_text : List (List ℕ) → Option Mapped → Evidence → List ℕ
shown_text names decision Absent = []
shown_text names decision (One test) = name_text names test
shown_text names decision (Pair first first_test second second_test) =
    concat (path_text decision first ∷ name_text names first_test
    ∷ path_text decision second
    ∷ name_text names second_test
    ∷ [])

-- the reason as a JSON string
abbrev pub reason_text : Option (List ℕ) → List ℕ
reason_text None = []
reason_text (Some reason) = concat (codes " " ∷ compact_text (string reason) ∷ [])

-- which obligation, the line and the column of its first byte, and the verdict
abbrev pub obligation_text : (id : List ℕ) (line column : ℕ) → VerdictState → List ℕ
obligation_text id line column state =
    id ++ (codes " " ++ (decimal line ++ (codes ":" ++ (decimal column
    ++ (codes " " ++ verdict_word state)))))

abbrev pub place_text : List ℕ → Obligation → VerdictState → List ℕ
place_text source o state =
    obligation_text (id_text o.id) (line_of source o.span.start) (column_of source o.span.start)
    state

abbrev pub verdict_line : Report → Obligation → Verdict → List ℕ
verdict_line r o v =
    concat (place_text r.source o v.state
    ∷ shown_text r.names (decision_in r.decisions o.id) v.evidence
    ∷ reason_text v.reason
    ∷ newline
    ∷ [])

abbrev pub verdict_lines : Report → List Obligation → List Verdict → List (List ℕ)
verdict_lines r (o ∷ os) (v ∷ vs) = verdict_line r o v ∷ verdict_lines r os vs
verdict_lines r _ _ = []
