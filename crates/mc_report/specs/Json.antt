-- The report as a JSON value (RFC 8259).
use Rattle.std.specs.Prelude.{ℕ, ℤ, Option, Some, None, List, [], ◌∷◌, ◌++◌, map, codes}
use Rattle.serde_json.specs.Data.{Data, null, number, string, array, object, unsigned, member, no_members}
use Rattle.serde_json.specs.Find.{of_integer}
use Rattle.serde_json.specs.View.{items_of}
use Rattle.serde_json.specs.Written.{compact_text}
use Rattle.mc_lex.specs.Lines.{line_of, column_of}
use Rattle.mc_typed.specs.declared.plans.TestState.{TestState}
use Rattle.mc_meaning.specs.Seen.{Told}
use Rattle.mc_probe.specs.Maps.{Mapped}
use Rattle.mc_oblige.specs.declared.obligation.Obligation.{Obligation}
use Rattle.mc_oblige.specs.declared.verdict.Evidence.{Evidence}
use Rattle.mc_oblige.specs.declared.verdict.Evidence.TheVariants.{Absent, One, Pair}
use Rattle.mc_oblige.specs.declared.verdict.Verdict.{Verdict}
use Rattle.mc_oblige.specs.declared.verdict.VerdictState.TheVariants.{Met, Justified, Stale, Missing}
use Rattle.mc_report.specs.declared.kind.Kind.{Kind}
use Rattle.mc_report.specs.declared.kind.Kind.TheVariants.{Entries, Exits, Statements, Labels, Outcomes, Conditions}
use Rattle.mc_report.specs.Words.{hexadecimal, id_text, mode_word, newline, state_word, verdict_word}
use Rattle.mc_report.specs.Counts.{counted, total}
use Rattle.mc_report.specs.Lines.{decision_in, name_of, path_vector}
use Rattle.mc_report.specs.Report.{Report}
use Rattle.mc_report.specs.Status.{status_of}

-- ---- counts

abbrev pub count_data : Kind → List Obligation → List Verdict → Data
count_data kind os vs =
    object (member (codes "justified") (number (unsigned (counted kind Justified os vs)))
    (member (codes "met") (number (unsigned (counted kind Met os vs)))
    (member (codes "missing") (number (unsigned (counted kind Missing os vs)))
    (member (codes "stale") (number (unsigned (counted kind Stale os vs)))
    (member (codes "total") (number (unsigned (total kind os)))
    no_members)))))

abbrev pub counts_data : List Obligation → List Verdict → Data
counts_data os vs =
    object (member (codes "conditions") (count_data Conditions os vs)
    (member (codes "entries") (count_data Entries os vs)
    (member (codes "exits") (count_data Exits os vs)
    (member (codes "labels") (count_data Labels os vs)
    (member (codes "outcomes") (count_data Outcomes os vs)
    (member (codes "statements") (count_data Statements os vs)
    no_members))))))

-- ---- obligations

-- a test, with the vector that it evaluates where it shows a condition
abbrev pub by_data : (name : List ℕ) (vector : Data) → Data
by_data name vector =
    object (member (codes "test") (string name) (member (codes "vector") vector no_members))

-- the least test; for a condition each vector of the pair with its least test
abbrev pub shown_data : List (List ℕ) → Option Mapped → Evidence → List Data
shown_data names decision Absent = []
shown_data names decision (One test) = by_data (name_of names test) null ∷ []
shown_data names decision (Pair first first_test second second_test) =
    by_data (name_of names first_test) (string (path_vector decision first))
    ∷ by_data (name_of names second_test) (string (path_vector decision second))
    ∷ []

abbrev pub reason_data : Option (List ℕ) → Data
reason_data None = null
reason_data (Some reason) = string reason

abbrev pub obligation_data : Report → Obligation → Verdict → Data
obligation_data r o v =
    object (member (codes "by")
    (array (items_of (shown_data r.names (decision_in r.decisions o.id) v.evidence)))
    (member (codes "column") (number (unsigned (column_of r.source o.span.start)))
    (member (codes "id") (string (id_text o.id))
    (member (codes "line") (number (unsigned (line_of r.source o.span.start)))
    (member (codes "reason") (reason_data v.reason)
    (member (codes "verdict") (string (verdict_word v.state))
    no_members))))))

abbrev pub obligations_data : Report → List Obligation → List Verdict → List Data
obligations_data r (o ∷ os) (v ∷ vs) = obligation_data r o v ∷ obligations_data r os vs
obligations_data r _ _ = []

-- ---- tests

abbrev pub number_data : ℤ → Data
number_data n = number (of_integer n)

-- what a call returned
abbrev pub value_data : Option ℤ → Data
value_data None = null
value_data (Some n) = number_data n

abbrev pub test_data : (name : List ℕ) (output : Data) (state : TestState) (values : Data) → Data
test_data name output state values =
    object (member (codes "name") (string name)
    (member (codes "output") output
    (member (codes "state") (string (state_word state))
    (member (codes "values") values
    no_members))))

abbrev pub run_data : List ℕ → TestState → Told → Data
run_data name state told =
    test_data name (array (items_of (map number_data told.output))) state
    (array (items_of (map value_data told.values)))

abbrev pub runs_data : List (List ℕ) → List TestState → List Told → List Data
runs_data (name ∷ names) (state ∷ states) (told ∷ results) =
    run_data name state told ∷ runs_data names states results
runs_data _ _ _ = []

-- of a test of which no result is kept
abbrev pub kept_data : List ℕ → TestState → Data
kept_data name state = test_data name null state null

abbrev pub all_kept_data : List (List ℕ) → List TestState → List Data
all_kept_data (name ∷ names) (state ∷ states) =
    kept_data name state ∷ all_kept_data names states
all_kept_data _ _ = []

abbrev pub tests_data : List (List ℕ) → List TestState → Option (List Told) → List Data
tests_data names states (Some results) = runs_data names states results
tests_data names states None = all_kept_data names states

-- ---- the whole

-- the counts, the mode, the obligations, the digest of the source, the status and the tests
unfoldable pub json_data : Report → Data
json_data r =
    object (member (codes "counts") (counts_data r.obligations r.verdicts)
    (member (codes "mode") (string (mode_word r.mode))
    (member (codes "obligations") (array (items_of (obligations_data r r.obligations r.verdicts)))
    (member (codes "source") (string (hexadecimal r.digest))
    (member (codes "status") (number (unsigned (status_of r)))
    (member (codes "tests") (array (items_of (tests_data r.names r.states r.results)))
    no_members))))))

-- its text without spaces, on one line
abbrev pub json_text : Report → List ℕ
json_text r = compact_text (json_data r) ++ newline

abbrev pub json_lines : Report → List (List ℕ)
json_lines r = json_text r ∷ []
