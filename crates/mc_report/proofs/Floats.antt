-- A report has no float.
use Rattle.std.proofs.Common.{◌≡◌, ℕ, ℤ, pos, negsuc, List, [], ◌∷◌, Option, Some, None, false, map, refl}
use Rattle.serde_json.specs.View.{items_of}
use Rattle.serde_json.specs.Written.{has_float, items_have_float}
use Rattle.mc_typed.specs.declared.plans.TestState.{TestState}
use Rattle.mc_meaning.specs.Seen.{Told}
use Rattle.mc_probe.specs.Maps.{Mapped}
use Rattle.mc_oblige.specs.declared.obligation.Obligation.{Obligation}
use Rattle.mc_oblige.specs.declared.verdict.Evidence.{Evidence}
use Rattle.mc_oblige.specs.declared.verdict.Evidence.TheVariants.{Absent, One, Pair}
use Rattle.mc_oblige.specs.declared.verdict.Verdict.{Verdict}
use Rattle.mc_report.specs.Json.{all_kept_data, json_data, number_data, obligations_data, reason_data, runs_data, shown_data, tests_data, value_data}
use Rattle.mc_report.specs.Laws.{ReportsHaveNoFloat}
use Rattle.mc_report.specs.Lines.{decision_in}
use Rattle.mc_report.specs.Report.{Report}

no_number : (z : ℤ) → has_float (number_data z) ≡ false
no_number (pos n) = refl
no_number (negsuc n) = refl

no_value : (v : Option ℤ) → has_float (value_data v) ≡ false
no_value None = refl
no_value (Some z) = no_number z

no_values : (vs : List (Option ℤ)) → items_have_float (items_of (map value_data vs)) ≡ false
no_values [] = refl
no_values (v ∷ vs) = rw (no_value v, no_values vs) refl

no_output : (zs : List ℤ) → items_have_float (items_of (map number_data zs)) ≡ false
no_output [] = refl
no_output (z ∷ zs) = rw (no_number z, no_output zs) refl

no_runs : (names : List (List ℕ)) (states : List TestState) (results : List Told) → items_have_float (items_of (runs_data names states results)) ≡ false
no_runs [] states results = refl
no_runs (n ∷ names) [] results = refl
no_runs (n ∷ names) (s ∷ states) [] = refl
no_runs (n ∷ names) (s ∷ states) (t ∷ results) = rw (no_output t.output, no_values t.values, no_runs names states results) refl

no_kept : (names : List (List ℕ)) (states : List TestState) → items_have_float (items_of (all_kept_data names states)) ≡ false
no_kept [] states = refl
no_kept (n ∷ names) [] = refl
no_kept (n ∷ names) (s ∷ states) = rw (no_kept names states) refl

no_tests : (names : List (List ℕ)) (states : List TestState) (results : Option (List Told)) → items_have_float (items_of (tests_data names states results)) ≡ false
no_tests names states None = no_kept names states
no_tests names states (Some results) = no_runs names states results

no_shown : (names : List (List ℕ)) (decision : Option Mapped) (evidence : Evidence) → items_have_float (items_of (shown_data names decision evidence)) ≡ false
no_shown names decision Absent = refl
no_shown names decision (One test) = refl
no_shown names decision (Pair first s second t) = refl

no_reason : (r : Option (List ℕ)) → has_float (reason_data r) ≡ false
no_reason None = refl
no_reason (Some text) = refl

no_obligations : (r : Report) (os : List Obligation) (vs : List Verdict) → items_have_float (items_of (obligations_data r os vs)) ≡ false
no_obligations r [] vs = refl
no_obligations r (o ∷ os) [] = refl
no_obligations r (o ∷ os) (v ∷ vs) = rw (no_shown r.names (decision_in r.decisions o.id) v.evidence, no_reason v.reason, no_obligations r os vs) refl

pub no_float : ReportsHaveNoFloat
unfolding json_data
no_float r = rw (no_obligations r r.obligations r.verdicts, no_tests r.names r.states r.results) refl
