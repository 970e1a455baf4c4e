-- Verdicts can be reported.
use Rattle.std.proofs.Common.{◌≡◌, ◌<◌, ℕ, suc, List, [], ◌∷◌, Some, None, Option, true, false, refl, sym, subst, arith}
use Rattle.std.specs.Prelude.{All, IsUtf8, slice_get, ◌==◌, if◌then◌else◌}
use Rattle.mc_cond.specs.Tree.{Tree}
use Rattle.mc_paths.specs.Paths.{IsInUse}
use Rattle.mc_steps.specs.Events.{Event}
use Rattle.mc_probe.specs.Maps.{Map, Mapped}
use Rattle.report_options.specs.declared.mode.Mode.{Mode}
use Rattle.mc_oblige.specs.declared.obligation.ObligationId.{ObligationId}
use Rattle.mc_oblige.specs.declared.obligation.ObligationId.TheVariants.{Entry, Exit, Statement, Label, Outcome, Condition}
use Rattle.mc_oblige.specs.declared.obligation.Obligation.{Obligation}
use Rattle.mc_oblige.specs.declared.justification.Justification.{Justification}
use Rattle.mc_oblige.specs.declared.verdict.Evidence.{Evidence}
use Rattle.mc_oblige.specs.declared.verdict.Evidence.TheVariants.{Absent, One, Pair}
use Rattle.mc_oblige.specs.declared.verdict.Verdict.{Verdict}
use Rattle.mc_oblige.specs.Evidence.{IsEvaluated, IsConditionEvidence, IsEvidence}
use Rattle.mc_oblige.specs.Obligations.{obligations_of}
use Rattle.mc_oblige.specs.Shown.{HasEvent}
use Rattle.mc_oblige.specs.Verdicts.{IsVerdict, AreVerdictsFrom, reason_for}
use Rattle.mc_report.specs.Laws.{VerdictsAreReported}
use Rattle.mc_report.specs.Report.{HasPath, IsOfKind, IsReason, IsJudged, AreJudged}

-- a path that is evaluated is in use
pub path_used : (t : Tree) (path : ℕ) → (d test : ℕ) (stands : Event → ℕ → Type 0) → IsEvaluated stands d t path test → IsInUse t path
path_used t path d test stands is = (is.vector, is.is_path)

reason_is_text : (named : List Justification) (at : ℕ) → All (λ j. IsUtf8 j.reason) named → IsReason (reason_for at named)
reason_is_text [] at texts = tt
reason_is_text (j ∷ named) at texts =
    elim (j.obligation == at) as (λ b. IsReason (if b then Some j.reason else reason_for at named)) [
      | true ↦ texts 0 j (omega arith)
      | false ↦ reason_is_text named at (λ k d inside. texts (suc k) d (omega (arith, inside)))
    ]

module _ (stands : Event → ℕ → Type 0) (m : Map) (mode : Mode) (tests : ℕ) (few : (e : Event) (test : ℕ) → stands e test → test < tests) where
  condition_of_kind : (d k : ℕ) (found : Option Mapped) (evidence : Evidence) → slice_get m.decisions d ≡ found → IsConditionEvidence stands mode d k found evidence → IsOfKind tests m.decisions (Condition d k) evidence
  condition_of_kind d k found Absent there is = tt
  condition_of_kind d k None (One test) there is = absurd (cc is)
  condition_of_kind d k (Some x) (One test) there is = is
  condition_of_kind d k None (Pair first s second t) there is = absurd (cc is)
  condition_of_kind d k (Some x) (Pair first s second t) there is =
      let P : Option Mapped → Type 0 = λ o. HasPath o first × HasPath o second × (s < tests) × (t < tests) in
      subst P (sym there) (
        path_used x.decision.tree first d s stands is.first_least.so,
        path_used x.decision.tree second d t stands is.second_least.so,
        few _ s is.first_least.so.under,
        few _ t is.second_least.so.under,
      )

  of_kind : (id : ObligationId) (evidence : Evidence) → IsEvidence stands m mode id evidence → IsOfKind tests m.decisions id evidence
  of_kind (Condition d k) evidence is = condition_of_kind d k (slice_get m.decisions d) evidence refl is
  of_kind id Absent is = tt
  of_kind (Entry k) (One test) is = few is.so.event test is.so.under
  of_kind (Exit k) (One test) is = few is.so.event test is.so.under
  of_kind (Statement k) (One test) is = few is.so.event test is.so.under
  of_kind (Label k) (One test) is = few is.so.event test is.so.under
  of_kind (Outcome d outcome) (One test) is = few is.so.event test is.so.under
  of_kind (Entry k) (Pair first s second t) is = absurd is
  of_kind (Exit k) (Pair first s second t) is = absurd is
  of_kind (Statement k) (Pair first s second t) is = absurd is
  of_kind (Label k) (Pair first s second t) is = absurd is
  of_kind (Outcome d outcome) (Pair first s second t) is = absurd is

  module _ (named : List Justification) (texts : All (λ j. IsUtf8 j.reason) named) where
    judged : (at : ℕ) (o : Obligation) (v : Verdict) → IsVerdict stands m mode named at o v → IsJudged tests m.decisions o v
    judged at o v is = record {
      shown = of_kind o.id v.evidence is.evidence;
      reason = subst IsReason (sym is.reason) (reason_is_text named at texts);
    }

    all_judged : (at : ℕ) (os : List Obligation) (vs : List Verdict) → AreVerdictsFrom stands m mode named at os vs → AreJudged tests m.decisions os vs
    all_judged at [] [] is = tt
    all_judged at [] (v ∷ vs) is = absurd (cc is)
    all_judged at (o ∷ os) [] is = absurd is
    all_judged at (o ∷ os) (v ∷ vs) is = (judged at o v is.0, all_judged (suc at) os vs is.1)

pub reported : VerdictsAreReported
reported m x mode named vs texts is =
    all_judged (HasEvent m x) m mode x.shape.tests (λ e test has. has.held.1) named texts 0 (obligations_of m) vs is
