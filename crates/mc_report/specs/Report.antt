-- What a report is made from, and when its parts belong together.
use Rattle.std.specs.Prelude.{◌≡◌, ℕ, ◌<◌, ◌^◌, Option, Some, None, List, [], ◌∷◌, length, slice_get, IsUtf8}
use Rattle.mc_typed.specs.declared.plans.TestState.{TestState}
use Rattle.mc_meaning.specs.Seen.{Told}
use Rattle.mc_probe.specs.Maps.{Mapped}
pub use Rattle.evidence_texts.specs.Paths.{HasPath}
use Rattle.report_options.specs.declared.mode.Mode.{Mode}
use Rattle.mc_oblige.specs.declared.obligation.ObligationId.{ObligationId}
use Rattle.mc_oblige.specs.declared.obligation.ObligationId.TheVariants.{Condition}
use Rattle.mc_oblige.specs.declared.obligation.Obligation.{Obligation}
use Rattle.mc_oblige.specs.declared.verdict.Evidence.{Evidence}
use Rattle.mc_oblige.specs.declared.verdict.Evidence.TheVariants.{Absent, One, Pair}
use Rattle.mc_oblige.specs.declared.verdict.Verdict.{Verdict}

-- the source and its digest, the kind of independence, the tests by name with their states and,
-- from a run, their results, the decisions, and the obligations with their verdicts
pub record Report : Type 0 where
  pub source : List ℕ
  pub digest : List ℕ
  pub mode : Mode
  pub names : List (List ℕ)
  pub states : List TestState
  pub results : Option (List Told)
  pub decisions : List Mapped
  pub obligations : List Obligation
  pub verdicts : List Verdict

-- The evidence is of the obligation's kind, and the tests and paths that it names are there: of
-- `tests` tests, and of these decisions.
abbrev pub IsOfKind : ℕ → List Mapped → ObligationId → Evidence → Type 0
IsOfKind tests decisions id Absent = Unit {0}
IsOfKind tests decisions (Condition d k) (One test) = ⊥
IsOfKind tests decisions id (One test) = test < tests
IsOfKind tests decisions (Condition d k) (Pair first first_test second second_test) =
    HasPath (slice_get decisions d) first
    × HasPath (slice_get decisions d) second
    × (first_test < tests)
    × (second_test < tests)
IsOfKind tests decisions id (Pair first first_test second second_test) = ⊥

-- a reason is text
abbrev pub IsReason : Option (List ℕ) → Type 0
IsReason None = Unit {0}
IsReason (Some reason) = IsUtf8 reason

pub record IsJudged (tests : ℕ) (decisions : List Mapped) (o : Obligation) (v : Verdict)
    : Type 0 where
  pub shown : IsOfKind tests decisions o.id v.evidence
  pub reason : IsReason v.reason

-- one verdict for each obligation, in order
abbrev pub AreJudged : ℕ → List Mapped → List Obligation → List Verdict → Type 0
AreJudged tests decisions [] [] = Unit {0}
AreJudged tests decisions [] (v ∷ vs) = ⊥
AreJudged tests decisions (o ∷ os) [] = ⊥
AreJudged tests decisions (o ∷ os) (v ∷ vs) =
    IsJudged tests decisions o v × AreJudged tests decisions os vs

-- where there are results, each test has one
abbrev pub HasEach : ℕ → Option (List Told) → Type 0
HasEach tests None = Unit {0}
HasEach tests (Some results) = length results ≡ tests

pub record IsReport (r : Report) : Type 0 where
  pub short : length r.source < 2 ^ 31
  pub states : length r.states ≡ length r.names
  pub results : HasEach (length r.names) r.results
  pub judged : AreJudged (length r.names) r.decisions r.obligations r.verdicts
