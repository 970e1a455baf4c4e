-- Verdicts (DO-178C 6.4.4.2): what an obligation's evidence and its justification come to.
use Rattle.std.specs.Prelude.{◌≡◌, ◌≢◌, ℕ, suc, Bool, true, false, ◌==◌, if◌then◌else◌, List, [], ◌∷◌, Option, Some, None, is_some, AllPairs}
use Rattle.mc_steps.specs.Events.{Event}
use Rattle.mc_probe.specs.Maps.{Map}
use Rattle.report_options.specs.declared.mode.Mode.{Mode}
use Rattle.mc_oblige.specs.declared.obligation.Obligation.{Obligation}
use Rattle.mc_oblige.specs.declared.justification.Justification.{Justification}
use Rattle.mc_oblige.specs.declared.verdict.Evidence.{Evidence}
use Rattle.mc_oblige.specs.declared.verdict.Evidence.TheVariants.{Absent, One, Pair}
use Rattle.mc_oblige.specs.declared.verdict.VerdictState.{VerdictState}
use Rattle.mc_oblige.specs.declared.verdict.VerdictState.TheVariants.{Met, Justified, Stale, Missing}
use Rattle.mc_oblige.specs.declared.verdict.Verdict.{Verdict}
use Rattle.mc_oblige.specs.Evidence.{IsEvidence}
use Rattle.mc_oblige.specs.Obligations.{obligations_of}

-- no two name the same obligation
abbrev pub NameEachOnce : List Justification → Type 0
NameEachOnce named = AllPairs (λ a b. a.obligation ≢ b.obligation) named

-- the reason that the justifications give for the obligation at a position
abbrev pub reason_for : ℕ → List Justification → Option (List ℕ)
reason_for at [] = None
reason_for at (j ∷ rest) = if j.obligation == at then Some j.reason else reason_for at rest

abbrev pub is_shown : Evidence → Bool
is_shown Absent = false
is_shown (One test) = true
is_shown (Pair first first_test second second_test) = true

-- Shown and not named is met, shown and named is stale, named and not shown is justified, else it
-- is missing.
abbrev pub state_of : Bool → Bool → VerdictState
state_of true false = Met
state_of true true = Stale
state_of false true = Justified
state_of false false = Missing

-- `at` is the obligation's position in the list
pub record IsVerdict (stands : Event → ℕ → Type 0) (m : Map) (mode : Mode)
    (named : List Justification) (at : ℕ) (o : Obligation) (v : Verdict) : Type 0 where
  pub evidence : IsEvidence stands m mode o.id v.evidence
  pub reason : v.reason ≡ reason_for at named
  pub state : v.state ≡ state_of (is_shown v.evidence) (is_some v.reason)

-- the verdicts of obligations from a position on, one each
abbrev pub AreVerdictsFrom : (Event → ℕ → Type 0) → Map → Mode → List Justification → ℕ
    → List Obligation → List Verdict → Type 0
AreVerdictsFrom stands m mode named at [] vs = vs ≡ []
AreVerdictsFrom stands m mode named at (o ∷ os) [] = ⊥
AreVerdictsFrom stands m mode named at (o ∷ os) (v ∷ vs) =
    IsVerdict stands m mode named at o v × AreVerdictsFrom stands m mode named (suc at) os vs

-- the verdicts of a program's obligations, in their order
abbrev pub AreVerdicts : (Event → ℕ → Type 0) → Map → Mode → List Justification → List Verdict
    → Type 0
AreVerdicts stands m mode named vs =
    AreVerdictsFrom stands m mode named 0 (obligations_of m) vs
