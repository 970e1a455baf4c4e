-- The obligations that are asked what they need. `asked` has one entry for each obligation.
use Rattle.std.specs.Prelude.{◌≡◌, ℕ, Bool, true, List, [], ◌∷◌, ◌++◌, Some, length, slice_get}
use Rattle.mc_steps.specs.Events.{Event}
use Rattle.mc_probe.specs.Maps.{Map}
use Rattle.report_options.specs.declared.mode.Mode.{Mode}
use Rattle.mc_oblige.specs.declared.obligation.ObligationId.{ObligationId}
use Rattle.mc_oblige.specs.declared.obligation.ObligationId.TheVariants.{Outcome, Condition}
use Rattle.mc_oblige.specs.declared.obligation.Obligation.{Obligation}
use Rattle.mc_oblige.specs.declared.verdict.Evidence.TheVariants.{Absent}
use Rattle.mc_oblige.specs.Obligations.{obligations_of}
use Rattle.mc_oblige.specs.Evidence.{IsEvidence}

-- the obligation at a position is asked
pub record IsAskedAt (m : Map) (asked : List Bool) (at : ℕ) (id : ObligationId) : Type 0 where
  pub obligation : Obligation
  pub among : slice_get (obligations_of m) at ≡ Some obligation
  pub same : obligation.id ≡ id
  pub is : slice_get asked at ≡ Some true

abbrev pub IsAsked : Map → List Bool → ObligationId → Type 0
IsAsked m asked id = (at : ℕ) × IsAskedAt m asked at id

-- each that is asked has no evidence, where `stands` says which events stand under which tests
pub record AreMissing (stands : Event → ℕ → Type 0) (m : Map) (mode : Mode) (asked : List Bool)
    : Type 0 where
  pub count : length asked ≡ length (obligations_of m)
  pub each : (id : ObligationId) → IsAsked m asked id → IsEvidence stands m mode id Absent

-- ---- the conditions, or the outcomes, that are asked, in the order of the obligations

abbrev pub if_condition : Bool → ObligationId → List ObligationId → List ObligationId
if_condition true (Condition d k) ids = Condition d k ∷ ids
if_condition _ id ids = ids

abbrev pub if_outcome : Bool → ObligationId → List ObligationId → List ObligationId
if_outcome true (Outcome d outcome) ids = Outcome d outcome ∷ ids
if_outcome _ id ids = ids

abbrev pub asked_conditions : List Obligation → List Bool → List ObligationId
asked_conditions (o ∷ os) (is ∷ asked) = if_condition is o.id (asked_conditions os asked)
asked_conditions _ _ = []

abbrev pub asked_outcomes : List Obligation → List Bool → List ObligationId
asked_outcomes (o ∷ os) (is ∷ asked) = if_outcome is o.id (asked_outcomes os asked)
asked_outcomes _ _ = []

-- first the conditions and then the outcomes
abbrev pub asked_ids : Map → List Bool → List ObligationId
asked_ids m asked =
    asked_conditions (obligations_of m) asked ++ asked_outcomes (obligations_of m) asked
