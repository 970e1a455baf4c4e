-- The paths of decisions whose vectors are evaluated, each with its least test. `stands` says which
-- events stand under which tests: those of the plain runs, or those that a matrix has.
use Rattle.std.specs.Prelude.{◌≡◌, ℕ, ◌<◌, ◌↔◌, ◌⊎◌, List, Contains, AllPairs, Some, slice_get}
use Rattle.mc_steps.specs.Events.{Event}
use Rattle.mc_probe.specs.Maps.{Mapped, Map}
use Rattle.mc_oblige.specs.declared.evaluated.EvaluatedPath.{EvaluatedPath}
use Rattle.mc_oblige.specs.Evidence.{IsLeast, IsEvaluated}

-- by decisions, and the paths of one decision by their numbers
abbrev pub IsBefore : EvaluatedPath → EvaluatedPath → Type 0
IsBefore a b = (a.decision < b.decision) ⊎ ((a.decision ≡ b.decision) × (a.path < b.path))

module _ (stands : Event → ℕ → Type 0) where
  -- the test is the least one under which the decision is evaluated with the vector of this path
  pub record IsEvaluatedPath (m : Map) (e : EvaluatedPath) : Type 0 where
    pub mapped : Mapped
    pub known : slice_get m.decisions e.decision ≡ Some mapped
    pub least : IsLeast (IsEvaluated stands e.decision mapped.decision.tree e.path) e.test

  -- all of them and no others, in strictly ascending order
  pub record AreEvaluated (m : Map) (es : List EvaluatedPath) : Type 0 where
    pub ascending : AllPairs IsBefore es
    pub each : (e : EvaluatedPath) → Contains es e ↔ IsEvaluatedPath m e
