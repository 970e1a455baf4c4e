-- Paths that have a test, decision after decision.
use Rattle.std.specs.Prelude.{◌≡◌, ℕ, ◌+◌, ◌<◌, ◌↔◌, ◌⊎◌, Option, Some, None, List, [], ◌∷◌, ◌++◌, Contains, AllPairs}
use Rattle.mc_steps.specs.Events.{Event}
use Rattle.mc_probe.specs.Maps.{Map}
use Rattle.mc_oblige.specs.declared.evaluated.EvaluatedPath.{EvaluatedPath}
use Rattle.mc_oblige.specs.Evaluated.{IsBefore, IsEvaluatedPath}

abbrev pub entry_of : ℕ → ℕ → ℕ → EvaluatedPath
entry_of d path test = record { decision = d; path = path; test = test }

-- the path, where it has a test
abbrev pub tested_at : ℕ → ℕ → Option ℕ → List EvaluatedPath
tested_at d path None = []
tested_at d path (Some test) = entry_of d path test ∷ []

-- those of the paths from `path` on that have a test
abbrev pub tested : ℕ → ℕ → List (Option ℕ) → List EvaluatedPath
tested d path [] = []
tested d path (test ∷ rest) = tested_at d path test ++ tested d (path + 1) rest

-- the decision stands before d, or it is d and the path is below this number
abbrev pub IsEarlier : ℕ → ℕ → EvaluatedPath → Type 0
IsEarlier d path e = (e.decision < d) ⊎ ((e.decision ≡ d) × (e.path < path))

-- the evaluated paths up to one of decision d, in ascending order
pub record AreTestedBelow (stands : Event → ℕ → Type 0) (m : Map) (d path : ℕ)
    (es : List EvaluatedPath) : Type 0 where
  pub ascending : AllPairs IsBefore es
  pub each : (e : EvaluatedPath) →
      Contains es e ↔ (IsEarlier d path e × IsEvaluatedPath stands m e)
