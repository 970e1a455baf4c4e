-- A step of the proofs: it follows the code, and no public clause rests on it.
-- What one obligation needs, by marks and tests.
use Rattle.std.specs.Prelude.{ℕ, ◌+◌, ◌<◌, Bool, Option, Some, None, List, slice_get}
use Rattle.mc_cond.specs.Tree.{size}
use Rattle.mc_probe.specs.Maps.{Mapped, Map}
use Rattle.report_options.specs.declared.mode.Mode.{Mode}
use Rattle.mc_oblige.specs.declared.obligation.ObligationId.{ObligationId}
use Rattle.mc_oblige.specs.declared.obligation.ObligationId.TheVariants.{Outcome, Condition}
use Rattle.mc_oblige.specs.Evidence.{IsLeast}
use Rattle.needed_paths.specs.declared.need.Need.{Need}
use Rattle.needed_paths.specs.declared.need.Need.TheVariants.{Vector, Beside, Both}
use Rattle.mc_needs.specs.Needs.{Gives, IsUnpaired, NeedsOne, NeedsTwo}
use Rattle.mc_needs.specs.steps.Marks.{IsMarked, HasTestAt}

-- the decision has the condition, or the decision is there
abbrev pub IsConditionIn : ℕ → Option Mapped → Type 0
IsConditionIn k None = ⊥
IsConditionIn k (Some mapped) = k < size mapped.decision.tree

abbrev pub IsDecisionIn : Option Mapped → Type 0
IsDecisionIn None = ⊥
IsDecisionIn (Some mapped) = Unit {0}

-- an obligation of the map; one that is neither an outcome nor a condition is not looked at
abbrev pub IsProper : Map → ObligationId → Type 0
IsProper m (Outcome d outcome) = IsDecisionIn (slice_get m.decisions d)
IsProper m (Condition d k) = IsConditionIn k (slice_get m.decisions d)
IsProper m id = Unit {0}

-- no two marked vectors are a pair for the condition
abbrev pub IsUnpairedIn : Mode → List Bool → ℕ → Option Mapped → Type 0
IsUnpairedIn mode marks k None = Unit {0}
IsUnpairedIn mode marks k (Some mapped) =
    IsUnpaired mode mapped.decision.tree k (IsMarked marks mapped.base)

abbrev pub IsMissingBy : Map → Mode → List Bool → ObligationId → Type 0
IsMissingBy m mode marks (Condition d k) = IsUnpairedIn mode marks k (slice_get m.decisions d)
IsMissingBy m mode marks id = Unit {0}

abbrev pub IsConditionNeedBy : Mode → List (Option ℕ) → List Bool → ℕ → Option Mapped → Need
    → Type 0
IsConditionNeedBy mode tests marks k None need = ⊥
IsConditionNeedBy mode tests marks k (Some mapped) (Vector path) = ⊥
IsConditionNeedBy mode tests marks k (Some mapped) (Beside path partner test) =
    NeedsOne mode mapped.decision.tree k (IsMarked marks mapped.base) path partner
    × HasTestAt tests (mapped.base + partner) test
IsConditionNeedBy mode tests marks k (Some mapped) (Both first second) =
    NeedsTwo mode mapped.decision.tree k (IsMarked marks mapped.base) first second

abbrev pub IsOutcomeNeedBy : Bool → Option Mapped → Need → Type 0
IsOutcomeNeedBy outcome None need = ⊥
IsOutcomeNeedBy outcome (Some mapped) (Vector path) =
    IsLeast (Gives mapped.decision.tree outcome) path
IsOutcomeNeedBy outcome (Some mapped) (Beside path partner test) = ⊥
IsOutcomeNeedBy outcome (Some mapped) (Both first second) = ⊥

abbrev pub IsNeedBy : Map → Mode → List (Option ℕ) → List Bool → ObligationId → Need → Type 0
IsNeedBy m mode tests marks (Outcome d outcome) need =
    IsOutcomeNeedBy outcome (slice_get m.decisions d) need
IsNeedBy m mode tests marks (Condition d k) need =
    IsConditionNeedBy mode tests marks k (slice_get m.decisions d) need
IsNeedBy m mode tests marks id need = ⊥
