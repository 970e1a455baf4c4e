-- No wanted vector is idle: an obligation needs it, and is missing with those before it.
use Rattle.std.specs.Prelude.{◌≡◌, ℕ, ◌⊎◌, Bool, List, ◌∷◌, ◌++◌, Some, slice_get}
use Rattle.mc_core.specs.Matrix.{MatrixView}
use Rattle.mc_probe.specs.Maps.{Mapped, Map}
use Rattle.report_options.specs.declared.mode.Mode.{Mode}
use Rattle.mc_oblige.specs.declared.obligation.ObligationId.TheVariants.{Outcome, Condition}
use Rattle.mc_oblige.specs.Shown.{HasEvent}
use Rattle.mc_oblige.specs.Evidence.{IsLeast}
use Rattle.needed_paths.specs.declared.wanted.Wanted.{Wanted}
use Rattle.mc_needs.specs.Needs.{Gives, IsUnpaired, NeedsOne, NeedsTwo, IsSeen}
use Rattle.mc_needs.specs.Asked.{IsAsked}
use Rattle.mc_needs.specs.Wanted.{IsKnown, AreWanted}

-- an asked condition of which no two known vectors are a pair needs the vector
pub record IsNeededByCondition (m : Map) (mode : Mode) (asked : List Bool) (known : ℕ → Type 0)
    (d path : ℕ) : Type 0 where
  pub mapped : Mapped
  pub is_decision : slice_get m.decisions d ≡ Some mapped
  pub condition : ℕ
  pub is_asked : IsAsked m asked (Condition d condition)
  pub missing : IsUnpaired mode mapped.decision.tree condition known
  pub other : ℕ
  pub needs : NeedsOne mode mapped.decision.tree condition known path other
      ⊎ NeedsTwo mode mapped.decision.tree condition known path other

-- an asked outcome that no known vector has needs it
pub record IsNeededByOutcome (m : Map) (asked : List Bool) (known : ℕ → Type 0) (d path : ℕ)
    : Type 0 where
  pub mapped : Mapped
  pub is_decision : slice_get m.decisions d ≡ Some mapped
  pub outcome : Bool
  pub is_asked : IsAsked m asked (Outcome d outcome)
  pub missing : (p : ℕ) → known p → ¬ Gives mapped.decision.tree outcome p
  pub needs : IsLeast (Gives mapped.decision.tree outcome) path

-- With what is evaluated and on the list before it, each wanted vector is needed by an obligation
-- that is asked.
abbrev pub WantedIsNeeded : Type 0
WantedIsNeeded =
    (m : Map) (x : MatrixView) (mode : Mode) (asked : List Bool) (all before after : List Wanted)
    (w : Wanted) → AreWanted (IsSeen (HasEvent m x) m) m mode asked all →
    all ≡ before ++ w ∷ after →
    let known = IsKnown (IsSeen (HasEvent m x) m) m mode asked before w.decision in
    IsNeededByCondition m mode asked known w.decision w.path
    ⊎ IsNeededByOutcome m asked known w.decision w.path
