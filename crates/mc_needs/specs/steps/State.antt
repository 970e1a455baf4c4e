-- A step of the proofs: it follows the code, and no public clause rests on it.
-- What the marks and the due outcomes of a list stand for.
use Rattle.std.specs.Prelude.{◌≡◌, ◌↔◌, ℕ, ◌<◌, ◌⊎◌, Bool, true, false, Some, List, [], ◌∷◌, length, slice_get}
use Rattle.mc_cond.specs.Tree.{Tree}
use Rattle.mc_paths.specs.Paths.{count_of}
use Rattle.mc_probe.specs.Maps.{Mapped, Map}
use Rattle.report_options.specs.declared.mode.Mode.{Mode}
use Rattle.mc_oblige.specs.declared.obligation.ObligationId.{ObligationId}
use Rattle.mc_oblige.specs.declared.obligation.ObligationId.TheVariants.{Outcome, Condition}
use Rattle.needed_paths.specs.declared.wanted.Wanted.{Wanted}
use Rattle.mc_needs.specs.declared.listing.Listing.{Listing}
use Rattle.mc_needs.specs.Needs.{Gives}
use Rattle.mc_needs.specs.Asked.{IsAsked}
use Rattle.mc_needs.specs.Wanted.{IsListed, IsKnown, AreWantedFrom, AreWanted}
use Rattle.mc_needs.specs.steps.Marks.{IsMarked}
use Rattle.mc_needs.specs.steps.Due.{due_at, is_due}
use Rattle.mc_needs.specs.steps.Each.{IsConditionIn, IsDecisionIn}

-- no vector that is seen has an asked outcome
abbrev pub AreUnseen : (ℕ → ℕ → Type 0) → Map → List Bool → Type 0
AreUnseen seen m asked =
    (d : ℕ) (outcome : Bool) (mapped : Mapped) → slice_get m.decisions d ≡ Some mapped →
    IsAsked m asked (Outcome d outcome) → (path : ℕ) → seen d path →
    ¬ Gives mapped.decision.tree outcome path

-- no vector of the list has the outcome, or this one has it
abbrev pub NoneListed : List Wanted → ℕ → Tree → Bool → Type 0
NoneListed listed d t outcome = (p : ℕ) → IsListed listed d p → ¬ Gives t outcome p

abbrev pub SomeListed : List Wanted → ℕ → Tree → Bool → Type 0
SomeListed listed d t outcome = (p : ℕ) × IsListed listed d p × Gives t outcome p

-- an outcome is due where it is asked and no vector of the list has it
abbrev pub IsState : Map → List Bool → List Wanted → ℕ → Tree → Bool → Bool → Type 0
IsState m asked listed d t outcome true =
    IsAsked m asked (Outcome d outcome) × NoneListed listed d t outcome
IsState m asked listed d t outcome false =
    (¬ IsAsked m asked (Outcome d outcome)) ⊎ SomeListed listed d t outcome

-- the marks are those of the known vectors
pub record Fits (seen : ℕ → ℕ → Type 0) (m : Map) (mode : Mode) (asked : List Bool) (l : Listing)
    : Type 0 where
  pub bits : length l.marks.items ≡ m.bits
  pub decisions : length l.due.items ≡ length m.decisions
  pub marked : (d : ℕ) (mapped : Mapped) → slice_get m.decisions d ≡ Some mapped → (p : ℕ) →
      p < count_of mapped.decision.tree →
      IsMarked l.marks.items mapped.base p ↔ IsKnown seen m mode asked l.wanted.items d p
  pub dues : (d : ℕ) (mapped : Mapped) → slice_get m.decisions d ≡ Some mapped →
      (outcome : Bool) → IsState m asked l.wanted.items d mapped.decision.tree outcome
      (is_due (due_at l.due.items d) outcome)

-- an asked outcome or condition of the map
abbrev pub IsReady : Map → List Bool → ObligationId → Type 0
IsReady m asked (Outcome d outcome) =
    IsDecisionIn (slice_get m.decisions d) × IsAsked m asked (Outcome d outcome)
IsReady m asked (Condition d k) = IsConditionIn k (slice_get m.decisions d)
IsReady m asked id = ⊥

abbrev pub AreReady : Map → List Bool → List ObligationId → Type 0
AreReady m asked [] = Unit {0}
AreReady m asked (id ∷ ids) = IsReady m asked id × AreReady m asked ids

-- what follows the list so far, for these obligations, is the whole list
abbrev pub Leads : (ℕ → ℕ → Type 0) → Map → Mode → List Bool → List Wanted → List ObligationId
    → Type 0
Leads seen m mode asked listed left =
    (all : List Wanted) → AreWantedFrom seen m mode asked listed left all →
    AreWanted seen m mode asked all
