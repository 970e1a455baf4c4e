-- A step of the proofs: it follows the code, and no public clause rests on it.
-- The list of wanted vectors with its marks, before a vector is put on it and after.
use Rattle.std.specs.Prelude.{◌≡◌, ℕ, ◌+◌, Bool, true, false, Option, Some, None, List, [], ◌∷◌, ◌++◌, set, slice_get}
use Rattle.mc_probe.specs.Maps.{Mapped, Map}
use Rattle.report_options.specs.declared.mode.Mode.{Mode}
use Rattle.mc_oblige.specs.declared.obligation.ObligationId.{ObligationId}
use Rattle.mc_oblige.specs.declared.obligation.ObligationId.TheVariants.{Outcome, Condition}
use Rattle.mc_oblige.specs.Evidence.{IsLeast}
use Rattle.needed_paths.specs.declared.wanted.Wanted.{Wanted}
use Rattle.mc_needs.specs.declared.listing.Listing.{Listing}
use Rattle.mc_needs.specs.Needs.{Gives}
use Rattle.mc_needs.specs.Wanted.{PutsForCondition}
use Rattle.mc_needs.specs.steps.Marks.{IsMarked}
use Rattle.mc_needs.specs.steps.Due.{due_at, is_due, first_of, with_due_at}

abbrev pub entry_with : ℕ → Option ℕ → ℕ → Option Bool → Wanted
entry_with d condition path outcome =
    record { decision = d; path = path; condition = condition; outcome = outcome }

-- a vector that has this outcome is put on the list
pub record IsAddedWith (mapped : Mapped) (d : ℕ) (condition : Option ℕ) (path : ℕ) (outcome : Bool)
    (old new : Listing) : Type 0 where
  pub gives : Gives mapped.decision.tree outcome path
  pub wanted : new.wanted.items
      ≡ old.wanted.items
      ++ entry_with d condition path (first_of (due_at old.due.items d) outcome) ∷ []
  pub marks : new.marks.items ≡ set old.marks.items (mapped.base + path) true
  pub due : new.due.items ≡ with_due_at old.due.items d outcome false

abbrev pub IsAdded : Mapped → ℕ → Option ℕ → ℕ → Listing → Listing → Type 0
IsAdded mapped d condition path old new =
    (outcome : Bool) × IsAddedWith mapped d condition path outcome old new

-- vectors are put on it, in order
abbrev pub AreAdded : Mapped → ℕ → Option ℕ → List ℕ → Listing → Listing → Type 0
AreAdded mapped d condition [] old new = new ≡ old
AreAdded mapped d condition (path ∷ paths) old new =
    (mid : Listing) × IsAdded mapped d condition path old mid
    × AreAdded mapped d condition paths mid new

-- those that a condition puts on it
abbrev pub IsAddedForCondition : Mapped → Mode → ℕ → ℕ → Listing → Listing → Type 0
IsAddedForCondition mapped mode d k old new =
    (paths : List ℕ)
    × PutsForCondition mode mapped.decision.tree k (IsMarked old.marks.items mapped.base) paths
    × AreAdded mapped d (Some k) paths old new

-- and those of an outcome: none where it is not due
pub data IsAddedForOutcome (mapped : Mapped) (d : ℕ) (outcome : Bool) (old new : Listing)
    : Type 0 where
  shut : is_due (due_at old.due.items d) outcome ≡ false → new ≡ old →
      IsAddedForOutcome mapped d outcome old new
  wide : {path : ℕ} → is_due (due_at old.due.items d) outcome ≡ true →
      IsLeast (Gives mapped.decision.tree outcome) path →
      IsAdded mapped d None path old new → IsAddedForOutcome mapped d outcome old new

abbrev pub IsAddedAt : (Mapped → Type 0) → Option Mapped → Type 0
IsAddedAt is None = ⊥
IsAddedAt is (Some mapped) = is mapped

abbrev pub IsAddedFor : Map → Mode → ObligationId → Listing → Listing → Type 0
IsAddedFor m mode (Condition d k) old new =
    IsAddedAt (λ mapped. IsAddedForCondition mapped mode d k old new) (slice_get m.decisions d)
IsAddedFor m mode (Outcome d outcome) old new =
    IsAddedAt (λ mapped. IsAddedForOutcome mapped d outcome old new) (slice_get m.decisions d)
IsAddedFor m mode id old new = new ≡ old
