-- The wanted vectors: what each asked condition needs, in the order of the obligations, judged anew
-- with what is evaluated and wanted so far, and then the same for each asked outcome.
use Rattle.std.specs.Prelude.{◌≡◌, ◌↔◌, ℕ, ◌⊎◌, Bool, Option, Some, None, List, [], ◌∷◌, ◌++◌, Contains, slice_get}
use Rattle.mc_cond.specs.Tree.{Tree}
use Rattle.mc_probe.specs.Maps.{Mapped, Map}
use Rattle.report_options.specs.declared.mode.Mode.{Mode}
use Rattle.mc_oblige.specs.declared.obligation.ObligationId.{ObligationId}
use Rattle.mc_oblige.specs.declared.obligation.ObligationId.TheVariants.{Outcome, Condition}
use Rattle.mc_oblige.specs.Evidence.{IsLeast}
use Rattle.needed_paths.specs.declared.wanted.Wanted.{Wanted}
use Rattle.mc_needs.specs.Needs.{Gives, IsPairFor, IsUnpaired, NeedsOne, NeedsTwo}
use Rattle.mc_needs.specs.Asked.{IsAsked, asked_ids}

-- ---- the vectors that an obligation of a decision puts on the list, where some are known

-- none where two known vectors are a pair, else the one that the condition needs, or the two
pub data PutsForCondition (mode : Mode) (t : Tree) (k : ℕ) (known : ℕ → Type 0)
    : List ℕ → Type 0 where
  met : {p q : ℕ} → known p → known q → IsPairFor mode t k p q →
      PutsForCondition mode t k known []
  one : {path partner : ℕ} → IsUnpaired mode t k known →
      NeedsOne mode t k known path partner → PutsForCondition mode t k known (path ∷ [])
  two : {first second : ℕ} → IsUnpaired mode t k known →
      NeedsTwo mode t k known first second → PutsForCondition mode t k known (first ∷ second ∷ [])

-- none where a known vector has the outcome, else the least that has it
pub data PutsForOutcome (t : Tree) (outcome : Bool) (known : ℕ → Type 0) : List ℕ → Type 0 where
  had : {p : ℕ} → known p → Gives t outcome p → PutsForOutcome t outcome known []
  new : {path : ℕ} → ((p : ℕ) → known p → ¬ Gives t outcome p) →
      IsLeast (Gives t outcome) path → PutsForOutcome t outcome known (path ∷ [])

-- ---- the list

-- the vector of the decision is on the list
pub record IsListed (listed : List Wanted) (d path : ℕ) : Type 0 where
  pub entry : Wanted
  pub among : Contains listed entry
  pub decision : entry.decision ≡ d
  pub same : entry.path ≡ path

-- the outcome is asked, and the vector has it, as none on the list does
pub record IsFirstWith (m : Map) (asked : List Bool) (listed : List Wanted) (d path : ℕ)
    (outcome : Bool) : Type 0 where
  pub mapped : Mapped
  pub known : slice_get m.decisions d ≡ Some mapped
  pub is_asked : IsAsked m asked (Outcome d outcome)
  pub gives : Gives mapped.decision.tree outcome path
  pub none_before : (p : ℕ) → IsListed listed d p → ¬ Gives mapped.decision.tree outcome p

-- The next entry, for a vector of the decision; `condition` is the one that put it on the list.
pub record IsEntry (m : Map) (asked : List Bool) (listed : List Wanted) (d : ℕ)
    (condition : Option ℕ) (path : ℕ) (entry : Wanted) : Type 0 where
  pub decision : entry.decision ≡ d
  pub same : entry.path ≡ path
  pub put_for : entry.condition ≡ condition
  pub first : (outcome : Bool) →
      (entry.outcome ≡ Some outcome) ↔ IsFirstWith m asked listed d path outcome

-- `seen` says which vectors of each decision are evaluated
module _ (seen : ℕ → ℕ → Type 0) (m : Map) (mode : Mode) (asked : List Bool) where
  -- a vector of the decision that is evaluated or on the list
  abbrev pub IsKnown : List Wanted → ℕ → ℕ → Type 0
  IsKnown listed d path = seen d path ⊎ IsListed listed d path

  -- the list after these vectors
  abbrev pub Adds : List Wanted → ℕ → Option ℕ → List ℕ → List Wanted → Type 0
  Adds listed d condition [] after = after ≡ listed
  Adds listed d condition (path ∷ paths) after =
      (entry : Wanted) × IsEntry m asked listed d condition path entry
      × Adds (listed ++ entry ∷ []) d condition paths after

  -- the list after those that a condition puts on it
  abbrev pub AddsForCondition : List Wanted → ℕ → ℕ → Option Mapped → List Wanted → Type 0
  AddsForCondition listed d k None after = ⊥
  AddsForCondition listed d k (Some mapped) after =
      (paths : List ℕ)
      × PutsForCondition mode mapped.decision.tree k (IsKnown listed d) paths
      × Adds listed d (Some k) paths after

  -- and those of an outcome
  abbrev pub AddsForOutcome : List Wanted → ℕ → Bool → Option Mapped → List Wanted → Type 0
  AddsForOutcome listed d outcome None after = ⊥
  AddsForOutcome listed d outcome (Some mapped) after =
      (paths : List ℕ)
      × PutsForOutcome mapped.decision.tree outcome (IsKnown listed d) paths
      × Adds listed d None paths after

  abbrev pub AddsFor : List Wanted → ObligationId → List Wanted → Type 0
  AddsFor listed (Condition d k) after =
      AddsForCondition listed d k (slice_get m.decisions d) after
  AddsFor listed (Outcome d outcome) after =
      AddsForOutcome listed d outcome (slice_get m.decisions d) after
  AddsFor listed id after = ⊥

  -- the whole list, where these obligations come next
  abbrev pub AreWantedFrom : List Wanted → List ObligationId → List Wanted → Type 0
  AreWantedFrom listed [] all = all ≡ listed
  AreWantedFrom listed (id ∷ ids) all =
      (after : List Wanted) × AddsFor listed id after × AreWantedFrom after ids all

  abbrev pub AreWanted : List Wanted → Type 0
  AreWanted all = AreWantedFrom [] (asked_ids m asked) all
