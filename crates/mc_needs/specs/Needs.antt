-- What an outcome or a condition of a decision needs, where it is not shown: vectors of the
-- decision. They are told by the numbers of their paths, whose order is that of vectors.
use Rattle.std.specs.Prelude.{◌≡◌, ℕ, ◌<◌, ◌≤◌, ◌⊎◌, Bool, Option, Some, None, slice_get}
use Rattle.mc_cond.specs.Tree.{Tree}
use Rattle.mc_cond.specs.Vectors.{Evaluation}
use Rattle.mc_paths.specs.Paths.{IsPath}
use Rattle.mc_pairs.specs.Pairs.{ArePaired, turned}
use Rattle.mc_steps.specs.Events.{Event}
use Rattle.mc_probe.specs.Maps.{Mapped, Map}
use Rattle.report_options.specs.declared.mode.Mode.{Mode}
use Rattle.mc_oblige.specs.declared.obligation.ObligationId.{ObligationId}
use Rattle.mc_oblige.specs.declared.obligation.ObligationId.TheVariants.{Outcome, Condition}
use Rattle.mc_oblige.specs.Evidence.{IsLeast, IsEvaluated, pairs_of}
use Rattle.needed_paths.specs.declared.need.Need.{Need}
use Rattle.needed_paths.specs.declared.need.Need.TheVariants.{Vector, Beside, Both}

-- the path has a vector with this outcome
pub record Gives (t : Tree) (outcome : Bool) (path : ℕ) : Type 0 where
  pub v : Evaluation
  pub is_path : IsPath t path v
  pub same : v.outcome ≡ outcome

-- the two vectors are a pair for condition k, which is true in the first and false in the second
abbrev pub IsPairFor : Mode → Tree → ℕ → ℕ → ℕ → Type 0
IsPairFor mode t k first second = ArePaired (turned k (pairs_of mode t k)) t first second

-- no two known vectors are a pair for the condition
abbrev pub IsUnpaired : Mode → Tree → ℕ → (ℕ → Type 0) → Type 0
IsUnpaired mode t k known = (p q : ℕ) → known p → known q → ¬ IsPairFor mode t k p q

-- the pair that a report would choose of those of which a fact holds: the least first vector, then
-- the least second
pub record IsLeastPair (holds : ℕ → ℕ → Type 0) (first second : ℕ) : Type 0 where
  pub so : holds first second
  pub least : (p q : ℕ) → holds p q → (first < p) ⊎ ((first ≡ p) × (second ≤ q))

-- `known` says which vectors are known
module _ (mode : Mode) (t : Tree) (k : ℕ) (known : ℕ → Type 0) where
  -- a pair of which one vector is known and the other is not
  pub record IsHalfKnown (first second : ℕ) : Type 0 where
    pub paired : IsPairFor mode t k first second
    pub half : (known first × ¬ known second) ⊎ ((¬ known first) × known second)

  -- one vector, that makes such a pair: of these the one whose pair a report would choose
  pub record NeedsOne (path partner : ℕ) : Type 0 where
    pub new : ¬ known path
    pub old : known partner
    pub least : IsLeastPair IsHalfKnown path partner ⊎ IsLeastPair IsHalfKnown partner path

  -- no single vector makes one, so the pair that a report would choose of all
  pub record NeedsTwo (first second : ℕ) : Type 0 where
    pub none : (p q : ℕ) → ¬ IsHalfKnown p q
    pub least : IsLeastPair (IsPairFor mode t k) first second

-- ---- by what is evaluated: `stands` says which events stand under which tests

-- the decision is evaluated with the vector of this path, under some test
pub record IsSeen (stands : Event → ℕ → Type 0) (m : Map) (d path : ℕ) : Type 0 where
  pub mapped : Mapped
  pub known : slice_get m.decisions d ≡ Some mapped
  pub test : ℕ
  pub under : IsEvaluated stands d mapped.decision.tree path test

module _ (stands : Event → ℕ → Type 0) (m : Map) (mode : Mode) where
  -- an outcome needs the least vector with it
  abbrev pub IsOutcomeNeed : Bool → Option Mapped → Need → Type 0
  IsOutcomeNeed outcome None need = ⊥
  IsOutcomeNeed outcome (Some mapped) (Vector path) =
      IsLeast (Gives mapped.decision.tree outcome) path
  IsOutcomeNeed outcome (Some mapped) (Beside path partner test) = ⊥
  IsOutcomeNeed outcome (Some mapped) (Both first second) = ⊥

  -- a condition needs one vector, with the least test of its partner, or two
  abbrev pub IsConditionNeed : ℕ → ℕ → Option Mapped → Need → Type 0
  IsConditionNeed d k None need = ⊥
  IsConditionNeed d k (Some mapped) (Vector path) = ⊥
  IsConditionNeed d k (Some mapped) (Beside path partner test) =
      NeedsOne mode mapped.decision.tree k (IsSeen stands m d) path partner
      × IsLeast (IsEvaluated stands d mapped.decision.tree partner) test
  IsConditionNeed d k (Some mapped) (Both first second) =
      NeedsTwo mode mapped.decision.tree k (IsSeen stands m d) first second

  abbrev pub IsNeed : ObligationId → Need → Type 0
  IsNeed (Outcome d outcome) need = IsOutcomeNeed outcome (slice_get m.decisions d) need
  IsNeed (Condition d k) need = IsConditionNeed d k (slice_get m.decisions d) need
  IsNeed id need = ⊥
