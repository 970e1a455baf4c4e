-- The evidence that is found for a decision in the least tests of its paths, and that of a list of
-- obligations.
use Rattle.std.specs.Prelude.{◌≡◌, ℕ, ◌<◌, Bool, true, false, Option, Some, None, List, [], ◌∷◌, length, slice_index_or}
use Rattle.mc_cond.specs.Tree.{Tree, size}
use Rattle.mc_pairs.specs.Pairs.{ArePaired, IsChosen}
use Rattle.mc_steps.specs.Events.{Event}
use Rattle.mc_probe.specs.Maps.{Map}
use Rattle.report_options.specs.declared.mode.Mode.{Mode}
use Rattle.mc_oblige.specs.declared.obligation.Obligation.{Obligation}
use Rattle.mc_oblige.specs.declared.verdict.Evidence.{Evidence}
use Rattle.mc_oblige.specs.declared.verdict.Evidence.TheVariants.{Absent, One, Pair}
use Rattle.mc_oblige.specs.Evidence.{pairs_of, IsEvidence}
use Rattle.mc_oblige.specs.steps.Table.{IsAt, HasTest, IsLeastBelow, AreSeenBelow}

-- the evidence of an outcome: the least test of its paths
abbrev pub IsFoundOutcome : Tree → List (Option ℕ) → Bool → Evidence → Type 0
IsFoundOutcome t tests outcome Absent = IsLeastBelow (HasTest t tests outcome) (length tests) None
IsFoundOutcome t tests outcome (One test) =
    IsLeastBelow (HasTest t tests outcome) (length tests) (Some test)
IsFoundOutcome t tests outcome (Pair first first_test second second_test) = ⊥

-- the chosen pair of the paths that have a test, with their tests
pub record IsFoundPair (mode : Mode) (t : Tree) (tests : List (Option ℕ))
    (k first first_test second second_test : ℕ) : Type 0 where
  pub seen : List ℕ
  pub are_seen : AreSeenBelow tests (length tests) seen
  pub chosen : IsChosen (pairs_of mode t k) t seen k first second
  pub first_at : IsAt tests first first_test
  pub second_at : IsAt tests second second_test

-- the evidence of condition k
abbrev pub IsFoundCondition : Mode → Tree → List (Option ℕ) → ℕ → Evidence → Type 0
IsFoundCondition mode t tests k Absent =
    (first second s u : ℕ) → IsAt tests first s → IsAt tests second u →
    ¬ ArePaired (pairs_of mode t k) t first second
IsFoundCondition mode t tests k (One test) = ⊥
IsFoundCondition mode t tests k (Pair first first_test second second_test) =
    IsFoundPair mode t tests k first first_test second second_test

-- that of the first n conditions
pub record AreFoundBelow (mode : Mode) (t : Tree) (tests : List (Option ℕ)) (n : ℕ)
    (found : List Evidence) : Type 0 where
  pub count : length found ≡ n
  pub each : (k : ℕ) → k < n → IsFoundCondition mode t tests k (slice_index_or found k Absent)

-- that of a decision's obligations
abbrev pub AreFound : Mode → Tree → List (Option ℕ) → List Evidence → Type 0
AreFound mode t tests (on_true ∷ on_false ∷ conditions) =
    IsFoundOutcome t tests true on_true
    × IsFoundOutcome t tests false on_false
    × AreFoundBelow mode t tests (size t) conditions
AreFound mode t tests _ = ⊥

-- that of a list of obligations
abbrev pub AreEvidence : (Event → ℕ → Type 0) → Map → Mode → List Obligation → List Evidence
    → Type 0
AreEvidence stands m mode [] [] = Unit {0}
AreEvidence stands m mode (o ∷ os) (e ∷ es) =
    IsEvidence stands m mode o.id e × AreEvidence stands m mode os es
AreEvidence stands m mode _ _ = ⊥
