-- The evidence of an obligation. `stands` says which events stand under which tests: those of the
-- plain runs, or those that a matrix has.
use Rattle.std.specs.Prelude.{◌≡◌, ℕ, ◌<◌, ◌↔◌, List, Contains, Option, Some, None, slice_get}
use Rattle.std.specs.List.Sorted.{IsStrictlyIncreasing}
use Rattle.mc_cond.specs.Tree.{Tree}
use Rattle.mc_cond.specs.Vectors.{Evaluation}
use Rattle.mc_paths.specs.Paths.{IsPath}
use Rattle.mc_pairs.specs.Pairs.{ArePaired, IsChosen}
use Rattle.mc_unique.specs.Unique.{IsUniquePair}
use Rattle.mc_masking.specs.Masking.{IsMaskingPair}
use Rattle.mc_steps.specs.Events.{Event, Evaluated}
use Rattle.mc_probe.specs.Maps.{Mapped, Map}
use Rattle.report_options.specs.declared.mode.Mode.{Mode}
use Rattle.report_options.specs.declared.mode.Mode.TheVariants.{Unique, Masking}
use Rattle.mc_oblige.specs.declared.obligation.ObligationId.{ObligationId}
use Rattle.mc_oblige.specs.declared.obligation.ObligationId.TheVariants.{Condition}
use Rattle.mc_oblige.specs.declared.verdict.Evidence.{Evidence}
use Rattle.mc_oblige.specs.declared.verdict.Evidence.TheVariants.{Absent, One, Pair}
use Rattle.mc_oblige.specs.Shown.{Shows}

-- it is so of this test, and of none before it in the order of the file
pub record IsLeast (is : ℕ → Type 0) (test : ℕ) : Type 0 where
  pub so : is test
  pub none_before : (t : ℕ) → t < test → ¬ is t

-- the two kinds of independence (DO-178C, glossary: modified condition/decision coverage)
abbrev pub pairs_of : Mode → Tree → ℕ → Evaluation → Evaluation → Type 0
pairs_of Unique tree k = IsUniquePair tree k
pairs_of Masking tree k = IsMaskingPair tree k

module _ (stands : Event → ℕ → Type 0) where
  -- an event that shows the obligation stands under the test
  pub record IsShown (id : ObligationId) (test : ℕ) : Type 0 where
    pub event : Event
    pub shows : Shows id event
    pub under : stands event test

  -- the decision is evaluated under the test, with the vector of this path
  pub record IsEvaluated (d : ℕ) (tree : Tree) (path test : ℕ) : Type 0 where
    pub vector : Evaluation
    pub is_path : IsPath tree path vector
    pub under : stands (Evaluated d vector) test

  -- the paths of the vectors that are evaluated under some test, in ascending order
  pub record AreSeen (d : ℕ) (tree : Tree) (seen : List ℕ) : Type 0 where
    pub ascending : IsStrictlyIncreasing seen
    pub each : (path : ℕ) → Contains seen path ↔ ((test : ℕ) × IsEvaluated d tree path test)

  -- the chosen pair of the mode for condition k, with the least test of each vector
  pub record IsPair (mode : Mode) (d k : ℕ) (tree : Tree) (first first_test second second_test : ℕ)
      : Type 0 where
    pub seen : List ℕ
    pub are_seen : AreSeen d tree seen
    pub chosen : IsChosen (pairs_of mode tree k) tree seen k first second
    pub first_least : IsLeast (IsEvaluated d tree first) first_test
    pub second_least : IsLeast (IsEvaluated d tree second) second_test

  -- no two vectors that are evaluated, each under some test, are a pair of the mode for condition k
  abbrev pub NoPair : Mode → ℕ → ℕ → Tree → Type 0
  NoPair mode d k tree =
      (first second s t : ℕ) → IsEvaluated d tree first s → IsEvaluated d tree second t →
      ¬ ArePaired (pairs_of mode tree k) tree first second

  -- the evidence of a condition of a decision
  abbrev pub IsConditionEvidence : Mode → ℕ → ℕ → Option Mapped → Evidence → Type 0
  IsConditionEvidence mode d k None evidence = evidence ≡ Absent
  IsConditionEvidence mode d k (Some m) Absent = NoPair mode d k m.decision.tree
  IsConditionEvidence mode d k (Some m) (One test) = ⊥
  IsConditionEvidence mode d k (Some m) (Pair first first_test second second_test) =
      IsPair mode d k m.decision.tree first first_test second second_test

  -- the evidence of an obligation that one event shows: the least test
  abbrev pub IsTestEvidence : ObligationId → Evidence → Type 0
  IsTestEvidence id Absent = (test : ℕ) → ¬ IsShown id test
  IsTestEvidence id (One test) = IsLeast (IsShown id) test
  IsTestEvidence id (Pair first first_test second second_test) = ⊥

  abbrev pub IsEvidence : Map → Mode → ObligationId → Evidence → Type 0
  IsEvidence m mode (Condition d k) evidence =
      IsConditionEvidence mode d k (slice_get m.decisions d) evidence
  IsEvidence m mode id evidence = IsTestEvidence id evidence
