-- What some of the tests show. `stands` says which events stand under which tests, and `keeps`
-- which tests are meant.
use Rattle.std.specs.Prelude.{ℕ, Option, Some, None, slice_get}
use Rattle.mc_cond.specs.Tree.{Tree}
use Rattle.mc_pairs.specs.Pairs.{ArePaired}
use Rattle.mc_steps.specs.Events.{Event}
use Rattle.mc_probe.specs.Maps.{Mapped, Map}
use Rattle.report_options.specs.declared.mode.Mode.{Mode}
use Rattle.mc_oblige.specs.declared.obligation.ObligationId.{ObligationId}
use Rattle.mc_oblige.specs.declared.obligation.ObligationId.TheVariants.{Condition}
use Rattle.mc_oblige.specs.Evidence.{IsShown, IsEvaluated, pairs_of}

module _ (stands : Event → ℕ → Type 0) where
  -- two vectors that are evaluated, each under some test, are a pair of the mode for condition k
  pub record HavePair (mode : Mode) (d k : ℕ) (tree : Tree) : Type 0 where
    pub first : ℕ
    pub first_test : ℕ
    pub second : ℕ
    pub second_test : ℕ
    pub first_under : IsEvaluated stands d tree first first_test
    pub second_under : IsEvaluated stands d tree second second_test
    pub paired : ArePaired (pairs_of mode tree k) tree first second

  abbrev pub IsConditionShown : Mode → ℕ → ℕ → Option Mapped → Type 0
  IsConditionShown mode d k None = ⊥
  IsConditionShown mode d k (Some m) = HavePair mode d k m.decision.tree

  -- for a condition such a pair exists; else an event that shows it stands under some test
  abbrev pub AreShowing : Map → Mode → ObligationId → Type 0
  AreShowing m mode (Condition d k) = IsConditionShown mode d k (slice_get m.decisions d)
  AreShowing m mode id = (test : ℕ) × IsShown stands id test

-- an event stands under a test that is kept
pub record StandsKept (stands : Event → ℕ → Type 0) (keeps : ℕ → Type 0) (e : Event) (test : ℕ)
    : Type 0 where
  pub is_kept : keeps test
  pub under : stands e test

module _ (stands : Event → ℕ → Type 0) (m : Map) (mode : Mode) where
  -- all tests together show the obligation
  abbrev pub IsShownByAll : ObligationId → Type 0
  IsShownByAll id = AreShowing stands m mode id

  -- and some of them do
  abbrev pub IsShownBy : (ℕ → Type 0) → ObligationId → Type 0
  IsShownBy keeps id = AreShowing (StandsKept stands keeps) m mode id
