-- What sets of bits show. `seen` says which bits are meant.
use Rattle.std.specs.Prelude.{ℕ, zero, suc, ◌+◌, ◌<◌, Bool, true, false, Option, Some, None, length, slice_get}
use Rattle.mc_cond.specs.Tree.{Tree}
use Rattle.mc_pairs.specs.Pairs.{ArePaired}
use Rattle.mc_core.specs.Matrix.{MatrixView, Holds}
use Rattle.mc_probe.specs.Maps.{Mapped, Map, entry_bit, exit_bit, statement_bit, label_bit}
use Rattle.report_options.specs.declared.mode.Mode.{Mode}
use Rattle.mc_oblige.specs.declared.obligation.ObligationId.{ObligationId}
use Rattle.mc_oblige.specs.declared.obligation.ObligationId.TheVariants.{Entry, Exit, Statement, Label, Outcome, Condition}
use Rattle.mc_oblige.specs.Evidence.{pairs_of}
use Rattle.mc_oblige.specs.steps.Table.{HasOutcome}

module _ (seen : ℕ → Type 0) where
  -- a path of the decision with this outcome is seen
  pub record SeesOutcome (outcome : Bool) (m : Mapped) : Type 0 where
    pub path : ℕ
    pub has : HasOutcome m.decision.tree outcome path
    pub is_seen : seen (m.base + path)

  -- two paths that are seen are a pair for condition k
  pub record SeesPair (mode : Mode) (k : ℕ) (m : Mapped) : Type 0 where
    pub first : ℕ
    pub second : ℕ
    pub first_seen : seen (m.base + first)
    pub second_seen : seen (m.base + second)
    pub paired : ArePaired (pairs_of mode m.decision.tree k) m.decision.tree first second

  abbrev pub OfDecision : (Mapped → Type 0) → Option Mapped → Type 0
  OfDecision P None = ⊥
  OfDecision P (Some m) = P m

  abbrev pub See : Map → Mode → ObligationId → Type 0
  See m mode (Entry f) = seen (entry_bit m f)
  See m mode (Exit k) = seen (exit_bit m k)
  See m mode (Statement k) = seen (statement_bit m k)
  See m mode (Label k) = seen (label_bit m k)
  See m mode (Outcome d outcome) = OfDecision (SeesOutcome outcome) (slice_get m.decisions d)
  See m mode (Condition d k) = OfDecision (SeesPair mode k) (slice_get m.decisions d)

-- the matrix has the bit under a test that is kept
pub record HasBit (x : MatrixView) (keeps : ℕ → Type 0) (b : ℕ) : Type 0 where
  pub test : ℕ
  pub is_kept : keeps test
  pub held : Holds x b test

-- what has the obligation is one of the map's, where one event shows it
abbrev pub IsListed : Map → ObligationId → Type 0
IsListed m (Entry f) = f < length m.entries
IsListed m (Exit k) = k < length m.exits
IsListed m (Statement k) = k < length m.statements
IsListed m (Label k) = k < length m.labels
IsListed m (Outcome d outcome) = Unit {0}
IsListed m (Condition d k) = Unit {0}

-- The paths on which `on` holds show an obligation of a decision with this tree: the true outcome,
-- the false one, and then the conditions.
pub record HasOutcomeOn (on : ℕ → Type 0) (tree : Tree) (outcome : Bool) : Type 0 where
  pub path : ℕ
  pub is_on : on path
  pub has : HasOutcome tree outcome path

pub record HasPairOn (on : ℕ → Type 0) (mode : Mode) (tree : Tree) (k : ℕ) : Type 0 where
  pub first : ℕ
  pub second : ℕ
  pub first_on : on first
  pub second_on : on second
  pub paired : ArePaired (pairs_of mode tree k) tree first second

abbrev pub ShowAt : (ℕ → Type 0) → Mode → Tree → ℕ → Type 0
ShowAt on mode tree zero = HasOutcomeOn on tree true
ShowAt on mode tree (suc zero) = HasOutcomeOn on tree false
ShowAt on mode tree (suc (suc k)) = HasPairOn on mode tree k
