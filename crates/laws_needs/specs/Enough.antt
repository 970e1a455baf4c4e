-- What is needed is enough: with it the obligations are met. The events are those of matrices.
use Rattle.std.specs.Prelude.{◌≡◌, ◌↔◌, ℕ, ◌⊎◌, Bool, true, Some, List, slice_get}
use Rattle.mc_cond.specs.Tree.{Tree}
use Rattle.mc_cond.specs.Vectors.{Evaluation}
use Rattle.mc_paths.specs.Paths.{IsPath}
use Rattle.mc_core.specs.Matrix.{MatrixView}
use Rattle.mc_steps.specs.Events.{Evaluated}
use Rattle.mc_probe.specs.Maps.{Mapped, Map}
use Rattle.report_options.specs.declared.mode.Mode.{Mode}
use Rattle.mc_oblige.specs.declared.obligation.ObligationId.{ObligationId}
use Rattle.mc_oblige.specs.declared.obligation.ObligationId.TheVariants.{Outcome, Condition}
use Rattle.mc_oblige.specs.declared.verdict.Evidence.{Evidence}
use Rattle.mc_oblige.specs.declared.verdict.Evidence.TheVariants.{Absent, Pair}
use Rattle.mc_oblige.specs.Shown.{HasEvent}
use Rattle.mc_oblige.specs.Evidence.{IsEvidence}
use Rattle.mc_oblige.specs.Verdicts.{is_shown}
use Rattle.needed_paths.specs.declared.need.Need.{Need}
use Rattle.needed_paths.specs.declared.need.Need.TheVariants.{Vector, Beside, Both}
use Rattle.needed_paths.specs.declared.wanted.Wanted.{Wanted}
use Rattle.mc_needs.specs.Needs.{IsSeen, IsNeed}
use Rattle.mc_needs.specs.Asked.{IsAsked}
use Rattle.mc_needs.specs.Wanted.{IsListed, AreWanted}

-- tests are added: each vector that the first matrix has, the second has too
abbrev pub HasMore : Map → MatrixView → MatrixView → Type 0
HasMore m x y = (d path : ℕ) → IsSeen (HasEvent m x) m d path → IsSeen (HasEvent m y) m d path

-- the vectors that are needed are evaluated
abbrev pub AreSeenAll : Map → MatrixView → ℕ → Need → Type 0
AreSeenAll m y d (Vector path) = IsSeen (HasEvent m y) m d path
AreSeenAll m y d (Beside path partner test) = IsSeen (HasEvent m y) m d path
AreSeenAll m y d (Both first second) =
    IsSeen (HasEvent m y) m d first × IsSeen (HasEvent m y) m d second

abbrev pub HasNeeded : Map → MatrixView → ObligationId → Need → Type 0
HasNeeded m y (Outcome d outcome) need = AreSeenAll m y d need
HasNeeded m y (Condition d k) need = AreSeenAll m y d need
HasNeeded m y id need = ⊥

-- Where tests that evaluate what an obligation needs are added, it has evidence.
abbrev pub NeededIsEnough : Type 0
NeededIsEnough =
    (m : Map) (x y : MatrixView) (mode : Mode) (id : ObligationId) (need : Need)
    (evidence : Evidence) → IsNeed (HasEvent m x) m mode id need → HasMore m x y →
    HasNeeded m y id need → IsEvidence (HasEvent m y) m mode id evidence →
    is_shown evidence ≡ true

-- the second matrix has one vector of the decision more, under a test
abbrev pub HasOneMore : Map → MatrixView → MatrixView → ℕ → Tree → ℕ → ℕ → Type 0
HasOneMore m x y d t path test =
    (v : Evaluation) (u : ℕ) →
    HasEvent m y (Evaluated d v) u
    ↔ (HasEvent m x (Evaluated d v) u ⊎ (IsPath t path v × (u ≡ test)))

-- Where a missing condition needs one vector, and that vector alone is added, the evidence is its
-- pair with the partner.
abbrev pub OneGivesItsPair : Type 0
OneGivesItsPair =
    (m : Map) (x y : MatrixView) (mode : Mode) (d k path partner least test : ℕ)
    (mapped : Mapped) (evidence : Evidence) → slice_get m.decisions d ≡ Some mapped →
    IsEvidence (HasEvent m x) m mode (Condition d k) Absent →
    IsNeed (HasEvent m x) m mode (Condition d k) (Beside path partner least) →
    HasOneMore m x y d mapped.decision.tree path test →
    IsEvidence (HasEvent m y) m mode (Condition d k) evidence →
    (evidence ≡ Pair path test partner least) ⊎ (evidence ≡ Pair partner least path test)

-- Where all wanted vectors are evaluated too, each asked obligation has evidence.
abbrev pub WantedIsEnough : Type 0
WantedIsEnough =
    (m : Map) (x y : MatrixView) (mode : Mode) (asked : List Bool) (all : List Wanted) →
    AreWanted (IsSeen (HasEvent m x) m) m mode asked all → HasMore m x y →
    ((d path : ℕ) → IsListed all d path → IsSeen (HasEvent m y) m d path) →
    ((d : ℕ) (outcome : Bool) (evidence : Evidence) → IsAsked m asked (Outcome d outcome) →
    IsEvidence (HasEvent m y) m mode (Outcome d outcome) evidence → is_shown evidence ≡ true)
    × ((d k : ℕ) (evidence : Evidence) → IsAsked m asked (Condition d k) →
    IsEvidence (HasEvent m y) m mode (Condition d k) evidence → is_shown evidence ≡ true)
