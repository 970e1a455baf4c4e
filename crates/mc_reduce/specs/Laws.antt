-- What follows from the definitions of the kept tests, for the events of a matrix.
use Rattle.std.specs.Prelude.{◌≡◌, ◌↔◌, ℕ, ◌<◌, true, List, Contains}
use Rattle.std.specs.List.Sorted.{IsStrictlyIncreasing}
use Rattle.mc_core.specs.Matrix.{MatrixView}
use Rattle.mc_steps.specs.Events.{Event}
use Rattle.mc_probe.specs.Maps.{Map}
use Rattle.report_options.specs.declared.mode.Mode.{Mode}
use Rattle.mc_oblige.specs.declared.obligation.ObligationId.{ObligationId}
use Rattle.mc_oblige.specs.declared.obligation.Obligation.{Obligation}
use Rattle.mc_oblige.specs.declared.verdict.Evidence.{Evidence}
use Rattle.mc_oblige.specs.Obligations.{obligations_of}
use Rattle.mc_oblige.specs.Shown.{HasEvent}
use Rattle.mc_oblige.specs.Evidence.{IsEvidence}
use Rattle.mc_oblige.specs.Verdicts.{is_shown}
use Rattle.mc_reduce.specs.Shown.{IsShownByAll, IsShownBy}
use Rattle.mc_reduce.specs.Kept.{AreKept, IsReduced}

-- an obligation is shown exactly where its evidence is not absent
abbrev pub ShownIsEvidence : Type 0
ShownIsEvidence =
    (m : Map) (x : MatrixView) (mode : Mode) (id : ObligationId) (evidence : Evidence) →
    IsEvidence (HasEvent m x) m mode id evidence →
    IsShownByAll (HasEvent m x) m mode id ↔ (is_shown evidence ≡ true)

-- what some tests show, more tests show
abbrev pub MoreShowMore : Type 0
MoreShowMore =
    (m : Map) (x : MatrixView) (mode : Mode) (some more : List ℕ) (id : ObligationId) →
    ((test : ℕ) → Contains some test → Contains more test) →
    IsShownBy (HasEvent m x) m mode (Contains some) id →
    IsShownBy (HasEvent m x) m mode (Contains more) id

-- an obligation is shown by all tests exactly where the kept ones show it
abbrev pub ShowTheSame : (Event → ℕ → Type 0) → Map → Mode → List ℕ → Type 0
ShowTheSame stands m mode kept =
    (o : Obligation) → Contains (obligations_of m) o →
    IsShownByAll stands m mode o.id ↔ IsShownBy stands m mode (Contains kept) o.id

abbrev pub KeptShowTheSame : Type 0
KeptShowTheSame =
    (m : Map) (x : MatrixView) (mode : Mode) (kept : List ℕ) →
    AreKept (HasEvent m x) m mode x.shape.tests kept → ShowTheSame (HasEvent m x) m mode kept

-- the kept tests are some of the tests, in ascending order
abbrev pub KeptAscend : Type 0
KeptAscend =
    (m : Map) (x : MatrixView) (mode : Mode) (kept : List ℕ) →
    AreKept (HasEvent m x) m mode x.shape.tests kept →
    IsStrictlyIncreasing kept × ((test : ℕ) → Contains kept test → test < x.shape.tests)

-- a matrix has one list of kept tests, and one of what each is kept for
abbrev pub ReducedIsOne : Type 0
ReducedIsOne =
    (m : Map) (x : MatrixView) (mode : Mode) (kept lost also too : List ℕ) →
    IsReduced (HasEvent m x) m mode x.shape.tests kept lost →
    IsReduced (HasEvent m x) m mode x.shape.tests also too →
    (kept ≡ also) × (lost ≡ too)

-- matrices that have the same events under the same tests have the same lists
abbrev pub ReducedAlike : Type 0
ReducedAlike =
    (m : Map) (x y : MatrixView) (mode : Mode) (kept lost : List ℕ) →
    x.shape.tests ≡ y.shape.tests →
    ((e : Event) (test : ℕ) → HasEvent m x e test ↔ HasEvent m y e test) →
    IsReduced (HasEvent m x) m mode x.shape.tests kept lost →
    IsReduced (HasEvent m y) m mode y.shape.tests kept lost
