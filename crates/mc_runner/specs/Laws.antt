-- What the matrix and the results of an instrumented program say of the plain runs of its tests.
use Rattle.std.specs.Prelude.{◌≡◌, ℕ, ◌↔◌, List, length, map, All, Contains}
use Rattle.mc_core.specs.Matrix.{MatrixView, Holds}
use Rattle.mc_cover.specs.Model.{CoverView, PassView}
use Rattle.cover_recorder.specs.Crew.{HasAll}
use Rattle.mc_typed.specs.Tree.{Program}
use Rattle.mc_typed.specs.Sound.{IsSound}
use Rattle.mc_typed.specs.Plans.{Plan, Fits}
use Rattle.mc_steps.specs.Events.{Event}
use Rattle.mc_meaning.specs.Seen.{plainly_told}
use Rattle.mc_meaning.specs.Tests.{Stands}
use Rattle.mc_probe.specs.Maps.{Map, image}
use Rattle.mc_probe.specs.Tree.{Tree}
use Rattle.mc_probe.specs.Table.{IsInstrumented}
use Rattle.mc_oblige.specs.Shown.{IsEvent, HasEvent}
use Rattle.mc_runner.specs.Jobs.{does_of}
use Rattle.mc_runner.specs.Recorded.{told_by, AreRecorded}

-- a sound program, its instrumented tree, and tests that fit it
pub record IsReady (p : Program) (m : Map) (tree : Tree) (plans : List Plan) : Type 0 where
  pub sound : IsSound p
  pub is_tree : IsInstrumented p m tree
  pub fit : All (λ plan. Fits plan p) plans

-- Of a pass that has all, a closer's matrix has the bits that are hit, but for the tests that it
-- skips.
abbrev pub ClosedIsRecorded : Type 0
ClosedIsRecorded =
    (tree : Tree) (plans : List Plan) (skipped : List ℕ) (c : CoverView) (p : PassView)
    (x : MatrixView) →
    HasAll (does_of tree plans) c p →
    c.shape ≡ record { bits = tree.bits; tests = length plans } → x.shape ≡ c.shape →
    ((b t : ℕ) → Holds x b t ↔ (Contains p.view.hits (b, t) × ¬ Contains skipped t)) →
    AreRecorded tree plans skipped x

-- the matrix has exactly the events that stand, each under its test
abbrev pub EventsStand : Type 0
EventsStand =
    (p : Program) (m : Map) (tree : Tree) (plans : List Plan) (skipped : List ℕ)
    (x : MatrixView) →
    IsReady p m tree plans → AreRecorded tree plans skipped x →
    (e : Event) (test : ℕ) → HasEvent m x e test ↔ Stands skipped p plans e test

-- the bit is that of an event of the map that stands for the test
pub record IsMarked (skipped : List ℕ) (p : Program) (m : Map) (plans : List Plan) (bit test : ℕ)
    : Type 0 where
  pub event : Event
  pub of_map : IsEvent m event
  pub has_bit : image m event ≡ bit
  pub stands : Stands skipped p plans event test

-- the matrix holds exactly the bits of the events that stand, each under its test
abbrev pub BitsStand : Type 0
BitsStand =
    (p : Program) (m : Map) (tree : Tree) (plans : List Plan) (skipped : List ℕ)
    (x : MatrixView) →
    IsReady p m tree plans → AreRecorded tree plans skipped x →
    (bit test : ℕ) → Holds x bit test ↔ IsMarked skipped p m plans bit test

-- what is told of the tests is what is to be told of their plain runs
abbrev pub ResultsArePlain : Type 0
ResultsArePlain =
    (p : Program) (m : Map) (tree : Tree) (plans : List Plan) → IsReady p m tree plans →
    map (told_by tree) plans ≡ map (plainly_told p) plans
