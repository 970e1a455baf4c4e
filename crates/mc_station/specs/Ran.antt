-- What the tests gave when they were run, for the proofs alone.
use Rattle.std.specs.Prelude.{◌≡◌, ℕ, ◌<◌, ◌↔◌, All, IsUtf8, List, [], ◌∷◌, Some, length, map, ⊤}
use Rattle.sha2.specs.Sha256.{sha256}
use Rattle.mc_core.specs.Matrix.{Holds, MatrixView}
use Rattle.mc_steps.specs.Events.{Event}
use Rattle.mc_typed.specs.Plans.{Plan}
use Rattle.mc_meaning.specs.Seen.{told_of}
use Rattle.mc_oblige.specs.Obligations.{obligations_of}
use Rattle.mc_oblige.specs.Shown.{HasEvent}
use Rattle.mc_oblige.specs.Verdicts.{AreVerdicts}
use Rattle.mc_oblige.specs.declared.justification.Justification.{Justification}
use Rattle.mc_probe.specs.Maps.{Map}
use Rattle.mc_record.specs.Kept.{Kept}
use Rattle.mc_report.specs.Report as text
use Rattle.mc_report.specs.Report.{HasEach}
use Rattle.mc_station.specs.Tests.{Tested, names, results, shape_of, stands, states}
use Rattle.mc_station.specs.Source.{Accepted}
use Rattle.mc_station.specs.commands.Record.{marked}
use Rattle.mc_station.specs.declared.ran.Ran.{Ran}

-- the matrix has the events that stand, and their bits, but for the tests that are skipped, and the
-- tests have their names, states and results
pub record IsRun (skipped : List ℕ) (accepted : Accepted) (plans : List Plan) (ran : Ran)
    : Type 0 where
  pub shape : ran.matrix.shape ≡ shape_of accepted plans
  pub events : (e : Event) (test : ℕ)
      → HasEvent accepted.map ran.matrix e test ↔ stands skipped accepted plans e test
  pub pairs : (bit test : ℕ) → Holds ran.matrix bit test ↔ marked skipped accepted plans bit test
  pub names : ran.names.items ≡ names plans
  pub states : ran.states.items ≡ states accepted.program plans
  pub results : map told_of ran.results.items ≡ results accepted.program plans

-- what is told of the tests
abbrev pub seen_ran : Ran → Tested
seen_ran ran = record {
  names = ran.names.items;
  states = ran.states.items;
  results = Some (map told_of ran.results.items);
}

-- what is kept of the tests
abbrev pub kept_in : (source : List ℕ) → Ran → Kept
kept_in source ran = record {
  digest = sha256 source;
  names = ran.names.items;
  states = ran.states.items;
  matrix = ran.matrix;
}

-- each test that is kept is one of the tests, and the position beside it is that of an obligation
abbrev pub AreIn : (tests obligations : ℕ) → (kept lost : List ℕ) → Type 0
AreIn n k [] [] = ⊤
AreIn n k (test ∷ kept) (position ∷ lost) =
    (test < n) × ((position < k) × AreIn n k kept lost)
AreIn n k _ _ = ⊥

-- a matrix of a source, and what is told of its tests, belong together
pub record AreTold (accepted : Accepted) (matrix : MatrixView) (tests : Tested) : Type 0 where
  pub shape : matrix.shape ≡ record { bits = accepted.map.bits; tests = length tests.names }
  pub states : length tests.states ≡ length tests.names
  pub results : HasEach (length tests.names) tests.results
  pub texts : All IsUtf8 tests.names

-- a report is of the events of a matrix: its obligations are those of the map, each with the
-- verdict of these events, and the matrix has its tests
pub record IsJudgedBy (matrix : MatrixView) (m : Map) (r : text.Report) : Type 0 where
  pub shape : matrix.shape ≡ record { bits = m.bits; tests = length r.names }
  pub obligations : r.obligations ≡ obligations_of m
  pub named : List Justification
  pub verdicts : AreVerdicts (HasEvent m matrix) m r.mode named r.verdicts
