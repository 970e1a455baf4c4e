-- The command `record`: the bits of the events that stand, each under its test.
use Rattle.std.specs.Prelude.{◌≡◌, ◌↔◌, ℕ, List}
use Rattle.sha2.specs.Sha256.{sha256}
use Rattle.mc_core.specs.Laws.{AreWords}
use Rattle.mc_core.specs.Matrix.{Holds}
use Rattle.mc_typed.specs.Plans.{Plan}
use Rattle.mc_record.specs.Kept.{Kept}
use Rattle.mc_record.specs.Lines.{record_lines}
use Rattle.mc_runner.specs.Laws.{IsMarked}
use Rattle.station_replies.specs.Reply.{Reply, written}
use Rattle.mc_station.specs.Source.{Accepted}
use Rattle.mc_station.specs.Tests.{names, shape_of, states, status_where}

-- the bit is that of an event that stands under the test
abbrev pub marked : (skipped : List ℕ) → Accepted → List Plan → (bit test : ℕ) → Type 0
marked skipped accepted plans = IsMarked skipped accepted.program accepted.map plans

-- the record of the plain runs of tests
pub record IsRecordOf (skipped : List ℕ) (accepted : Accepted) (plans : List Plan) (kept : Kept)
    : Type 0 where
  pub digest : kept.digest ≡ sha256 accepted.source
  pub names : kept.names ≡ names plans
  pub states : kept.states ≡ states accepted.program plans
  pub shape : kept.matrix.shape ≡ shape_of accepted plans
  pub words : AreWords kept.matrix.shape kept.matrix.words
  pub pairs : (bit test : ℕ) → Holds kept.matrix bit test ↔ marked skipped accepted plans bit test

abbrev pub Records : (skipped : List ℕ) → Accepted → List Plan → Reply → Type 0
Records skipped accepted plans reply =
    (kept : Kept) × IsRecordOf skipped accepted plans kept
    × (reply ≡ written (status_where kept.states) (record_lines kept))
