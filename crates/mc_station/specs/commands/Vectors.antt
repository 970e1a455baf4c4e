-- The command `vectors`: the paths that the events that stand evaluate.
use Rattle.std.specs.Prelude.{◌≡◌, ℕ, List}
use Rattle.mc_typed.specs.Plans.{Plan}
use Rattle.mc_typed.specs.declared.plans.TestState.{TestState}
use Rattle.mc_steps.specs.Events.{Event}
use Rattle.mc_meaning.specs.Seen.{Told}
use Rattle.mc_oblige.specs.Evaluated.{AreEvaluated}
use Rattle.mc_oblige.specs.declared.evaluated.EvaluatedPath.{EvaluatedPath}
use Rattle.mc_report.specs.VectorsText.{vectors_lines}
use Rattle.station_replies.specs.Reply.{Reply, written}
use Rattle.mc_station.specs.Source.{Accepted}
use Rattle.mc_station.specs.Tests.{names, results, stands, states, status_where}

-- the paths that the events that are shown evaluate, each under its test
abbrev pub ListsOn : (shown : Event → ℕ → Type 0) → Accepted → (names : List (List ℕ))
    → (states : List TestState) → (results : List Told) → Reply → Type 0
ListsOn shown accepted names states results reply =
    (paths : List EvaluatedPath)
    × AreEvaluated shown accepted.map paths
    × (reply ≡ written (status_where states)
    (vectors_lines names states results accepted.map.decisions paths))

-- of tests that were run
abbrev pub Lists : (skipped : List ℕ) → Accepted → List Plan → Reply → Type 0
Lists skipped accepted plans = ListsOn (stands skipped accepted plans) accepted (names plans)
    (states accepted.program plans) (results accepted.program plans)
