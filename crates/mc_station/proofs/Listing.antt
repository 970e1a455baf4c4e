-- The command `vectors` has one reply, which is an answer.
use Rattle.std.proofs.Common.{◌≡◌, ◌↔◌, ◌∙◌, ℕ, List, sym, ap, subst}
use Rattle.mc_typed.specs.declared.plans.TestState.{TestState}
use Rattle.mc_steps.specs.Events.{Event}
use Rattle.mc_meaning.specs.Seen.{Told}
use Rattle.mc_oblige.specs.declared.evaluated.EvaluatedPath.{EvaluatedPath}
use Rattle.mc_oblige.proofs.Ascending.{one_list_of_paths, same_paths}
use Rattle.mc_report.specs.VectorsText.{vectors_lines}
use Rattle.station_replies.specs.Reply.{Reply, written}
use Rattle.mc_station.specs.Laws.{IsLater}
use Rattle.mc_station.specs.Source.{Accepted}
use Rattle.mc_station.specs.Tests.{status_where}
use Rattle.mc_station.specs.commands.Vectors.{ListsOn}
use Rattle.mc_station.proofs.Written.{written_later}

module _ (shown : Event → ℕ → Type 0) (accepted : Accepted) (names : List (List ℕ)) (states : List TestState) (results : List Told) where
  pub one_list : (r q : Reply) → ListsOn shown accepted names states results r → ListsOn shown accepted names states results q → r ≡ q
  one_list r q (paths, are, is) (others, also, other) =
      let same : paths ≡ others = one_list_of_paths shown accepted.map paths others are also in
      is ∙ ap (λ (ps : List EvaluatedPath). written (status_where states) (vectors_lines names states results accepted.map.decisions ps)) same ∙ sym other

  pub list_keeps : (r : Reply) → ListsOn shown accepted names states results r → IsLater r
  list_keeps r (paths, are, is) = subst IsLater (sym is) (written_later _ _)

  -- the events of another relation are the same
  pub also_lists : (stand : Event → ℕ → Type 0) (r : Reply) → ((e : Event) (t : ℕ) → shown e t ↔ stand e t)
      → ListsOn shown accepted names states results r → ListsOn stand accepted names states results r
  also_lists stand r same (paths, are, is) = (paths, same_paths shown stand same accepted.map paths are, is)
