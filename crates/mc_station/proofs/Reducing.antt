-- The command `reduce` has one reply, which is an answer.
use Rattle.std.proofs.Common.{◌≡◌, ◌↔◌, ◌∙◌, ◌<◌, ℕ, suc, List, [], ◌∷◌, length, arith, refl, sym, subst}
use Rattle.std.specs.Prelude.{Contains}
use Rattle.std.specs.List.{AllZip}
use Rattle.std.proofs.lemmas.Option.{slice_get_within}
use Rattle.report_options.specs.declared.mode.Mode.{Mode}
use Rattle.mc_typed.specs.declared.plans.TestState.{TestState}
use Rattle.mc_steps.specs.Events.{Event}
use Rattle.mc_probe.specs.Maps.{Map}
use Rattle.mc_oblige.specs.Obligations.{obligations_of}
use Rattle.report_options.specs.declared.mode.Mode.{Mode}
use Rattle.mc_oblige.specs.declared.obligation.Obligation.{Obligation}
use Rattle.mc_reduce.specs.Kept.{IsFirstLost, IsReduced}
use Rattle.mc_reduce.proofs.Alike.{same_reduced}
use Rattle.mc_reduce.proofs.Ascending.{kept_ascend}
use Rattle.mc_reduce.proofs.Keeping.{reduced_one}
use Rattle.station_replies.specs.Reply.{Reply, written}
use Rattle.mc_station.specs.Laws.{IsLater}
use Rattle.mc_station.specs.Ran.{AreIn}
use Rattle.mc_station.specs.Source.{Accepted}
use Rattle.mc_station.specs.Tests.{status_where}
use Rattle.mc_station.specs.commands.Reduce.{ReducesOn, reduced_lines}
use Rattle.mc_station.proofs.Written.{written_later}

module _ (shown : Event → ℕ → Type 0) (mode : Mode) (accepted : Accepted) (names : List (List ℕ)) (states : List TestState) where
  pub one_reduction : (r q : Reply) → ReducesOn shown mode accepted names states r → ReducesOn shown mode accepted names states q → r ≡ q
  one_reduction r q (kept, lost, reduced, is) (others, losts, also, other) =
      let (same, too) = reduced_one shown accepted.map mode (length names) kept lost others losts reduced also in
      is ∙ (λ i. written (status_where states) (reduced_lines names (obligations_of accepted.map) (same i) (too i))) ∙ sym other

  pub reduction_keeps : (r : Reply) → ReducesOn shown mode accepted names states r → IsLater r
  reduction_keeps r (kept, lost, reduced, is) = subst IsLater (sym is) (written_later _ _)

  -- the events of another relation are the same
  pub also_reduces : (stand : Event → ℕ → Type 0) (r : Reply) → ((e : Event) (t : ℕ) → shown e t ↔ stand e t)
      → ReducesOn shown mode accepted names states r → ReducesOn stand mode accepted names states r
  also_reduces stand r same (kept, lost, reduced, is) =
      (kept, lost, same_reduced shown stand same accepted.map mode (length names) kept lost reduced, is)

-- what is kept are tests, and what is lost without them are obligations
module _ (shown : Event → ℕ → Type 0) (m : Map) (mode : Mode) (n : ℕ) (whole : List ℕ) where
  each_in : (kept lost : List ℕ) → ((t : ℕ) → Contains kept t → t < n) → AllZip (IsFirstLost shown m mode whole) kept lost → AreIn n (length (obligations_of m)) kept lost
  each_in [] [] below zip = tt
  each_in [] (p ∷ lost) below zip = absurd zip
  each_in (t ∷ kept) [] below zip = absurd zip
  each_in (t ∷ kept) (p ∷ lost) below zip =
      let first = zip.0 in (
        below t (0, omega arith, refl),
        (
          slice_get_within (obligations_of m) p first.obligation first.at,
          each_in kept lost (λ u h. below u (suc h.0, (let lt = h.1 in omega (arith, lt)), h.2)) zip.1,
        ),
      )

pub are_in : (shown : Event → ℕ → Type 0) (m : Map) (mode : Mode) (tests : ℕ) (kept lost : List ℕ) (names : List (List ℕ)) (os : List Obligation) → IsReduced shown m mode tests kept lost
    → tests ≡ length names → os ≡ obligations_of m → AreIn (length names) (length os) kept lost
are_in shown m mode tests kept lost names os reduced many all =
    let inside : AreIn tests (length (obligations_of m)) kept lost = each_in shown m mode tests kept kept lost (kept_ascend shown m mode tests kept reduced.are_kept).1 reduced.are_lost in
    subst (λ n. AreIn n (length os) kept lost) many (subst (λ (xs : List Obligation). AreIn tests (length xs) kept lost) (sym all) inside)
