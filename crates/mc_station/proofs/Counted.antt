-- The mutants of an accepted source are counted exactly, and none of its decisions is large.
use Rattle.std.proofs.Common.{◌≡◌, ◌∙◌, ◌-◌, ◌*◌, ◌≤◌, ◌<◌, ◌^◌, ℕ, List, [], ◌∷◌, length, map, subst, arith}
use Rattle.std.specs.Prelude.{All}
use Rattle.std.proofs.lemmas.List.Elements.{All-nil, All-cons}
use Rattle.mc_typed.specs.Levels.{limited}
use Rattle.mc_typed.specs.Tree.{Program}
use Rattle.decide_rules.specs.Decisions.{Decision, AreDecisions, IsSmall, IsFirstLarge}
use Rattle.decide_rules.proofs.Once as decided
use Rattle.mc_probe.specs.Maps.{ArePlaced, IsMapOf, Map, Mapped}
use Rattle.mc_oblige.proofs.Bounds.{few_places}
use Rattle.mc_mutate.specs.Laws.{conditions_in}
use Rattle.mc_mutate.specs.Mutants.{count}
use Rattle.mc_mutate.proofs.Small.{counts_are_small}
use Rattle.mc_station.proofs.Decided.{none_large}

abbrev decision_in : Mapped → Decision
decision_in d = d.decision

-- at most 64 conditions each
conditions : (ds : List Mapped) → ArePlaced ds → conditions_in (map decision_in ds) ≤ 64 * length ds
conditions [] placed = omega arith
conditions (d ∷ ds) placed =
    let more = conditions ds placed.1 in
    let few = placed.0.numbered.few in
    let places = placed.0.places in
    omega (arith, more, few, places)

small : (ds : List Mapped) → ArePlaced ds → All IsSmall (map decision_in ds)
small [] placed = All-nil IsSmall
small (d ∷ ds) placed =
    let few = placed.0.numbered.few in
    let places = placed.0.places in
    let own : IsSmall d.decision = omega (arith, few, places) in
    All-cons IsSmall d.decision (map decision_in ds) own (small ds placed.1)

module _ (p : Program) (m : Map) (is : IsMapOf p m) (ds : List Decision) (are : AreDecisions p.functions ds) where
  same : map decision_in m.decisions ≡ ds
  same = decided.one_list p.functions (map decision_in m.decisions) ds is.decisions are

  few_conditions : conditions_in ds ≤ 64 * length m.decisions
  few_conditions = subst (λ (xs : List Decision). conditions_in xs ≤ 64 * length m.decisions) same (conditions m.decisions is.kept.placed)

  few_mutants : count p < 2 ^ 32 - 1
  few_mutants =
      let most = counts_are_small p ds are in
      let places = few_places m is.kept in
      omega (arith, most, places, few_conditions)

  pub all_counted : limited (count p) ≡ count p
  unfolding limited
  all_counted = omega (arith, few_mutants)

  pub is_count : (n : ℕ) → n ≡ limited (count p) → n ≡ count p
  is_count n known = known ∙ all_counted

  pub never_large : (at number : ℕ) → IsFirstLarge ds at number → ⊥
  never_large at number large = none_large ds at number (subst (λ (xs : List Decision). All IsSmall xs) same (small m.decisions is.kept.placed)) large
