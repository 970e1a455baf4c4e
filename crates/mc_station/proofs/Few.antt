-- A program has fewer than 2^31 obligations.
use Rattle.std.proofs.Common.{◌≡◌, ◌+◌, ◌*◌, ◌<◌, ◌≤◌, ◌^◌, ◌++◌, ℕ, List, [], ◌∷◌, length, refl, arith}
use Rattle.std.proofs.lemmas.List.{length-append}
use Rattle.mc_span.specs.declared.span.Span.{Span}
use Rattle.mc_probe.specs.Maps.{ArePlaced, IsMap, Map, Mapped, first_path}
use Rattle.mc_oblige.specs.Obligations.{numbered, obligations_of, of_decision, of_decisions, of_places}
use Rattle.mc_oblige.specs.declared.obligation.ObligationId.{ObligationId}
use Rattle.mc_oblige.specs.declared.obligation.ObligationId.TheVariants.{Entry, Exit, Statement, Label, Condition}
use Rattle.mc_oblige.proofs.Bounds.{few_places}

each_place : (id : ℕ → ObligationId) (k : ℕ) (spans : List Span) → length (numbered id k spans) ≡ length spans
each_place id k [] = refl
each_place id k (span ∷ spans) = let more = each_place id (k + 1) spans in omega (arith, more)

places : (m : Map) → length (of_places m) ≡ first_path m
places m =
    let entries = each_place Entry 0 m.entries in
    let exits = each_place Exit 0 m.exits in
    let statements = each_place Statement 0 m.statements in
    let labels = each_place Label 0 m.labels in
    let last = length-append (numbered Statement 0 m.statements) (numbered Label 0 m.labels) in
    let middle = length-append (numbered Exit 0 m.exits) (numbered Statement 0 m.statements ++ numbered Label 0 m.labels) in
    let all = length-append (numbered Entry 0 m.entries) (numbered Exit 0 m.exits ++ (numbered Statement 0 m.statements ++ numbered Label 0 m.labels)) in
    omega (arith, entries, exits, statements, labels, last, middle, all)

-- two outcomes and at most 64 conditions each
decisions : (d : ℕ) (ds : List Mapped) → ArePlaced ds → length (of_decisions d ds) ≤ 66 * length ds
decisions d [] placed = omega arith
decisions d (m ∷ ds) placed =
    let more = decisions (d + 1) ds placed.1 in
    let own = each_place (Condition d) 0 m.decision.conditions in
    let all = length-append (of_decision d m.decision) (of_decisions (d + 1) ds) in
    let few = placed.0.numbered.few in
    let places = placed.0.places in
    omega (arith, more, own, all, few, places)

pub few_obligations : (m : Map) → IsMap m → length (obligations_of m) < 2 ^ 31
few_obligations m kept =
    let all = length-append (of_places m) (of_decisions 0 m.decisions) in
    let front = places m in
    let rest = decisions 0 m.decisions kept.placed in
    let few = few_places m kept in
    omega (arith, all, front, rest, few)
