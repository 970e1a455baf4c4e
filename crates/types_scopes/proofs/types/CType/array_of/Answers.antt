use Rattle.std.proofs.Common.{◌∙◌, ◌++◌, ◌≤◌, ℕ, List, length, take, sym, ap, subst}
use Rattle.types_rules.specs.Types as t
use Rattle.types_scopes.specs.Types.{type_of, length_list}
use Rattle.types_rules.specs.Profile.{most_lengths}
use Rattle.types_scopes.proofs.Lengths.{take_few, in_turn}
use Rattle.types_scopes.proofs.types.CType.array_of.Goals as goal

abbrev with_lengths : t.CType → List ℕ → t.CType
with_lengths u ns = record u { lengths = ns }

pub add_lengths-requires-2 : goal.add_lengths-requires-2
add_lengths-requires-2 c =
    subst (λ (ns : List ℕ). length ns ≤ most_lengths) (sym c.in_ok-add_lengths.ensures)
    (take_few most_lengths (c.in_ok-lengths.lengths.items ++ c.args.rest.now))

pub returns : goal.returns
returns c =
    let front = length_list c.args.front in
    let rest = c.args.rest.now in
    let first = c.in_ok-add_lengths.ensures ∙ ap (λ ns. take most_lengths (ns ++ rest)) c.in_ok-lengths.ensures in
    ap (with_lengths (type_of c.args.of.now))
    (c.in_ok-add_lengths-2.ensures
    ∙ ap (λ ns. take most_lengths (ns ++ c.deref.result.now)) first
    ∙ ap (λ ns. take most_lengths (take most_lengths (front ++ rest) ++ ns)) c.deref.ensures.value
    ∙ in_turn most_lengths front rest c.args.of.now.lengths.items)
