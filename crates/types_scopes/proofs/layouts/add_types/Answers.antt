-- The types so far, and one more, with those still to come.
use Rattle.std.proofs.Common.{◌≡◌, ◌∙◌, ◌<◌, ◌+◌, ◌++◌, ◌∷◌, [], ℕ, List, length, map, drop, get_or, append_assoc, sym, ap}
use Rattle.std.proofs.lemmas.List.{at_drop_more}
use Rattle.mc_typed.specs.Layout.{ObjectType}
use Rattle.types_rules.specs.Types.{structure_from, structures_from}
use Rattle.types_scopes.specs.Views.{structure_of}
use Rattle.types_scopes.specs.declared.members.Structure.{Structure}
use Rattle.types_scopes.proofs.layouts.add_types.Goals as goal

next : (all : List Structure) (i n : ℕ) (d : Structure) (old new whole : List ObjectType)
    → i < length all → d ≡ get_or all i d → n ≡ i
    → new ≡ old ++ (structure_from n (structure_of d) ∷ [])
    → old ++ structures_from i (map structure_of (drop i all)) ≡ whole
    → new ++ structures_from (i + 1) (map structure_of (drop (i + 1) all)) ≡ whole
next all i n d old new whole less is count more before =
    let rest = structures_from (i + 1) (map structure_of (drop (i + 1) all)) in
    ap (λ l. l ++ rest) more
    ∙ ap (λ k. (old ++ (structure_from k (structure_of d) ∷ [])) ++ rest) count
    ∙ append_assoc old (structure_from i (structure_of d) ∷ []) rest
    ∙ ap (λ v. old ++ structures_from i (map structure_of (v ∷ drop (i + 1) all))) is
    ∙ sym (at_drop_more (λ l. old ++ structures_from i (map structure_of l)) all i d less)
    ∙ before

pub loop-structure-preserved : goal.loop-structure-preserved
loop-structure-preserved c = record {
  count = c.in_ok-add_type.ensures.count ∙ ap (λ k. k + 1) c.loop-structure.invariant.count;
  types = next c.args.structures.now c.loop-structure.structure-index _ c.structure-item.result _ _ _ c.loop-structure-test.true c.structure-item.is
      c.loop-structure.invariant.count c.in_ok-add_type.ensures.more c.loop-structure.invariant.types;
}
