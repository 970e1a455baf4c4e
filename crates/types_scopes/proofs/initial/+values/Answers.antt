-- The values so far, and those of one more item, with those still to come.
use Rattle.std.proofs.Common.{◌≡◌, ◌∙◌, ◌<◌, ◌+◌, ◌++◌, ◌∷◌, ℕ, ℤ, List, length, map, drop, get_or, append_assoc, sym, ap}
use Rattle.std.proofs.lemmas.List.{at_drop_more}
use Rattle.mc_typed.specs.declared.initializers.Initializer.{Initializer}
use Rattle.mc_typed.specs.Views.{initializer_of, initializers_from}
use Rattle.types_rules.specs.Initializers.{values_of, values_of_items}
use Rattle.types_scopes.proofs.initial.+values.Goals as goal

next : (all : List Initializer) (i : ℕ) (d : Initializer) (old new whole : List ℤ)
    → i < length all → d ≡ get_or all i d → new ≡ old ++ values_of (initializer_of d)
    → old ++ values_of_items (initializers_from (map initializer_of (drop i all))) ≡ whole
    → new ++ values_of_items (initializers_from (map initializer_of (drop (i + 1) all))) ≡ whole
next all i d old new whole less is more before =
    let rest = values_of_items (initializers_from (map initializer_of (drop (i + 1) all))) in
    ap (λ l. l ++ rest) more
    ∙ append_assoc old (values_of (initializer_of d)) rest
    ∙ ap (λ v. old ++ values_of_items (initializers_from (map initializer_of (v ∷ drop (i + 1) all)))) is
    ∙ sym (at_drop_more (λ l. old ++ values_of_items (initializers_from (map initializer_of l))) all i d less)
    ∙ before

pub add_all-loop-tree-preserved : goal.add_all-loop-tree-preserved
add_all-loop-tree-preserved t c =
    next c.args.trees.now c.loop-tree.tree-index c.tree-item.result _ _ _ c.loop-tree-test.true c.tree-item.is c.in_ok-add_values.ensures c.loop-tree.invariant
