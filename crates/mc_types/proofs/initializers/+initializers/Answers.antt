-- Each exit of an initializer, and each turn of the loop over a list.
use Rattle.std.proofs.Common.{◌∙◌, ◌+◌, drop, map, option_copied, option_map, sym, ap, rules}
use Rattle.mc_tree.specs.Tree as tree
use Rattle.mc_tree.specs.Units.{initializer_of, initializers_from}
use Rattle.mc_tree.specs.Views.{expression_of}
use Rattle.mc_typed.specs.Tree.{Initializers}
use Rattle.mc_typed.specs.Views as typed
use Rattle.types_rules.specs.Scopes.{Scope}
use Rattle.types_rules.specs.Values.{Judged}
use Rattle.types_rules.specs.Initializers.{Parts, first_part, judge_initializer, judge_items, later_parts, parts_of, target_of}
use Rattle.types_scopes.specs.Types.{type_of}
use Rattle.types_scopes.specs.Views.{scope_of}
use Rattle.types_scopes.specs.Found.{found_of, judged_of}
use Rattle.types_statements.specs.Initializers.{parts_from}
use Rattle.types_statements.specs.Items.{items_joined, items_of}
use Rattle.types_scopes.specs.steps.Squeezed.{squeezed_part}
use Rattle.mc_types.proofs.Exits.{found_as}
use Rattle.mc_types.proofs.Bodies.{initializer_of-Braced, initializer_of-Single}
use Rattle.types_statements.proofs.ItemParts.{from_first}
use Rattle.mc_types.proofs.InitializerArms.{in_items, in_list, in_single, later_parts_from, only_item}
use Rattle.mc_types.proofs.Turns.{last_turn, next_turn}
use Rattle.mc_types.proofs.Parts.{items_first, items_last, items_turn, squeezed_judged}
use Rattle.mc_types.proofs.initializers.+initializers.Goals as goal

pub initializer-returns-in-Ok : goal.initializer-returns-in-Ok
initializer-returns-in-Ok t c =
    let w = c.in-Single in
    let s = scope_of c.args.scope.now in
    let u = scope_of c.expression.new.scope in
    rw (w.is, initializer_of-Single w.value)
    (found_as c.single_initializer.result (λ z. judged_of typed.initializer_of z u) _ _ (rw (c.span.ensures, c.deref-in-Ok.ensures) at c.single_initializer.ensures)
    (in_single c.args.is_static (option_map type_of (option_copied c.args.of)) (expression_of w.value.value) s (found_of c.in-Ok.found u) (rw c.deref.ensures at c.in-Ok.ensures)))

pub initializer-returns-in-Some : goal.initializer-returns-in-Some
initializer-returns-in-Some t c =
    let w = c.in-Braced in
    let s = scope_of c.args.scope.now in
    let u = option_map type_of (option_copied c.args.of) in
    let all = initializers_from (map initializer_of w.trees.items) in
    rw (w.is, initializer_of-Braced w.trees w.span)
    (found_as c.only_expression.result (λ z. judged_of typed.initializer_of z (scope_of c.only_expression.new.scope)) _ _ c.only_expression.ensures
    (ap (λ (v : tree.Initializers). squeezed_part (judge_initializer c.args.is_static u (tree.Braced v w.span) s))
    (only_item all (expression_of c.in-Some.value.now) (rw c.deref-in-Braced.ensures.value at c.in-Some.ensures))))

pub initializer-returns-in-None : goal.initializer-returns-in-None
initializer-returns-in-None t c =
    let w = c.in-Braced in
    let s = scope_of c.args.scope.now in
    let u = option_map type_of (option_copied c.args.of) in
    let all = initializers_from (map initializer_of w.trees.items) in
    rw (w.is, initializer_of-Braced w.trees w.span)
    (found_as c.list.result (λ z. judged_of typed.initializer_of z (scope_of c.list.new.scope)) _ _ (rw c.deref-in-None.ensures.value at c.list.ensures)
    (in_items c.args.is_static u all w.span s (sym (rw c.deref-in-Braced.ensures.value at c.in-None.ensures))))

pub list-returns : goal.list-returns
list-returns t c =
    let u = option_map type_of (option_copied c.args.of) in
    let s = scope_of c.args.scope.now in
    let r = scope_of c.items.new.scope in
    let all = initializers_from (map initializer_of c.args.trees.now) in
    (rw c.count_of.ensures at c.list_initializer.ensures)
    ∙ (in_list c.args.is_static u all c.args.span s (judged_of items_of c.in_ok-found.found r) (c.in_ok-found.ensures (parts_of (target_of s.structures u)) c.in_ok-parts.ensures))

pub items-loop-place-init : goal.items-loop-place-init
items-loop-place-init t c =
    λ p parts.
    let s = scope_of c.args.scope.now in
    let all = judge_items c.args.is_static p (initializers_from (map initializer_of c.args.trees.now)) s in
    ap (λ (q : Parts). squeezed_part (items_joined (judged_of items_of c.no_items-list.result s) (judge_items c.args.is_static q (initializers_from (map initializer_of c.args.trees.now)) s))) (from_first p)
    ∙ ap (λ (x : Judged Initializers). squeezed_part (items_joined x all)) (c.no_items-list.ensures s)
    ∙ items_first s all

pub items-loop-place-preserved : goal.items-loop-place-preserved
items-loop-place-preserved t c =
    λ p parts.
    let n = c.loop-place.place in
    let s = scope_of c.loop-place.scope in
    let u = scope_of c.initializer.new.scope in
    let rest = initializers_from (map initializer_of (drop (n + 1) c.args.trees.now)) in
    next_turn c.args.trees.now n c.index-trees-place.result (λ ts. squeezed_part (items_joined (judged_of items_of c.loop-place.list (scope_of c.loop-place.scope)) (judge_items c.args.is_static (parts_from n p) (initializers_from (map initializer_of ts)) (scope_of c.loop-place.scope)))) _ _ (search rules) c.index-trees-place.is
    (ap (λ (q : Parts). squeezed_part (items_joined (judged_of items_of c.in_ok-list.list u) (judge_items c.args.is_static q rest u))) (later_parts_from n p)
    ∙ items_turn (judged_of items_of c.loop-place.list s) (judged_of items_of c.in_ok-list.list u) (judged_of typed.initializer_of c.in_ok-one.one u)
    (judge_initializer c.args.is_static (first_part (parts_from n p)) (initializer_of c.index-trees-place.result) s)
    (λ (v : Scope). judge_items c.args.is_static (later_parts (parts_from n p)) rest v)
    (rw (c.get.ensures, parts n (search rules)) at c.in_ok-one.ensures) (c.in_ok-list.ensures u)) (c.loop-place.invariant p parts)

pub items-returns : goal.items-returns
items-returns t c =
    λ p parts.
    let s = scope_of c.loop-place.scope in
    sym (squeezed_judged items_of c.loop-place.list s)
    ∙ sym (items_last (judged_of items_of c.loop-place.list s))
    ∙ last_turn c.args.trees.now c.loop-place.place (λ ts. squeezed_part (items_joined (judged_of items_of c.loop-place.list (scope_of c.loop-place.scope)) (judge_items c.args.is_static (parts_from c.loop-place.place p) (initializers_from (map initializer_of ts)) (scope_of c.loop-place.scope)))) _ (search rules) (c.loop-place.invariant p parts)
