use denote.Param.Weighed.{at_most}
use Rattle.mc_instrument.proofs.Rooted.{root_counted, root_fits}
use Rattle.instrument_bits.proofs.Operands.{plain_binary}
use Rattle.mc_instrument.proofs.Room.{binary_roots, full_copied, logic_copied, plain_logic, probed_binary, probed_logic}
use Rattle.decide_rules.specs.declared.role.Role.TheVariants as role
use Rattle.mc_typed.specs.Views as plain
use Rattle.decide_rules.specs.Nodes as n
use Rattle.std.proofs.lemmas.Result.{IfOk-weaker}
use Rattle.std.proofs.Common.{◌∙◌, refl, ap, sym, arith, rules}
use Rattle.mc_typed.specs.declared.expressions.Argument.{size-Argument}
use Rattle.mc_typed.specs.declared.expressions.Argument.TheViews.{sized-Binary}
use Rattle.mc_typed.specs.declared.expressions.Expression.{size-Expression}
use Rattle.mc_probe.specs.Table.{InTree, put}
use Rattle.mc_probe.specs.Views as probed
use Rattle.mc_probe.specs.BitMaps.{map_of}
use Rattle.mc_instrument.proofs.Lists.{begin, next}
use Rattle.mc_instrument.proofs.Done.{arguments_copied, arguments_counted, arguments_fit}
use Rattle.mc_instrument.proofs.copies.expressions.+put.Goals as goal

pub arguments-loop-tree-init : goal.arguments-loop-tree-init
arguments-loop-tree-init t c = begin _ _ _ _ _ _ _ (search rules)

pub arguments-loop-tree-preserved : goal.arguments-loop-tree-preserved
arguments-loop-tree-preserved t c =
    next _ _ _ _ _ _ _ _ _ _ _ _ _ c.loop-tree-test.true c.tree-item.is c.in_ok-push.ensures.items c.in_ok-copy.ensures.copy c.in_ok-copy.ensures.next c.loop-tree.invariant

pub arguments-returns-clause-copy : goal.arguments-returns-clause-copy
arguments-returns-clause-copy t c = arguments_copied (map_of c.args.walk.now.map.now) c.args.walk.now.first _ _ _ _ _ (omega (arith, c.loop-tree-test.false)) c.loop-tree.invariant

pub arguments-returns-clause-next : goal.arguments-returns-clause-next
arguments-returns-clause-next t c = arguments_counted (map_of c.args.walk.now.map.now) c.args.walk.now.first _ _ _ _ _ (omega (arith, c.loop-tree-test.false)) c.loop-tree.invariant

pub test-returns-then-is_root_as_test-clause-next : goal.test-returns-then-is_root_as_test-clause-next
test-returns-then-is_root_as_test-clause-next t c =
    IfOk-weaker c.root.result _ _
    (λ x h. root_counted role.Controlling c.args.next.now c.root.new.next (n.expression (plain.expression_of c.args.tree.now)) c.is_root_as_test.result c.is_root_as_test.ensures c.if-is_root_as_test.true h)
    c.root.ensures.next

pub test-root-requires : goal.test-root-requires
test-root-requires t c = (
  search rules,
  root_fits role.Controlling c.args.next.now (n.expression (plain.expression_of c.args.tree.now)) c.is_root_as_test.result c.is_root_as_test.ensures c.if-is_root_as_test.true c.requires,
)

pub in_tree-returns-in_ok-right-in-Logic-clause-copy : goal.in_tree-returns-in_ok-right-in-Logic-clause-copy
in_tree-returns-in_ok-right-in-Logic-clause-copy t c =
    let first = c.in_ok-left-in-Logic.ensures in
    let second = c.in_ok-right-in-Logic.ensures in
    probed_logic c.in-Logic.operator c.in_ok-left-in-Logic.left c.in_ok-right-in-Logic.right c.in-Logic.span
    ∙ (logic_copied c.args.walk.now.map.now c.args.walk.now.first c.args.k c.args.condition.now c.args.next.now _ _ c.in-Logic.operator (plain.expression_of c.in-Logic.left.value) (plain.expression_of c.in-Logic.right.value) c.in-Logic.span _ _
    (rw c.deref-in-Logic.ensures at first.copy) (rw c.deref-in-Logic.ensures at first.condition) (rw c.deref-in-Logic.ensures at first.next)
    (rw c.deref-in-Logic-2.ensures at second.copy)
    ∙ ap (put (map_of c.args.walk.now.map.now) c.args.walk.now.first (InTree c.args.k c.args.condition.now) c.args.next.now) (sym (plain_logic c.args.tree.now c.in-Logic.operator c.in-Logic.left c.in-Logic.right c.in-Logic.span c.in-Logic.is)))

pub in_tree-returns-in_ok-right-in-Some-clause-copy : goal.in_tree-returns-in_ok-right-in-Some-clause-copy
in_tree-returns-in_ok-right-in-Some-clause-copy t c =
    let full = sym c.full_operator.ensures ∙ c.in-Some.is in
    let first = c.in_ok-left-in-Some.ensures in
    let second = c.in_ok-right-in-Some.ensures in
    probed_binary c.in-Binary.operator c.in-Binary.of c.in_ok-left-in-Some.left c.in_ok-right-in-Some.right c.in-Binary.span
    ∙ (full_copied c.args.walk.now.map.now c.args.walk.now.first c.args.k c.args.condition.now c.args.next.now _ _ c.in-Some.field-0 c.in-Binary.operator c.in-Binary.of (plain.expression_of c.in-Binary.first.value) (plain.expression_of c.in-Binary.second.value) c.in-Binary.span _ _
    (rw c.deref-in-Binary.ensures at (rw c.deref-in-Binary-2.ensures at full))
    (rw c.deref-in-Some.ensures at first.copy) (rw c.deref-in-Some.ensures at first.condition) (rw c.deref-in-Some.ensures at first.next)
    (rw c.deref-in-Some-2.ensures at second.copy)
    ∙ ap (put (map_of c.args.walk.now.map.now) c.args.walk.now.first (InTree c.args.k c.args.condition.now) c.args.next.now) (sym (plain_binary c.args.tree.now c.in-Binary.operator c.in-Binary.of c.in-Binary.first c.in-Binary.second c.in-Binary.span c.in-Binary.is)))

pub inside-boxed-requires-in-Binary : goal.inside-boxed-requires-in-Binary
inside-boxed-requires-in-Binary t c =
    let all = binary_roots c.args.tree.now c.deref-in-Binary.result.now c.in-Binary.right.value c.in-Binary.operator c.in-Binary.of c.in-Binary.left c.in-Binary.right c.in-Binary.span c.in-Binary.is c.deref-in-Binary.ensures refl in
    let size = sized-Binary c.in-Binary.operator c.in-Binary.of c.in-Binary.left c.in-Binary.right c.in-Binary.span in (
      omega (arith, size, ap size-Expression c.in-Binary.is, ap size-Expression c.deref-in-Binary.ensures, c.decreases),
      omega (arith, all, c.requires),
    )

pub inside-boxed-requires-in-Binary-2 : goal.inside-boxed-requires-in-Binary-2
inside-boxed-requires-in-Binary-2 t c =
    let first = c.in_ok-left-in-Binary.ensures.next in
    let all = binary_roots c.args.tree.now c.deref-in-Binary.result.now c.deref-in-Binary-2.result.now c.in-Binary.operator c.in-Binary.of c.in-Binary.left c.in-Binary.right c.in-Binary.span c.in-Binary.is c.deref-in-Binary.ensures c.deref-in-Binary-2.ensures in
    let size = sized-Binary c.in-Binary.operator c.in-Binary.of c.in-Binary.left c.in-Binary.right c.in-Binary.span in (
      omega (arith, size, ap size-Expression c.in-Binary.is, ap size-Expression c.deref-in-Binary-2.ensures, c.decreases),
      omega (arith, first, all, c.requires),
    )

pub inside-returns-in_ok-right-in-Binary-clause-next : goal.inside-returns-in_ok-right-in-Binary-clause-next
inside-returns-in_ok-right-in-Binary-clause-next t c =
    let first = c.in_ok-left-in-Binary.ensures.next in
    let second = c.in_ok-right-in-Binary.ensures.next in
    let all = binary_roots c.args.tree.now c.deref-in-Binary.result.now c.deref-in-Binary-2.result.now c.in-Binary.operator c.in-Binary.of c.in-Binary.left c.in-Binary.right c.in-Binary.span c.in-Binary.is c.deref-in-Binary.ensures c.deref-in-Binary-2.ensures in
    omega (arith, first, second, all)

pub arguments-argument-requires : goal.arguments-argument-requires
arguments-argument-requires t c =
    let low = at_most size-Argument c.args.trees.now c.loop-tree.tree-index c.tree-item.result c.loop-tree-test.true in
    let same = ap size-Argument c.tree-item.is in (
      omega (arith, low, same, c.decreases),
      arguments_fit (map_of c.args.walk.now.map.now) c.args.walk.now.first _ _ _ _ _ _ c.loop-tree-test.true c.tree-item.is c.loop-tree.invariant c.requires,
    )
