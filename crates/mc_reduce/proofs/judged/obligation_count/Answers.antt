use Rattle.std.proofs.Common.{◌≡◌, ap, ◌∙◌, arith}
use Rattle.mc_cond.specs.Tree.{tree_of, size}
use Rattle.mc_reduce.proofs.Trees.{same_tree, few_conditions}
use Rattle.mc_reduce.proofs.judged.obligation_count.Goals as goal

pub overflow_add-result : goal.overflow_add-result
overflow_add-result c =
    let m = c.args.mapped.now in
    let same : c.conditions.result ≡ size (tree_of m.decision.tree) = c.conditions.ensures ∙ ap size (same_tree m) in
    omega (arith, same, few_conditions m)

pub returns-clause-value : goal.returns-clause-value
returns-clause-value c =
    let m = c.args.mapped.now in
    let same : c.conditions.result ≡ size (tree_of m.decision.tree) = c.conditions.ensures ∙ ap size (same_tree m) in
    omega (arith, same)

pub returns-clause-few : goal.returns-clause-few
returns-clause-few c =
    let m = c.args.mapped.now in
    let same : c.conditions.result ≡ size (tree_of m.decision.tree) = c.conditions.ensures ∙ ap size (same_tree m) in
    omega (arith, same, few_conditions m)
