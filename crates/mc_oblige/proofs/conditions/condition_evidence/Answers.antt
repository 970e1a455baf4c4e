use Rattle.std.proofs.Common.{◌≡◌, ℕ, ap, subst, arith}
use Rattle.mc_cond.specs.Tree.{size, tree_of}
use Rattle.mc_probe.proofs.Kept.{equal_trees}
use Rattle.mc_oblige.specs.steps.Found.{AreFoundBelow}
use Rattle.mc_oblige.proofs.Pairs.{found_more}
use Rattle.mc_oblige.proofs.conditions.condition_evidence.Goals as goal

pub pair_evidence-requires-clause-condition : goal.pair_evidence-requires-clause-condition
pair_evidence-requires-clause-condition c =
    let own = tree_of c.args.mapped.now.numbering in
    let tree = tree_of c.args.mapped.now.decision.tree in
    omega (arith, ap size ((equal_trees own tree).0 c.args.mapped.now.same))

pub loop-k-preserved : goal.loop-k-preserved
loop-k-preserved c =
    rw c.in_ok-push.ensures.items
    (found_more c.args.mode (tree_of c.args.mapped.now.decision.tree) c.args.tests.now c.loop-k.k c.loop-k.found.items c.pair_evidence.result c.loop-k.invariant c.pair_evidence.ensures)

pub returns : goal.returns
returns c =
    let own = tree_of c.args.mapped.now.numbering in
    let tree = tree_of c.args.mapped.now.decision.tree in
    let end : c.loop-k.k ≡ size tree = omega (arith, ap size ((equal_trees own tree).0 c.args.mapped.now.same)) in
    let P : ℕ → Type 0 = λ n. AreFoundBelow c.args.mode tree c.args.tests.now n c.loop-k.found.items in
    subst P end c.loop-k.invariant
