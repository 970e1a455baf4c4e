use Rattle.mc_cond.specs.Tree.{tree_of}
use Rattle.mc_oblige.specs.steps.Table.{HasTest}
use Rattle.mc_oblige.proofs.Least.{one_more}
use Rattle.mc_oblige.proofs.outcomes.least_with.Goals as goal

pub loop-path-preserved : goal.loop-path-preserved
loop-path-preserved c =
    rw c.lesser-least.ensures
    (one_more (HasTest (tree_of c.args.numbering.now) c.args.tests.now c.args.outcome) c.loop-path.path c.loop-path.least c.test_with.result c.loop-path.invariant c.test_with.ensures)
