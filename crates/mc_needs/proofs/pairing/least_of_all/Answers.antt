use Rattle.mc_cond.specs.Tree.{tree_of}
use Rattle.mc_needs.proofs.Pairs.{least_of_all, never_none}
use Rattle.mc_needs.proofs.Trees.{numbered}
use Rattle.mc_needs.proofs.pairing.least_of_all.Goals as goal

pub unreachable-requires : goal.unreachable-requires
unreachable-requires c =
    let d = c.args.mapped.now in
    never_none c.args.mode (tree_of d.decision.tree) c.args.k (numbered d) c.args.paths.now c.requires.paths c.requires.condition c.in-None.ensures.none

pub returns : goal.returns
returns c =
    let d = c.args.mapped.now in
    least_of_all c.args.mode (tree_of d.decision.tree) c.args.k (numbered d) c.args.paths.now c.requires.paths c.in-Some.pair.0 c.in-Some.pair.1 c.in-Some.ensures.chosen
