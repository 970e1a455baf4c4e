use Rattle.std.proofs.Common.{◌<◌, ap, arith}
use Rattle.mc_cond.specs.Tree.{tree_of}
use Rattle.mc_paths.specs.Paths.{count_of}
use Rattle.mc_paths.proofs.Numbers.{in_use_below}
use Rattle.mc_needs.proofs.Having.{has_outcome}
use Rattle.mc_needs.proofs.Trees.{same_tree, numbered}
use Rattle.mc_needs.proofs.outcome.least_with.Goals as goal

pub unreachable-requires : goal.unreachable-requires
unreachable-requires c =
    let d = c.args.mapped.now in
    let t = tree_of d.decision.tree in
    let path = has_outcome t c.args.outcome (numbered d) in
    let own : path.0 < count_of t = in_use_below t path.0 (path.1.v, path.1.is_path) in
    c.loop-path.invariant path.0 (omega (arith, own, ap count_of (same_tree d), c.count-path-end.ensures.count, c.loop-path-test.false)) path.1
