use Rattle.std.proofs.Common.{◌+◌, ap, arith}
use Rattle.mc_cond.specs.Tree.{tree_of}
use Rattle.mc_paths.specs.Paths.{count_of}
use Rattle.mc_probe.proofs.Kept.{equal_trees}
use Rattle.tests_reduce.proofs.Maps.{one_based}
use Rattle.tests_reduce.proofs.make.map.Goals as goal

pub invariant_of-result : goal.invariant_of-result
invariant_of-result c =
    let d = c.in_ok-decision.decision in
    let same = ap count_of ((equal_trees (tree_of d.numbering) (tree_of d.decision.tree)).0 d.same) in
    let entries = c.in_ok-spans.ensures in
    let exits = c.in_ok-spans-2.ensures in
    let statements = c.in_ok-spans-3.ensures in
    let base = c.in_ok-decision.ensures in
    let count = c.count-bits.ensures.count in
    let most = c.count-bits.ensures.few in
    record {
      based = one_based c.in_ok-vec.field-0.items d _ (3 + c.count-bits.result) c.in_ok-vec.ensures.items (omega arith) (omega arith);
      few = omega arith;
    }
