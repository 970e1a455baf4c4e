use Rattle.std.proofs.Common.{◌∙◌, sym}
use Rattle.mc_cond.specs.Tree.{tree_of}
use Rattle.mc_probe.proofs.Kept.{equal_trees}
use Rattle.tests_report.proofs.make.mapped.Goals as goal

pub invariant_of-result : goal.invariant_of-result
invariant_of-result c = record {
  same = (equal_trees (tree_of c.in-Ok.numbering) (tree_of c.in_ok-tree.tree)).1 c.in-Ok.ensures.tree;
  placed = record {
    numbered = c.in_ok-tree.ensures.numbered;
    places = c.in_ok-conditions.ensures ∙ sym c.in_ok-tree.ensures.size;
  };
}
