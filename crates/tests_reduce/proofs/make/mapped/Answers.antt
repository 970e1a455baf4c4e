use Rattle.std.proofs.Common.{◌∙◌}
use Rattle.mc_cond.specs.Tree.{tree_of}
use Rattle.mc_probe.proofs.Kept.{equal_trees}
use Rattle.tests_reduce.proofs.make.mapped.Goals as goal

pub invariant_of-result : goal.invariant_of-result
invariant_of-result c = record {
  same = (equal_trees (tree_of c.in_ok-numbering.numbering) (tree_of c.args.tree)).1 c.in_ok-numbering.ensures.tree;
  placed = record { numbered = c.requires; places = c.in_ok-places.ensures ∙ c.conditions.ensures };
}
